-- What a read answers, from what it asks; and that the place which is read lies in a plane that has samples. Assumes nothing.
use Rattle.std.proofs.Common.{◌≡◌, ℕ, zero, suc, ◌+◌, ◌*◌, ◌<◌, ◌≤◌, ℤ, pos, negsuc, Bool, true, false, cond, ◌&&◌, eqb, List, length, Option, Some, None, Result, Ok, Err, refl, sym, ap, ◌∙◌, arith}
use Rattle.std.proofs.Math.Nat.{mul-le-mul, mul_comm}
use lib.Ieee.Positive.{first_pos}
use Rattle.std.specs.Borrow.{Bor}
use Rattle.std.specs.List.{HoldsAt, slice_get}
use Rattle.std.specs.Option.{MatchOption, option_copied}
use Rattle.std.proofs.lemmas.Grind.{common_steps}
use Rattle.std.proofs.lemmas.Nat.{mul-add-lt}
use Rattle.std.proofs.lemmas.Option.{gets, slice_get-get_or, slice_get_past}
use Rattle.laws.specs.Limits.{side_limit}
use Rattle.frame.specs.Questions.{small, each}
use Rattle.frame.specs.Calls.{plane_numbers, plane_refusal}
use Rattle.plane_reader.specs.Read.{held_at, read_refusal, answered, sample_of}

-- a length that is asked about twice
twice : (b : Bool) → (b && (b && true)) ≡ (b && true)
twice true = refl
twice false = refl

once : (rows cols n : ℕ) → plane_refusal cols rows n n ≡ read_refusal rows cols n
unfolding plane_refusal plane_numbers each read_refusal
once rows cols n = ap (λ (b : Bool). cond (small cols rows).0 (cond b 0 5) 1) (twice (eqb n (cols * rows)))

answered-refused : (r n value : ℕ) → (r ≡ 0 → ⊥) → Err r ≡ answered r n value
answered-refused zero n value h = absurd (h refl)
answered-refused (suc r) n value h = refl

answered-accepted : (n value : ℕ) (found : Option ℕ) → (n ≡ 0 → found ≡ None) → (0 < n → found ≡ Some value) → Ok found ≡ answered 0 n value
answered-accepted zero value found none some = rw (none refl)
answered-accepted (suc n) value found none some = rw (some (omega arith))

-- ---- the place

held_at-lt : (n : ℕ) (z : ℤ) → 0 < n → held_at n z < n
held_at-lt n (pos k) h = omega arith
held_at-lt n (negsuc k) h = h

held_at-le : (n : ℕ) (z : ℤ) → held_at n z ≤ n
held_at-le n (pos k) = omega arith
held_at-le n (negsuc k) = omega arith

module _ (rows cols : ℕ) (row col : ℤ) where
  abbrev pub place : ℕ
  place = held_at rows row * cols + held_at cols col

  place-lt : 0 < cols * rows → place < cols * rows
  place-lt h =
      mul-add-lt (held_at rows row) cols (held_at cols col) rows
      (held_at-lt rows row (first_pos rows cols (rw mul_comm h))) (held_at-lt cols col (first_pos cols rows h))

  pub place-le : rows ≤ side_limit → cols ≤ side_limit → place ≤ side_limit * side_limit + side_limit
  place-le r c =
      let row-le : held_at rows row ≤ side_limit = omega (arith, held_at-le rows row) in
      let h : held_at rows row * cols ≤ side_limit * side_limit = mul-le-mul row-le c in
      omega (arith, held_at-le cols col)

-- what a slice's `get` finds, copied
pub option_copied-get : (s : List ℕ) (i : ℕ) (o : Option (Bor ℕ)) → MatchOption o (length s ≤ i) (λ x. (i < length s) × HoldsAt (λ y. x.now ≡ y) s i) → option_copied o ≡ slice_get s i
option_copied-get s i None h = sym (slice_get_past s i h)
option_copied-get s i (Some x) h = grind (arith, common_steps, gets)

-- ---- the answer

module _ (s : List ℕ) (rows cols : ℕ) (row col : ℤ) {r : ℕ} (e : r ≡ plane_refusal cols rows (length s) (length s)) where
  pub refused : (r ≡ 0 → ⊥) → ◌≡◌ {A = Result (Option ℕ) ℕ} (Err r) (sample_of s rows cols row col)
  unfolding sample_of
  refused h = rw (← (e ∙ once rows cols (length s))) (answered-refused r (length s) _ h)

  pub found : r ≡ 0 → length s ≡ cols * rows → ◌≡◌ {A = Result (Option ℕ) ℕ} (Ok (slice_get s (place rows cols row col))) (sample_of s rows cols row col)
  unfolding sample_of
  found z size =
      rw (← (e ∙ once rows cols (length s)), z)
      (answered-accepted (length s) _ _
      (λ z. slice_get_past s _ (omega arith))
      (λ h. slice_get-get_or s _ 0 (rw size (place-lt rows cols row col (omega arith)))))

-- The or of all samples of a plane is below 2^depth exactly when each sample is: what a loop knows that gathers them in any order. Assumes nothing.
use mathlib.Core.Path.{◌≡◌, refl, sym, ◌∙◌}
use mathlib.Core.Bool.{Bool, true, false}
use mathlib.Core.List.{List}
use mathlib.Core.Logic.{⊎_elim}
use Prim.Native.Nat.{ℕ, ◌+◌, ◌-◌, ◌*◌, ◌/◌, ◌≤◌, ◌<◌, ◌^◌, zero-le}
use native.Mathlib.Nat.{le_trans, lt_of_lt_of_le, lt_of_le_of_lt, lt_irrefl, eq-or-lt_of_le, div-eq_of_lt, div-eq-sub-div}
use native.Mathlib.Omega.{arith}
use lib.Bits.{bit_or, or_lt}
use lib.Dec.{ltb, eqb}
use lib.ListN.{length, get_or}
use lib.Pow.{pow_pos, pow_mono}
use borrow.Author.Tests.{ltb-true, ltb-false, lt-ltb, le-ltb, eq-eqb, ne_eqb}
use Rattle.std.proofs.lemmas.Nat.{le_or_l, le_or_r}
use Rattle.std.proofs.lemmas.Bool.{cases_lt}
use Rattle.frame.specs.Questions.{low}
use Rattle.frame.proofs.Samples.{low_below, below-low}

module _ (depth : ℕ) (xs : List ℕ) where
  -- the samples from a up to b are low
  abbrev pub Range : ℕ → ℕ → Type 0
  Range a b = (k : ℕ) → a ≤ k → k < b → get_or xs k 0 < 2 ^ depth

  range_none : (a b : ℕ) → b ≤ a → Range a b
  range_none a b m k h l = absurd (lt_irrefl k (lt_of_lt_of_le l (le_trans m h)))

  pub range-more : (a b c : ℕ) → c ≤ b + 1 → Range a b → get_or xs b 0 < 2 ^ depth → Range a c
  range-more a b c m r v k h l = let n : k ≤ b = omega arith in ⊎_elim (λ e. rw e v) (λ o. r k h o) (eq-or-lt_of_le n)

  -- i samples from the start of each quarter
  abbrev pub Quarters : ℕ → ℕ → Type 0
  Quarters q i = Range 0 i × Range q (q + i) × Range (2 * q) (2 * q + i) × Range (3 * q) (3 * q + i)

  pub quarters-none : (q : ℕ) → Quarters q 0
  quarters-none q = (range_none 0 0 (omega arith), range_none q (q + 0) (omega arith), range_none (2 * q) (2 * q + 0) (omega arith), range_none (3 * q) (3 * q + 0) (omega arith))

  pub quarters-all : (q i : ℕ) → q ≤ i → Quarters q i → Range 0 (4 * q)
  quarters-all q i m r k h l =
      ⊎_elim
      (λ o. r.0 k h (lt_of_lt_of_le o m))
      (λ a. ⊎_elim (λ o. r.1 k a (omega arith)) (λ b. ⊎_elim (λ o. r.2 k b (omega arith)) (λ o. r.3 k o (omega arith)) (cases_lt k (3 * q))) (cases_lt k (2 * q)))
      (cases_lt k q)

  -- one that is not low
  not_low : (k : ℕ) → 2 ^ depth ≤ get_or xs k 0 → low depth xs ≡ false
  not_low k h = go (low depth xs) refl
    where
      go : (t : Bool) → low depth xs ≡ t → low depth xs ≡ false
      go true e = absurd (lt_irrefl (2 ^ depth) (lt_of_le_of_lt h (low_below depth xs e k)))
      go false e = e

  -- bits answers for the samples passed, which are low if All holds
  pub record Gathered (All : Type 0) (bits : ℕ) : Type 0 where
    pub fits : bits < 2 ^ 16
    pub all : bits < 2 ^ depth → All
    pub some : 2 ^ depth ≤ bits → low depth xs ≡ false

  pub gathered_none : {All : Type 0} → All → Gathered All 0
  gathered_none a = record { fits = omega arith; all = λ h. a; some = λ h. absurd (lt_irrefl 0 (lt_of_lt_of_le (pow_pos depth) h)) }

  pub gathered-more : {All All' : Type 0} {bits : ℕ} (k : ℕ) → get_or xs k 0 < 2 ^ 16 → Gathered All bits → (All → get_or xs k 0 < 2 ^ depth → All') → Gathered All' (bit_or bits (get_or xs k 0))
  gathered-more {All} {All'} {bits} k x g f =
      let v = get_or xs k 0 in
      record {
        fits = or_lt 16 bits v g.fits x;
        all = λ h. f (g.all (lt_of_le_of_lt (le_or_l bits v) h)) (lt_of_le_of_lt (le_or_r bits v) h);
        some = λ h. ⊎_elim
            (λ l. ⊎_elim (λ m. absurd (lt_irrefl (2 ^ depth) (lt_of_le_of_lt h (or_lt depth bits v l m)))) (not_low k) (cases_lt v (2 ^ depth)))
            g.some (cases_lt bits (2 ^ depth));
      }

  -- a turn: one sample more of each quarter
  pub gathered-quarters : {bits : ℕ} (q i : ℕ) → ((k : ℕ) → get_or xs k 0 < 2 ^ 16) → Gathered (Quarters q i) bits
      → Gathered (Quarters q (i + 1)) (bit_or (bit_or (bit_or (bit_or bits (get_or xs i 0)) (get_or xs (q + i) 0)) (get_or xs (2 * q + i) 0)) (get_or xs (3 * q + i) 0))
  gathered-quarters {bits} q i x g =
      let n = i + 1 in
      let or₁ = bit_or bits (get_or xs i 0) in
      let or₂ = bit_or or₁ (get_or xs (q + i) 0) in
      let or₃ = bit_or or₂ (get_or xs (2 * q + i) 0) in
      let g₁ : Gathered (Range 0 n × Range q (q + i) × Range (2 * q) (2 * q + i) × Range (3 * q) (3 * q + i)) or₁ =
      gathered-more i (x i) g (λ r v. (range-more 0 i n (omega arith) r.0 v, r.1, r.2, r.3)) in
      let g₂ : Gathered (Range 0 n × Range q (q + n) × Range (2 * q) (2 * q + i) × Range (3 * q) (3 * q + i)) or₂ =
      gathered-more (q + i) (x (q + i)) g₁ (λ r v. (r.0, range-more q (q + i) (q + n) (omega arith) r.1 v, r.2, r.3)) in
      let g₃ : Gathered (Range 0 n × Range q (q + n) × Range (2 * q) (2 * q + n) × Range (3 * q) (3 * q + i)) or₃ =
      gathered-more (2 * q + i) (x (2 * q + i)) g₂ (λ r v. (r.0, r.1, range-more (2 * q) (2 * q + i) (2 * q + n) (omega arith) r.2 v, r.3)) in
      gathered-more (3 * q + i) (x (3 * q + i)) g₃ (λ r v. (r.0, r.1, r.2, range-more (3 * q) (3 * q + i) (3 * q + n) (omega arith) r.3 v))

  -- the same, known otherwise
  pub gathered-as : {All All' : Type 0} {bits : ℕ} → (All → All') → Gathered All bits → Gathered All' bits
  gathered-as f g = record { fits = g.fits; all = λ h. f (g.all h); some = g.some }

  -- ---- the plane's end
  answers : {bits : ℕ} → Gathered (Range 0 (length xs)) bits → low depth xs ≡ ltb bits (2 ^ depth)
  answers {bits} g =
      ⊎_elim
      (λ h. below-low depth xs (λ k l. g.all h k zero-le l) ∙ sym (lt-ltb bits (2 ^ depth) h))
      (λ h. g.some h ∙ sym (le-ltb bits (2 ^ depth) h))
      (cases_lt bits (2 ^ depth))

  -- a depth that every u16 fits
  pub gathered-any : {bits : ℕ} → Gathered (Range 0 (length xs)) bits → 16 ≤ depth → true ≡ low depth xs
  gathered-any {bits} g d = sym (answers g ∙ lt-ltb bits (2 ^ depth) (lt_of_lt_of_le g.fits (pow_mono d)))

  -- a depth that is shifted by
  pub gathered-shifted : (bits : ℕ) → Gathered (Range 0 (length xs)) bits → eqb (bits / 2 ^ depth) 0 ≡ low depth xs
  gathered-shifted bits g = shifted bits (2 ^ depth) (ltb bits (2 ^ depth)) (pow_pos depth) refl ∙ sym (answers g)
    where
      shifted : (a m : ℕ) (x : Bool) → 0 < m → ltb a m ≡ x → eqb (a / m) 0 ≡ x
      shifted a m true z e = eq-eqb (a / m) 0 (div-eq_of_lt (ltb-true a m e))
      shifted a m false z e = ne_eqb (a / m) 0 (λ d. let f : a / m ≡ (a - m) / m + 1 = div-eq-sub-div z (ltb-false a m e) in omega arith)

-- Question 6 of a lone plane is asked last, part by part: what the call answers where the others are passed. Assumes nothing.
use mathlib.Core.Path.{◌≡◌, refl, sym, ◌∙◌}
use mathlib.Core.Bool.{Bool, true, cond}
use mathlib.Core.List.{List, [], ◌∷◌, ◌++◌}
use Prim.Native.Nat.{ℕ, ◌*◌}
use native.Mathlib.Nat.{le_trans, le_of_eq}
use lib.ListN.{length}
use Rattle.laws.specs.Limits.{side_limit, plane_limit}
use Rattle.frame.specs.Questions.{Question, first_no, samples_low, all_low}
use Rattle.frame.specs.Calls.{pair_numbers, pair_refusal}
use Rattle.frame.proofs.FirstNo.{numbered, passed, first-no-append, stopped}
use Rattle.frame.proofs.Facts.{is-small, is-depth, are-each}
use Rattle.frame.proofs.Size.{area-le}
use Rattle.profile.specs.LowParts.{Copied}

-- the last question, where the others are passed
pub last-question : (qs : List Question) → numbered qs ≡ true → first_no qs ≡ 0 → (q : Question) {r : Bool} → r ≡ q.0 → first_no (qs ++ (q ∷ [])) ≡ cond r 0 q.1
last-question qs h e q p = first-no-append qs (q ∷ []) h ∙ rw (e, p)

module _ (w h depth : ℕ) (a b : List ℕ) {n : ℕ} (e : n ≡ first_no (pair_numbers w h depth (length a ∷ length b ∷ []))) where
  pub plane-stopped : (n ≡ 0 → ⊥) → n ≡ pair_refusal w h depth a b
  unfolding pair_refusal pair_numbers
  plane-stopped z = stopped (pair_numbers w h depth (length a ∷ length b ∷ [])) refl e (samples_low depth (a ∷ b ∷ []) ∷ []) z

  pub plane-asked : n ≡ 0 → {r : Bool} → r ≡ all_low depth (a ∷ b ∷ []) → pair_refusal w h depth a b ≡ cond r 0 6
  unfolding pair_refusal pair_numbers
  plane-asked z p = last-question (pair_numbers w h depth (length a ∷ length b ∷ [])) refl (sym e ∙ z) (samples_low depth (a ∷ b ∷ [])) p

  pub plane-pair : n ≡ 0 → Copied plane_limit depth a b
  unfolding pair_numbers
  plane-pair z =
      let lengths = length a ∷ length b ∷ [] in
      let p = passed (pair_numbers w h depth lengths) refl (sym e ∙ z) in
      let s = is-small w h p.0 in
      let d = is-depth depth p.1.0 in
      let l = are-each (w * h) lengths p.1.1.0 in
      record {
        same = l.0 ∙ sym l.1.0;
        few = le_trans (le_of_eq l.0) (area-le side_limit s.wide s.high);
        least-depth = d.least;
        most-depth = d.most;
      }

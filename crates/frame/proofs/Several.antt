-- A question that is put to several planes alike is passed exactly where each passes it. By induction over the planes. Assumes nothing.
use Rattle.std.proofs.Common.{◌≡◌, refl, ◌↔◌, Bool, true, false, ◌&&◌, List, [], ◌∷◌, map, ℕ, IsTrue, All, Bor, arith}
use mathlib.Core.Bool.{and-eq-true_iff, false≢true}
use borrow.Author.Tests.{eqb-true, eq-eqb}
use Rattle.std.proofs.lemmas.List.Elements.{All-cons, All-head, All-tail}
use Rattle.frame.specs.Questions.{each, low, all_low}

-- two answers that say the same fact
pub same_answer : {a b : Bool} {P : Type 0} → IsTrue a ↔ P → IsTrue b ↔ P → a ≡ b
same_answer {a = true} {b = true} p q = refl
same_answer {a = false} {b = false} p q = refl
same_answer {a = true} {b = false} p q = absurd (false≢true (q.1 (p.0 refl)))
same_answer {a = false} {b = true} p q = absurd (false≢true (p.1 (q.0 refl)))

-- an answer over a list that begins with one more
step : {X : Type 0} (P : X → Type 0) (x : X) (xs : List X) {a b : Bool} → IsTrue a ↔ P x → IsTrue b ↔ All P xs → IsTrue (a && b) ↔ All P (x ∷ xs)
step P x xs {a} {b} p q = (
  λ e. let h = (and-eq-true_iff a b).0 e in All-cons P x xs (p.0 h.0) (q.0 h.1),
  λ h. (and-eq-true_iff a b).1 (p.1 (All-head P x xs h), q.1 (All-tail P x xs h)),
)

none : {X : Type 0} (P : X → Type 0) → IsTrue true ↔ All P []
none P = (λ e k d h. absurd (omega arith), λ h. refl)

pub each-exactly : (n : ℕ) (ls : List ℕ) → IsTrue (each n ls) ↔ All (λ l. l ≡ n) ls
unfolding each
each-exactly n [] = none _
each-exactly n (l ∷ ls) = step (λ x. x ≡ n) l ls (eqb-true l n, eq-eqb l n) (each-exactly n ls)

pub all_low-exactly : (depth : ℕ) (planes : List (Bor (List ℕ))) → IsTrue (all_low depth (map (λ plane. plane.now) planes)) ↔ All (λ plane. low depth plane.now ≡ true) planes
unfolding all_low
all_low-exactly depth [] = none _
all_low-exactly depth (p ∷ ps) = step (λ plane. low depth plane.now ≡ true) p ps (λ e. e, λ e. e) (all_low-exactly depth ps)

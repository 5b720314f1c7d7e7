-- Laws of the first question that fails: a refused and an accepted call, questions asked after others, and an answer of 0. By cases on the answers. Assumes nothing.
use mathlib.Core.Path.{◌≡◌, refl, sym, ap, ◌∙◌}
use mathlib.Core.Bool.{Bool, true, false, cond, false≢true}
use mathlib.Core.List.{List, [], ◌∷◌, ◌++◌}
use Prim.Native.Nat.{ℕ, zero, suc}
use native.Mathlib.Omega.{arith}
use Rattle.frame.specs.Questions.{Question, first_no, accepted}
use Rattle.frame.specs.Cause.{Passed}
use Rattle.frame.specs.Refusal.{number}
use Rattle.frame.specs.declared.refusal.Refusal.{Refusal}
use Rattle.frame.specs.declared.refusal.Refusal.TheVariants.{SideAbove4096, EmptyFrame, Depth, Format, PlaneLength, SampleAboveDepth, LagAbove3, SolverOrder, RegisterBits, HeaderField, HeaderRoom, ActiveRectangle}

-- a refused call changes nothing, an accepted one brings the new
module _ {ℓ} {A : Type ℓ} where
  pub refused : (n : ℕ) (new old : A) → (n ≡ 0 → ⊥) → accepted n new old ≡ old
  refused zero new old h = absurd (h refl)
  refused (suc n) new old h = refl

  pub granted : (n : ℕ) (new old : A) → n ≡ 0 → accepted n new old ≡ new
  granted n new old e = rw e

-- an answer of the form `accepted n value (none n)`
module _ {A : Type 0} (value : A) (none : ℕ → A) {n m : ℕ} (e : n ≡ m) where
  pub answer-refused : (n ≡ 0 → ⊥) → none n ≡ accepted m value (none m)
  answer-refused z = ap none e ∙ sym (refused m value (none m) (λ d. z (e ∙ d)))

  pub answer-granted : n ≡ 0 → value ≡ accepted m value (none m)
  answer-granted z = sym (granted m value (none m) (sym e ∙ z))

-- every question has a number, which is not 0
abbrev pub numbered : List Question → Bool
numbered [] = true
numbered ((b, zero) ∷ qs) = false
numbered ((b, suc n) ∷ qs) = numbered qs

-- later questions are asked where the earlier ones are passed
pub first-no-append : (qs rs : List Question) → numbered qs ≡ true → first_no (qs ++ rs) ≡ accepted (first_no qs) (first_no rs) (first_no qs)
first-no-append [] rs h = refl
first-no-append ((true, suc n) ∷ qs) rs h = first-no-append qs rs h
first-no-append ((false, suc n) ∷ qs) rs h = refl
first-no-append ((b, zero) ∷ qs) rs h = absurd (false≢true h)

module _ (qs : List Question) (h : numbered qs ≡ true) {n : ℕ} (e : n ≡ first_no qs) where
  -- an earlier refusal stands
  pub stopped : (rs : List Question) → (n ≡ 0 → ⊥) → n ≡ first_no (qs ++ rs)
  stopped rs z = sym (first-no-append qs rs h ∙ rw (← e) (refused n (first_no rs) n z))

  -- later questions, once these are passed
  pub continued : (rs : List Question) {m : ℕ} → n ≡ 0 → m ≡ first_no rs → m ≡ first_no (qs ++ rs)
  continued rs z p = p ∙ sym (first-no-append qs rs h ∙ rw (← e) (granted n (first_no rs) n z))

  -- a question more, as `ask` answers it
  pub asked : (q : Question) {r : Bool} {m : ℕ} → m ≡ accepted n (cond r 0 q.1) n → r ≡ q.0 → m ≡ first_no (qs ++ (q ∷ []))
  asked q f p = f ∙ rw (p, e) (sym (first-no-append qs (q ∷ []) h))

-- ---- an answer of 0

pub passed : (qs : List Question) → numbered qs ≡ true → first_no qs ≡ 0 → Passed qs
passed [] h e = tt
passed ((true, suc n) ∷ qs) h e = (refl, passed qs h e)
passed ((false, suc n) ∷ qs) h e = absurd (omega arith)
passed ((b, zero) ∷ qs) h e = absurd (false≢true h)

pub all-passed : (qs : List Question) → Passed qs → first_no qs ≡ 0
all-passed [] p = refl
all-passed ((b, n) ∷ qs) p = rw p.0 (all-passed qs p.1)

both_zero : (m n : ℕ) → accepted m n m ≡ 0 → (m ≡ 0) × (n ≡ 0)
both_zero zero n e = (refl, e)
both_zero (suc m) n e = absurd (omega arith)

-- of questions asked after others: those pass, and these
pub parts : (qs rs : List Question) → numbered qs ≡ true → first_no (qs ++ rs) ≡ 0 → (first_no qs ≡ 0) × (first_no rs ≡ 0)
parts qs rs h e = both_zero (first_no qs) (first_no rs) (sym (first-no-append qs rs h) ∙ e)

pub both : (qs rs : List Question) → numbered qs ≡ true → first_no qs ≡ 0 → first_no rs ≡ 0 → first_no (qs ++ rs) ≡ 0
both qs rs h e f = first-no-append qs rs h ∙ rw (e, f)

-- ---- as code asks them: each refusal has a number

pub number-above : (e : Refusal) → number e ≡ 0 → ⊥
number-above SideAbove4096 z = absurd (omega arith)
number-above EmptyFrame z = absurd (omega arith)
number-above Depth z = absurd (omega arith)
number-above Format z = absurd (omega arith)
number-above PlaneLength z = absurd (omega arith)
number-above SampleAboveDepth z = absurd (omega arith)
number-above LagAbove3 z = absurd (omega arith)
number-above SolverOrder z = absurd (omega arith)
number-above RegisterBits z = absurd (omega arith)
number-above HeaderField z = absurd (omega arith)
number-above HeaderRoom z = absurd (omega arith)
number-above ActiveRectangle z = absurd (omega arith)

-- a refusal stands, whatever would be asked after it
pub stopped_by : (qs rs : List Question) → numbered qs ≡ true → (e : Refusal) → number e ≡ first_no qs → number e ≡ first_no (qs ++ rs)
stopped_by qs rs h e p = stopped qs h p rs (number-above e)

-- once these are passed, the answer is that of the later ones
pub after : (qs rs : List Question) → numbered qs ≡ true → 0 ≡ first_no qs → first_no (qs ++ rs) ≡ first_no rs
after qs rs h p = sym (continued qs h p rs refl refl)

-- The tests part the finite numbers above zero from what `root` gives by its cases, of which no digit is worked.
use Rattle.std.proofs.Common.{◌≡◌, zero, suc, true, false, T, sym, refl, ◌∙◌, subst, true≢false, arith, ltb-false, eqb-true}
use lib.Ieee.{Float, nan, inf, fin, lt, eq, of_bits}
use lib.Ieee.Positive.{positive, above}
use Rattle.float.specs.Root.{root}
use Rattle.float.specs.WorkedDigits.{worked_digits, worked_root}
use Rattle.float.proofs.Zero.{null, zero-lt, eq-zero}
use Rattle.float.proofs.root.sqrt_digits.Goals as goal
use Rattle.float.proofs.root.sqrt_digits.Goals.{then-x-3, else-x-3, else-x-via-then-x+else-x-2, else-x-via-else-x}

finite : (x : Float) → above x ≡ true → lt x (inf false) ≡ true → T (positive x)
unfolding lt
finite nan a l = absurd (subst T (sym a) tt)
finite (inf true) a l = absurd (subst T (sym a) tt)
finite (inf false) a l = absurd (subst T (sym l) tt)
finite (fin true m e) a l = absurd (subst T (sym a) tt)
finite (fin false m e) a l = subst T (sym a) tt

infinite : (x : Float) → eq x (inf false) ≡ true → record { value = x; digits = 0 } ≡ worked_root x
unfolding eq root worked_digits
infinite nan e = refl
infinite (inf true) e = cc
infinite (inf false) e = refl
infinite (fin s m d) e = cc

at_zero : (x : Float) → null x ≡ true → record { value = x; digits = 0 } ≡ worked_root x
unfolding root worked_digits
at_zero nan h = refl
at_zero (inf s) h = absurd (subst T (sym h) tt)
at_zero (fin s zero e) h = refl
at_zero (fin s (suc m) e) h = absurd (omega (arith, eqb-true (suc m) 0 h))

no-root : (x : Float) → above x ≡ false → null x ≡ false → record { value = nan; digits = 0 } ≡ worked_root x
unfolding root worked_digits
no-root nan a n = refl
no-root (inf true) a n = refl
no-root (inf false) a n = cc
no-root (fin s zero e) a n = cc
no-root (fin true (suc m) e) a n = refl
no-root (fin false (suc m) e) a n = absurd (omega (arith, ltb-false 0 (suc m) a))

-- nothing above zero is neither finite nor infinite
nothing : (x : Float) → above x ≡ true → lt x (inf false) ≡ false → eq x (inf false) ≡ true
unfolding lt eq
nothing nan a l = cc
nothing (inf true) a l = cc
nothing (inf false) a l = refl
nothing (fin true m d) a l = cc
nothing (fin false m d) a l = cc

pub positive_root-requires : goal.positive_root-requires
unfolding of_bits
positive_root-requires c = finite c.args.x (sym (zero-lt c.args.x) ∙ c.if-x.true) c.if-x-2.true

pub returns-then-x-4 : goal.returns-then-x-4
unfolding of_bits
returns-then-x-4 c =
    let x = c.args.x in
    elim c.if-x-3.branch [
      | then-x-3 w ↦ c.unworked.ensures ∙ at_zero x (sym (eq-zero x) ∙ w.if-x-3.true)
      | else-x-3 w ↦ c.unworked.ensures ∙ infinite x (sym w.value-is ∙ c.if-x-4.true)
    ]

pub returns-else-x-4 : goal.returns-else-x-4
unfolding of_bits
returns-else-x-4 c =
    let x = c.args.x in
    elim c.if-x-3.branch [
      | then-x-3 w ↦ absurd (true≢false (sym w.if-x-3.true ∙ sym w.value-is ∙ c.if-x-4.false))
      | else-x-3 w ↦
          elim c.else-x.branch [
            | else-x-via-then-x+else-x-2 v ↦
                absurd (true≢false (sym (nothing x (sym (zero-lt x) ∙ v.if-x.true) v.if-x-2.false) ∙ sym w.value-is ∙ c.if-x-4.false))
            | else-x-via-else-x v ↦
                c.unworked-else-x-4.ensures ∙ no-root x (sym (zero-lt x) ∙ v.if-x.false) (sym (eq-zero x) ∙ w.if-x-3.false)
          ]
    ]

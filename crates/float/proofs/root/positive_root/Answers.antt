-- x is n × 4 ^ s / 2 ^ 2148 by the first two calls; the digits and the rest of the third say how its root rounds, and how many of them were worked is the same for x.
use Rattle.std.proofs.Common.{◌≡◌, ℕ, ◌+◌, ◌-◌, ◌*◌, ◌^◌, ◌<◌, ◌≤◌, false, not, T, sym, ap, ◌∙◌, subst, add-one, arith, Fits, w64}
use lib.Ieee.{Float, binary64, nan_bits, of_bits}
use lib.Ieee.Exact.{HasValue}
use lib.Ieee.Positive.{positive}
use Rattle.float.specs.Digits.{EvenDigits}
use Rattle.float.specs.Root.{whole_root, root}
use Rattle.float.specs.WorkedDigits.{digits_of, worked_digits}
use Rattle.float.proofs.DigitsOf.{digits-scaled}
use Rattle.float.proofs.root.Normal.{root-of-value, digits-of-value}
use Rattle.float.proofs.root.Split.{Split, in-fours, split}
use Rattle.float.proofs.root.Rounded.{Rooted, stays, rises}
use Rattle.float.proofs.root.Bits.{from_bits, no-nan-bits}
use Rattle.float.proofs.root.positive_root.Goals as goal
use Rattle.float.proofs.root.positive_root.Goals.{then-digits, else-digits}

module _ (n s q rest : ℕ) (e : EvenDigits n s) (is : q ≡ whole_root (n * 2 ^ 52)) (left : rest ≡ n * 2 ^ 52 - q * q) where
  parts : Split (n * (2 ^ s * 2 ^ s)) (s - 26) q rest
  parts = split n s q rest e.lead e.few (omega (arith, e.low)) is left

  up : q < rest → Rooted (n * (2 ^ s * 2 ^ s)) (q + 1) (s - 26)
  up h = subst (λ (c : ℕ). Rooted (n * (2 ^ s * 2 ^ s)) c (s - 26)) (sym (add-one q)) (rises _ _ _ _ parts h)

  down : rest ≤ q → Rooted (n * (2 ^ s * 2 ^ s)) q (s - 26)
  down h = stays _ _ _ _ parts h

module _ (x : Float) (p : T (positive x)) (n s c : ℕ) (e : EvenDigits n s) (h : Rooted (n * (2 ^ s * 2 ^ s)) c (s - 26)) where
  small : s - 26 ≤ 2000
  small = omega (arith, e.high)

  pattern-fits : Fits w64 ((s - 26) * 2 ^ 52 + c)
  pattern-fits = omega (arith, small, h.hi)

  no-nan : T (not (nan_bits binary64 ((s - 26) * 2 ^ 52 + c)))
  no-nan = no-nan-bits _ c (s - 26) h small

  module _ (v : HasValue x false (n * (2 ^ s * 2 ^ s)) (2 ^ 1074 * 2 ^ 1074)) where
    value-is : of_bits binary64 ((s - 26) * 2 ^ 52 + c) ≡ root x
    value-is = from_bits _ c (s - 26) h small ∙ sym (root-of-value x _ p v)

-- how many digits were worked, of n and of x
worked : (x : Float) → T (positive x) → (n s : ℕ) → EvenDigits n s → HasValue x false (n * (2 ^ s * 2 ^ s)) (2 ^ 1074 * 2 ^ 1074) → digits_of (n * 2 ^ 52) ≡ worked_digits x
worked x p n s e v =
    sym (digits-scaled (n * 2 ^ 52) (s - 26) (omega (arith, e.lead)))
    ∙ ap digits_of (sym (in-fours n 26 s (omega (arith, e.low))))
    ∙ sym (digits-of-value x (n * (2 ^ s * 2 ^ s)) p v)

pub overflow_add-result : goal.overflow_add-result
overflow_add-result c =
    let b = c.even-under.result in
    let d = c.root_digits-digits in
    elim c.if-digits.branch [
      | then-digits w ↦ rw w.root-is (pattern-fits c.args.x c.requires b.m b.s _ b.even (up b.m b.s _ _ b.even d.ensures.0 d.ensures.1 w.if-digits.true))
      | else-digits w ↦ rw w.root-is (pattern-fits c.args.x c.requires b.m b.s _ b.even (down b.m b.s _ _ b.even d.ensures.0 d.ensures.1 w.if-digits.false))
    ]

pub float_from_bits-result : goal.float_from_bits-result
float_from_bits-result c =
    let b = c.even-under.result in
    let d = c.root_digits-digits in
    elim c.if-digits.branch [
      | then-digits w ↦ rw w.root-is (no-nan c.args.x c.requires b.m b.s _ b.even (up b.m b.s _ _ b.even d.ensures.0 d.ensures.1 w.if-digits.true))
      | else-digits w ↦ rw w.root-is (no-nan c.args.x c.requires b.m b.s _ b.even (down b.m b.s _ _ b.even d.ensures.0 d.ensures.1 w.if-digits.false))
    ]

pub returns : goal.returns
returns c =
    let x = c.args.x in
    let b = c.even-under.result in
    let d = c.root_digits-digits in
    let v = subst (λ (a : ℕ). HasValue x false a (2 ^ 1074 * 2 ^ 1074)) (sym c.even-under.ensures) c.unpacked.ensures in
    let k = d.ensures.2 ∙ worked x c.requires b.m b.s b.even v in
    elim c.if-digits.branch [
      | then-digits w ↦ rw (w.root-is, value-is x c.requires b.m b.s _ b.even (up b.m b.s _ _ b.even d.ensures.0 d.ensures.1 w.if-digits.true) v, k)
      | else-digits w ↦ rw (w.root-is, value-is x c.requires b.m b.s _ b.even (down b.m b.s _ _ b.even d.ensures.0 d.ensures.1 w.if-digits.false) v, k)
    ]

-- The fields of the bit pattern k × 2 ^ 52 + c are k + 1 and c less its leading digit, or 0 and c.
use Rattle.std.proofs.Common.{◌≡◌, ℕ, ◌+◌, ◌*◌, ◌/◌, ◌%◌, ◌^◌, ◌≤◌, false, not, T, sym, ap, ◌∙◌, subst, inl, inr, eq-zero-or-pos, mul-one, arith}
use lib.Ieee.{Float, nan, inf, fin, binary64, is_nan, to_bits}
use lib.Ieee.Exact.{HasValue}
use lib.Ieee.Positive.{positive}
use Rattle.float.proofs.root.Pattern.{Pattern, pattern}
use Rattle.float.proofs.root.Normal.{scaled, scaled-up}
use Rattle.float.proofs.scaled.Scaled.unpacked.Goals as goal
use Rattle.float.proofs.scaled.Scaled.unpacked.Goals.{then-exponent-eq0, else-exponent-eq0}

number : (x : Float) → T (positive x) → T (not (is_nan x))
unfolding is_nan
number nan p = absurd p
number (inf s) p = tt
number (fin s m e) p = tt

-- ---- the fields
module _ (x : Float) (p : Pattern x) where
  low_field : to_bits binary64 x / 2 ^ 52 ≡ 0 → (p.k ≡ 0) × (to_bits binary64 x % 2 ^ 52 ≡ p.c)
  low_field h = (omega (arith, p.bits), omega (arith, p.bits))

  low_value : to_bits binary64 x / 2 ^ 52 ≡ 0 → HasValue x false (to_bits binary64 x % 2 ^ 52 * 2 ^ 1074) (2 ^ 1074 * 2 ^ 1074)
  low_value h =
      subst (λ (a : ℕ). HasValue x false (a * 2 ^ 1074) (2 ^ 1074 * 2 ^ 1074)) (ap (λ (k : ℕ). p.c * 2 ^ k) (low_field h).0 ∙ mul-one p.c ∙ sym (low_field h).1)
      (scaled x (p.c * 2 ^ p.k) p.value)

  high-field : (to_bits binary64 x / 2 ^ 52 ≡ 0 → ⊥) → (to_bits binary64 x % 2 ^ 52 + 2 ^ 52 ≡ p.c) × (to_bits binary64 x / 2 ^ 52 + 1073 ≡ p.k + 1074)
  high-field h =
      let lead : 2 ^ 52 ≤ p.c = elim (eq-zero-or-pos p.k) [ inl z ↦ omega (arith, p.bits) | inr k ↦ p.lead k ] in
      (omega (arith, p.bits), omega (arith, p.bits))

  high_value : (h : to_bits binary64 x / 2 ^ 52 ≡ 0 → ⊥)
      → HasValue x false ((to_bits binary64 x % 2 ^ 52 + 2 ^ 52) * 2 ^ (to_bits binary64 x / 2 ^ 52 + 1073)) (2 ^ 1074 * 2 ^ 1074)
  high_value h = rw ((high-field h).0, (high-field h).1) (scaled-up x p)

pub float_to_bits-bits : goal.float_to_bits-bits
float_to_bits-bits c = number c.args.x c.requires

pub leading-requires : goal.leading-requires
leading-requires c =
    let p = pattern c.args.x (subst T (sym c.well_formed.0.1) tt) c.requires in
    (omega (arith, (low_field c.args.x p c.if-exponent-eq0.true).1, p.some), omega arith)

pub overflow_add-result-else-exponent-eq0 : goal.overflow_add-result-else-exponent-eq0
overflow_add-result-else-exponent-eq0 c =
    let p = pattern c.args.x (subst T (sym c.well_formed.0.1) tt) c.requires in
    omega (arith, (high-field c.args.x p c.if-exponent-eq0.false).1, p.top)

pub invariant_of-result : goal.invariant_of-result
invariant_of-result c =
    let x = c.args.x in
    let p = pattern x (subst T (sym c.well_formed.0.1) tt) c.requires in
    elim c.if-exponent-eq0.branch [
      | then-exponent-eq0 w ↦ rw w.result-is (record { full = w.leading.result.full })
      | else-exponent-eq0 w ↦
          let f = high-field x p w.if-exponent-eq0.false in
          rw w.result-is (record { full = record { lead = omega arith; few = omega (arith, f.0, p.few); low = omega (arith, f.1); high = omega (arith, f.1, p.top) } })
    ]

pub returns : goal.returns
returns c =
    let x = c.args.x in
    let p = pattern x (subst T (sym c.well_formed.0.1) tt) c.requires in
    elim c.if-exponent-eq0.branch [
      | then-exponent-eq0 w ↦
          rw w.result-is (subst (λ (a : ℕ). HasValue x false a (2 ^ 1074 * 2 ^ 1074)) (sym w.leading.ensures) (low_value x p w.if-exponent-eq0.true))
      | else-exponent-eq0 w ↦ rw w.result-is (high_value x p w.if-exponent-eq0.false)
    ]

-- The steps are the calls' results in turn.
use Rattle.std.proofs.Common.{◌≡◌, ℕ, pos, ap, ◌∙◌, ne_eqb}
use lib.Ieee.{Float, binary64, mul, div, of_int, to_unsigned}
use Rattle.laws.specs.Constants.{sixteen}
use Rattle.laws.proofs.Constants.{sixteen-bits}
use Rattle.float.specs.Round.{round_half_away}
use Rattle.float.specs.Root.{root}
use Rattle.float.specs.Steps.{deviation16, sigma16_of}
use Rattle.float.proofs.sigma.sigma16.Goals as goal

some : (sq count : ℕ) (a b z x : Float) → (count ≡ 0 → ⊥) → a ≡ of_int binary64 (pos sq) → b ≡ of_int binary64 (pos count) → z ≡ root (div binary64 a b) → x ≡ sixteen
    → to_unsigned 64 (round_half_away (mul binary64 z x)) ≡ sigma16_of sq count
unfolding sigma16_of deviation16
some sq count a b z x n ea eb ez ex = rw (ne_eqb count 0 n, ez, ea, eb, ex)

pub returns : goal.returns
returns c =
    c.as_u64.ensures ∙ ap (to_unsigned 64) c.round.ensures
    ∙ some c.args.sq c.args.count _ _ _ _ c.if-count-eq0.false c.nearest_u64_to_f64-a.ensures c.nearest_u64_to_f64-b.ensures c.sqrt.ensures sixteen-bits

-- The steps are the calls' results in turn.
use Rattle.std.proofs.Common.{◌≡◌, ℤ, pos, neg_ℤ, ap, ◌∙◌, w32, SFits, to_z, of_z}
use lib.Ieee.{Float, binary64, mul, of_bits, to_signed}
use mir.ValLaws.{to_z-of_z}
use Rattle.laws.proofs.Constants.{sixty-four-bits}
use Rattle.float.specs.Clamp.{clamp_of}
use Rattle.float.specs.Round.{round_half_away}
use Rattle.float.specs.Steps.{rounded64, quant_ar}
use Rattle.float.proofs.quant.quant_ar.Goals as goal

-- 64.0 by its bits
whole_is : (c rounded : Float) (whole : ℤ) → rounded ≡ round_half_away (mul binary64 c (of_bits binary64 4634204016564240384)) → whole ≡ to_signed 31 rounded → SFits w32 whole → to_z w32 (of_z w32 whole) ≡ rounded64 c
whole_is c rounded whole r w f = to_z-of_z w32 whole f ∙ w ∙ ap (to_signed 31) (r ∙ ap (λ (x : Float). round_half_away (mul binary64 c x)) sixty-four-bits)

pub mark_of-requires : goal.mark_of-requires
mark_of-requires c = whole_is c.args.c _ _ c.round.ensures c.as_i32-whole.ensures (record { sfits = c.as_i32-whole.type_inv })

pub returns : goal.returns
unfolding quant_ar
returns c =
    let held = to_z-of_z w32 c.clamp.result (record { sfits = c.clamp.type_inv })
    ∙ c.clamp.ensures
    ∙ ap (λ (z : ℤ). clamp_of z (neg_ℤ (pos 128)) (pos 127)) (whole_is c.args.c _ _ c.round.ensures c.as_i32-whole.ensures (record { sfits = c.as_i32-whole.type_inv })) in
    λ i. record { coefficient = held i; mark = c.mark_of.ensures i }

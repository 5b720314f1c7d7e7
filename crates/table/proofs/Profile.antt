-- Every row of the tables holds, by computation; that the view of a whole plane is the plane spares looking at it place by place. Assumes nothing.
use mathlib.Core.Path.{◌≡◌, refl}
use Prim.Native.Nat.{◌-◌, ◌*◌}
use lib.ListN.{length}
use lib.Ieee.{mul, div, of_int, of_bits, to_unsigned}
use Rattle.table.specs.Cases.{Right}
use Rattle.frame.specs.Questions.{accepted, each, low, all_low}
use Rattle.frame.specs.Calls.{pair_numbers, shape_numbers, frame_numbers, copy_questions, pair_refusal, frame_refusal}
use Rattle.frame.specs.Size.{chroma_width, chroma_height}
use Rattle.frame.specs.View.{viewed}
use Rattle.frame.proofs.Viewed.{viewed-whole}
use Rattle.laws.specs.Loop.{loop, turns}
use Rattle.float.specs.Root.{root}
use Rattle.float.specs.Steps.{sigma16_of}
use Rattle.profile.specs.Steps.{plane_squares, plane_sigma16, totals, sigma_of_bin, profile}
use Rattle.profile.specs.Answers.{sigma_of, no_sigma, sigma_answer, estimate_answer}
use Rattle.profile.specs.declared.Sigma.{Sigma}
use Rattle.table.specs.Profile.{Call, sigma, sigma_cases, estimate, estimate_cases, bin, bin_cases, least, least_cases}

-- the answer of the planes themselves
abbrev of_planes : Call → Sigma
of_planes c =
    let n = pair_refusal c.width c.height c.depth c.source c.denoised in
    accepted n (sigma_of (plane_sigma16 (c.depth - 8) c.source c.denoised)) (no_sigma n)

of-planes : (c : Call) {r : Sigma} → length c.source ≡ c.width * c.height → length c.denoised ≡ c.width * c.height → of_planes c ≡ r → sigma c ≡ r
unfolding sigma_answer
of-planes c e f g = rw (viewed-whole c.width c.height c.source e, viewed-whole c.width c.height c.denoised f) g

pub sigma-cases-right : Right sigma sigma_cases
unfolding pair_refusal pair_numbers each low all_low plane_sigma16 plane_squares sigma16_of mul div of_int of_bits to_unsigned
sigma-cases-right =
    (of-planes _ refl refl refl, (of-planes _ refl refl refl, (of-planes _ refl refl refl, (of-planes _ refl refl refl, (of-planes _ refl refl refl, (of-planes _ refl refl refl, (of-planes _ refl refl refl, tt)))))))

pub estimate-cases-right : Right estimate estimate_cases
unfolding estimate_answer viewed profile totals sigma_of_bin frame_refusal copy_questions frame_numbers shape_numbers chroma_width chroma_height each low all_low sigma16_of loop turns root mul div of_int of_bits to_unsigned
estimate-cases-right = (refl, (refl, tt))

pub bin-cases-right : Right bin bin_cases
bin-cases-right = (refl, (refl, (refl, (refl, (refl, tt)))))

pub least-cases-right : Right least least_cases
least-cases-right = (refl, (refl, (refl, (refl, (refl, tt)))))

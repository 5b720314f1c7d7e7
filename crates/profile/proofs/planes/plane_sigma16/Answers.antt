-- `profile::planes::plane_sigma16`: a refusal by the numbers, one by the samples, and the figure.
use Rattle.std.proofs.Common.{◌≡◌, ℕ, Some, None, length, refl, sym, ap, ◌∙◌, arith}
use Rattle.std.proofs.lemmas.Grind.{common_steps}
use Rattle.float.specs.Steps.{sigma16_of}
use Rattle.frame.proofs.FirstNo.{number-above}
use Rattle.profile.specs.Steps.{plane_sigma16}
use Rattle.profile.proofs.LowParts.{low-some, low-nothing}
use Rattle.profile.proofs.Asked.{plane-stopped, plane-asked, plane-pair}
use Rattle.profile.proofs.Answered.{sigma-refused, sigma-accepted}
use Rattle.profile.proofs.planes.plane_sigma16.Goals as goal

pub returns-in_err-ask_pair_numbers : goal.returns-in_err-ask_pair_numbers
returns-in_err-ask_pair_numbers c =
    let a = c.args in
    let p = a.plane in
    let n = plane-stopped a.width a.height a.depth p.source.now p.denoised.now c.in_err-ask_pair_numbers.ensures (number-above _) in
    let h = sigma-refused a.width a.height a.depth p.source.now p.denoised.now n (number-above _) in
    grind (arith, common_steps, h)

pub plane_squares-requires : goal.plane_squares-requires
plane_squares-requires c =
    let a = c.args in
    let p = a.plane in
    plane-pair a.width a.height a.depth p.source.now p.denoised.now c.in_ok-ask_pair_numbers.ensures refl

pub returns-in_err-squares : goal.returns-in_err-squares
returns-in_err-squares c =
    let a = c.args in
    let p = a.plane in
    let nothing : None ≡ c.plane_squares.result = grind arith in
    let n = plane-asked a.width a.height a.depth p.source.now p.denoised.now c.in_ok-ask_pair_numbers.ensures refl (sym (low-nothing _ _ (nothing ∙ c.plane_squares.ensures))) in
    let h = sigma-refused a.width a.height a.depth p.source.now p.denoised.now (sym n) (λ e. omega arith) in
    grind (arith, common_steps, h)

pub returns : goal.returns
unfolding plane_sigma16
returns c =
    let a = c.args in
    let p = a.plane in
    let some : Some c.in_ok-squares.squares ≡ c.plane_squares.result = grind arith in
    let found = low-some _ (some ∙ c.plane_squares.ensures) in
    let n = plane-asked a.width a.height a.depth p.source.now p.denoised.now c.in_ok-ask_pair_numbers.ensures refl (sym found.0) in
    sigma-accepted a.width a.height a.depth p.source.now p.denoised.now (sym n) refl (c.sigma16.ensures ∙ ap (λ (sq : ℕ). sigma16_of sq (length p.source.now)) found.1)

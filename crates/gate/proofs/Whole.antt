-- The row correlation is of the lent planes themselves: what an accepted call sees is all of them. Assumes nothing.
use Rattle.std.proofs.Common.{Ok, ◌≡◌, ℕ, zero, suc, List, refl, ap}
use lib.Ieee.{Float}
use Rattle.frame.specs.Calls.{pair_refusal}
use Rattle.noise.specs.Noise.{Pair, pair}
use Rattle.noise.proofs.SeenCalls.{pair-whole}
use Rattle.gate.specs.RowCorrelation.{row_correlation}
use Rattle.gate.specs.Answers.{rho, rho_answer}

pub rho-whole : (a b : List ℕ) (w h lag depth : ℕ) → rho_answer a b w h lag depth ≡ rho (pair_refusal w h depth a b) (row_correlation (pair a b w h) lag)
unfolding rho_answer
rho-whole a b w h lag depth = go (pair_refusal w h depth a b) (λ e. ap (λ (p : Pair). row_correlation p lag) (pair-whole w h depth a b e))
  where
    go : (n : ℕ) {x y : Float} → (n ≡ 0 → x ≡ y) → rho n x ≡ rho n y
    go zero e = ap Ok (e refl)
    go (suc n) e = refl

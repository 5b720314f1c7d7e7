-- "the sums of noise products that the calls make are cases of it": each f64 sum of an accepted gate or row correlation adds a product of demand 3 over a set of its positions, in the Rust's order. Assumes nothing.
use Rattle.std.proofs.Common.{◌≡◌, ℕ, ◌-◌, List, refl, ◌∙◌, arith}
use Rattle.laws.specs.Limits.{plane_limit, sample_limit}
use Rattle.frame.specs.View.{whole}
use Rattle.frame.specs.Planes.{view_of}
use Rattle.frame.specs.Calls.{pair_refusal, gate_refusal}
use Rattle.frame.specs.declared.Shape.{Shape}
use Rattle.frame.specs.declared.view.Component.TheVariants.{Y, CbCr}
use Rattle.noise.specs.Noise.{Pair}
use Rattle.noise.specs.Products.{own, onward}
use Rattle.noise.specs.Seen.{seen}
use Rattle.noise.specs.Claim.{Limited, Case}
use Rattle.noise.specs.Steps.{window_f, dot_f}
use Rattle.noise.proofs.SeenCalls.{pair-seen, first-seen, second-seen}
use Rattle.noise.proofs.Steps.{frame-case, onward-exists, dot-window, lag-window}
use Rattle.gate.specs.RowCorrelation.{energy_f}
use Rattle.gate.proofs.PlaneSums.{limited}
use Rattle.gate.specs.Demand.{everywhere, before, RowCases, PairCases, LumaCases, ChromaCases}

-- samples within the frame's limit
abbrev Low : Pair → Type 0
Low p = Limited plane_limit sample_limit (own p)

-- a noise and, of a plane of the same size, the one `lag` columns on
lagged-case : (p q : Pair) (lag : ℕ) → q.width ≡ p.width → q.height ≡ p.height → Low p → Low q → Case (own p) (onward q lag) (before p lag) (window_f (own p) (onward q lag) 0 p.height 0 (p.width - lag))
lagged-case p q lag wide high S T =
    frame-case (own p) (onward q lag) 0 p.height 0 (p.width - lag)
    (λ y x h k l m. (onward-exists p 0 y x k (omega arith), onward-exists q lag y x (omega arith) (omega arith))) S T

-- at one place
place-case : (p q : Pair) → q.width ≡ p.width → q.height ≡ p.height → Low p → Low q → Case (own p) (own q) (everywhere p) (window_f (own p) (own q) 0 p.height 0 p.width)
place-case p q wide high S T =
    frame-case (own p) (own q) 0 p.height 0 p.width
    (λ y x h k l m. (onward-exists p 0 y x k (omega arith), onward-exists q 0 y x (omega arith) (omega arith))) S T

dot-case : (p q : Pair) → q.width ≡ p.width → q.height ≡ p.height → Low p → Low q → Case (own p) (own q) (everywhere p) (dot_f p q)
dot-case p q wide high S T =
    let c = place-case p q wide high S T in
    record { positions = c.positions; added = dot-window p q wide high ∙ c.added; exact = c.exact }

row-cases : (p : Pair) (lag : ℕ) → Low p → RowCases p lag
unfolding energy_f
row-cases p lag S =
    let c = lagged-case p p lag refl refl S S in
    record {
      energy = place-case p p refl refl S S;
      lagged = record { positions = c.positions; added = lag-window p lag ∙ c.added; exact = c.exact };
    }

pair-cases : (p q : Pair) → q.width ≡ p.width → q.height ≡ p.height → Low p → Low q → PairCases p q
pair-cases p q wide high S T = record {
  first = dot-case p p refl refl S S;
  second = dot-case q q refl refl T T;
  cross = dot-case p q wide high S T;
}

-- ---- of accepted calls
pub lag-h-rho-sums : (a b : List ℕ) (w h lag depth : ℕ) → pair_refusal w h depth a b ≡ 0 → RowCases (seen (whole w h) a b) lag
lag-h-rho-sums a b w h lag depth e = row-cases _ lag (limited (pair-seen w h depth a b e))

module _ (s : Shape) (a b c d : List ℕ) where
  pub film-grain-probe-sums : gate_refusal s Y a b c d ≡ 0 → LumaCases (seen (view_of s Y) a b) (seen (view_of s Y) c d)
  film-grain-probe-sums e =
      let S = limited (first-seen s Y a b c d e) in
      let T = limited (second-seen s Y a b c d e) in
      record { planes = pair-cases _ _ refl refl S T; row = lagged-case _ _ 1 refl refl S S }

  pub chroma-noise-gate-sums : gate_refusal s CbCr a b c d ≡ 0 → ChromaCases (seen (view_of s CbCr) a b) (seen (view_of s CbCr) c d)
  chroma-noise-gate-sums e =
      let S = limited (first-seen s CbCr a b c d e) in
      let T = limited (second-seen s CbCr a b c d e) in
      record { planes = pair-cases _ _ refl refl S T; row = row-cases _ 1 S }

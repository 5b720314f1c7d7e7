-- Each accumulator of the Rust's one pass is the sum that the definitions give it, so the solver is handed what the Rust hands it: no turn reads another accumulator, and a place adds to each once. Assumes nothing.
use Rattle.std.proofs.Common.{◌≡◌, ℕ, ◌-◌, ◌<◌, ◌≤◌, Bool, true, false, cond, ◌&&◌, eqb, leb, sym, refl, ap, ◌∙◌, zero-le, lt_of_le_of_lt, le_of_lt, leb-false, leb-true}
use lib.Ieee.{Float, binary64, add}
use Rattle.laws.specs.Loop.{loop}
use Rattle.laws.specs.Scaled.{plus_zero}
use Rattle.laws.specs.Window.{Place}
use Rattle.laws.proofs.Table.{tabulate-same}
use Rattle.laws.proofs.Accumulators.{loop-part, loops-part, loop-still, loop-only}
use Rattle.noise.specs.Noise.{Pair}
use Rattle.noise.specs.Products.{Factor, own, product_f}
use Rattle.noise.specs.Steps.{window_f}
use Rattle.solve.specs.Answer.{solved_of}
use Rattle.fit.specs.Steps.{fit_f, ata_of, atb_of, solved_fit, energy_f}
use Rattle.fit.specs.OnePass.{Accumulators, blank, add_cell, row_turn, place_turn, one_pass}
use Rattle.fit.proofs.RustMatrix.{rust-solved}

module _ (plane : Pair) (row : ℕ → Factor) (p : ℕ) where
  -- ---- one place
  module _ (place : Place) where
    abbrev cells : ℕ → ℕ → Accumulators → Accumulators
    cells i j s = add_cell i j (product_f (row i) (row j) place) s

    var-turn : (s : Accumulators) → (place_turn plane row p place s).var ≡ add binary64 s.var (product_f (own plane) (own plane) place)
    var-turn s =
        loop-part (λ (s : Accumulators). s.var) (row_turn plane row p place) (λ i x. x)
        (λ i s. loop-part (λ (s : Accumulators). s.var) (cells i) (λ j x. x) (λ j s. refl) i p s ∙ loop-still i p s.var) 0 p _
        ∙ loop-still 0 p _

    right-turn : (k : ℕ) → k < p → (s : Accumulators) → (place_turn plane row p place s).atb k ≡ add binary64 (s.atb k) (product_f (row k) (own plane) place)
    right-turn k l s =
        loop-part (λ (s : Accumulators). s.atb k) (row_turn plane row p place) (λ i x. cond (eqb i k) (add binary64 x (product_f (row i) (own plane) place)) x)
        (λ i s. ap (λ (x : Float). cond (eqb i k) (add binary64 x (product_f (row i) (own plane) place)) x)
        (loop-part (λ (s : Accumulators). s.atb k) (cells i) (λ j x. x) (λ j s. refl) i p s ∙ loop-still i p (s.atb k))) 0 p _
        ∙ loop-only (λ i x. add binary64 x (product_f (row i) (own plane) place)) k 0 p (s.atb k) zero-le l

    -- of the turns i and j, those of the cell
    module _ (k l : ℕ) (upper : k ≤ l) (few : l < p) where
      abbrev along : ℕ → Float → Float
      along i x = loop i p (λ j x. cond (eqb j l) (add binary64 x (product_f (row i) (row j) place)) x) x

      row-turn : (i : ℕ) (s : Accumulators) → (row_turn plane row p place i s).ata k l ≡ cond (eqb i k) (along i (s.ata k l)) (s.ata k l)
      row-turn i s =
          loop-part (λ (s : Accumulators). s.ata k l) (cells i) (λ j x. cond (eqb i k && eqb j l) (add binary64 x (product_f (row i) (row j) place)) x) (λ j s. refl) i p s
          ∙ go (eqb i k)
        where
          go : (b : Bool) → loop i p (λ j x. cond (b && eqb j l) (add binary64 x (product_f (row i) (row j) place)) x) (s.ata k l) ≡ cond b (along i (s.ata k l)) (s.ata k l)
          go true = refl
          go false = loop-still i p (s.ata k l)

      cell-turn : (s : Accumulators) → (place_turn plane row p place s).ata k l ≡ add binary64 (s.ata k l) (product_f (row k) (row l) place)
      cell-turn s =
          loop-part (λ (s : Accumulators). s.ata k l) (row_turn plane row p place) (λ i x. cond (eqb i k) (along i x) x) row-turn 0 p _
          ∙ loop-only along k 0 p (s.ata k l) zero-le (lt_of_le_of_lt upper few)
          ∙ loop-only (λ j x. add binary64 x (product_f (row k) (row j) place)) l k p (s.ata k l) upper few

  -- ---- the pass
  module _ (lag : ℕ) where
    abbrev pass : Accumulators
    pass = one_pass plane lag row p

    taken-apart : (part : Accumulators → Float) (u v : Factor) → part blank ≡ plus_zero → ((place : Place) (s : Accumulators) → part (place_turn plane row p place s) ≡ add binary64 (part s) (product_f u v place))
        → part pass ≡ fit_f plane lag u v
    unfolding fit_f window_f
    taken-apart part u v start turn =
        loops-part part (λ y x. place_turn plane row p (y, x)) (λ y x s. add binary64 s (product_f u v (y, x))) (λ y x s. turn (y, x) s) lag plane.height lag (plane.width - lag) blank
        ∙ ap (loop lag plane.height (λ y. loop lag (plane.width - lag) (λ x s. add binary64 s (product_f u v (y, x))))) start

    pub pass-var : pass.var ≡ energy_f plane lag
    unfolding energy_f
    pass-var = taken-apart (λ s. s.var) (own plane) (own plane) refl var-turn

    pub pass-cell : (i j : ℕ) → i ≤ j → j < p → pass.ata i j ≡ fit_f plane lag (row i) (row j)
    pass-cell i j h l = taken-apart (λ s. s.ata i j) (row i) (row j) refl (λ place. cell-turn place i j h l)

    pub pass-right : (i : ℕ) → i < p → pass.atb i ≡ fit_f plane lag (row i) (own plane)
    pass-right i l = taken-apart (λ s. s.atb i) (row i) (own plane) refl (λ place. right-turn place i l)

    -- what the solver is handed: the upper half, copied to the lower one, and the right side
    ata-same : ata_of (λ i j. fit_f plane lag (row i) (row j)) p ≡ ata_of pass.ata p
    ata-same = tabulate-same p _ _ (λ i l. tabulate-same p _ _ (λ j m. go i j l m (leb i j) refl))
      where
        go : (i j : ℕ) → i < p → j < p → (b : Bool) → leb i j ≡ b
            → cond b (fit_f plane lag (row i) (row j)) (fit_f plane lag (row j) (row i)) ≡ cond b (pass.ata i j) (pass.ata j i)
        go i j l m true e = sym (pass-cell i j (leb-true i j e) m)
        go i j l m false e = sym (pass-cell j i (le_of_lt (leb-false i j e)) l)

    atb-same : atb_of (λ i. fit_f plane lag (row i) (own plane)) p ≡ atb_of pass.atb p
    atb-same = tabulate-same p _ _ (λ i l. sym (pass-right i l))

    pub rust-passed : p ≤ 25 → solved_fit plane lag row p ≡ solved_of (ata_of pass.ata p) (atb_of pass.atb p) p
    rust-passed h = rust-solved plane lag row p h ∙ (λ i. solved_of (ata-same i) (atb-same i) p)

-- The loop of `ls_fit_ar` and of `fit_chroma` as the Rust has it: one pass over the window adds to every accumulator at each place. `Steps` gives each a loop of its own; a theorem takes the pass apart. (Chroma has no `var`.)
use Rattle.std.specs.Prelude.{ℕ, ◌-◌, cond, ◌&&◌, ◌==◌, Float}
use Rattle.std.specs.Float.{binary64}
use Rattle.std.specs.Float.Ieee.{add}
use Rattle.laws.specs.Loop.{loop}
use Rattle.laws.specs.Scaled.{plus_zero}
use Rattle.laws.specs.Window.{Place}
use Rattle.noise.specs.Noise.{Pair}
use Rattle.noise.specs.Products.{Factor, own, product_f}

-- `var`, `ata` and `atb`, by index
pub record Accumulators : Type 0 where
  pub var : Float
  pub ata : ℕ → ℕ → Float
  pub atb : ℕ → Float

-- `vec![vec![0.0f64; p]; p]`, `vec![0.0f64; p]`, `0.0f64`
abbrev pub blank : Accumulators
blank = record { var = plus_zero; ata = λ i j. plus_zero; atb = λ i. plus_zero }

-- `var += v;`
abbrev pub add_var : Float → Accumulators → Accumulators
add_var v s = record { var = add binary64 s.var v; ata = s.ata; atb = s.atb }

-- `ata[i][j] += v;`
abbrev pub add_cell : ℕ → ℕ → Float → Accumulators → Accumulators
add_cell i j v s = record { var = s.var; ata = λ k l. cond (i == k && j == l) (add binary64 (s.ata k l) v) (s.ata k l); atb = s.atb }

-- `atb[i] += v;`
abbrev pub add_right : ℕ → Float → Accumulators → Accumulators
add_right i v s = record { var = s.var; ata = s.ata; atb = λ k. cond (i == k) (add binary64 (s.atb k) v) (s.atb k) }

-- `for j in i..p { ata[i][j] += row[i] * row[j]; } atb[i] += row[i] * t;`
abbrev pub row_turn : Pair → (ℕ → Factor) → ℕ → Place → ℕ → Accumulators → Accumulators
row_turn plane row p place i s =
    add_right i (product_f (row i) (own plane) place)
    (loop i p (λ j. add_cell i j (product_f (row i) (row j) place)) s)

-- `var += t * t;`, then `for i in 0..p { .. }`
abbrev pub place_turn : Pair → (ℕ → Factor) → ℕ → Place → Accumulators → Accumulators
place_turn plane row p place s = loop 0 p (row_turn plane row p place) (add_var (product_f (own plane) (own plane) place) s)

-- `for y in lag..h { for x in lag..w - lag { .. } }`
abbrev pub one_pass : Pair → ℕ → (ℕ → Factor) → ℕ → Accumulators
one_pass plane lag row p = loop lag plane.height (λ y. loop lag (plane.width - lag) (λ x. place_turn plane row p (y, x))) blank

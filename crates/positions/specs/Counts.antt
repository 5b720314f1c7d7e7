-- "rows −lag to 0, columns −lag to lag, ending before the sample itself; 2×lag×(lag+1) of them": how many, for any lag.
use Rattle.std.specs.Prelude.{ℕ, ◌+◌, ◌*◌}

-- the places of a row
abbrev pub side : ℕ → ℕ
side lag = 2 * lag + 1

-- the neighbours
abbrev pub neighbours : ℕ → ℕ
neighbours lag = 2 * lag * (lag + 1)

-- the neighbours with the sample
abbrev pub factors : ℕ → ℕ
factors lag = neighbours lag + 1

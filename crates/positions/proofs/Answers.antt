-- What `ar_positions` answers: the neighbours by number, and zeros after them. Assumes nothing.
use mathlib.Core.Path.{◌≡◌, ◌∙◌}
use mathlib.Core.List.{List, ◌++◌, map, map-append}
use Prim.Native.Nat.{ℕ, ◌-◌, ◌≤◌, ◌<◌}
use borrow.Author.Tests.{le-leb, lt-leb}
use lib.IntN.{ℤ, pos}
use lib.LanesLaws.{map-replicate}
use lib.ListN.{replicate, drop}
use Rattle.std.proofs.lemmas.List.{drop-replicate}
use Rattle.laws.specs.Table.{tabulate}
use Rattle.laws.proofs.Table.{length-tabulate, map-tabulate}
use Rattle.positions.specs.Counts.{neighbours}
use Rattle.positions.specs.Positions.{positions_of, refused}
use Rattle.positions.specs.declared.Offset.{Offset}
use Rattle.positions.proofs.Places.{offset_at}
use Rattle.positions.proofs.Steps.{positions-are}

-- neighbour i, as the code has it
abbrev pub place_at : ℕ → ℕ → Offset
place_at lag i = record { row = (offset_at lag i).0; column = (offset_at lag i).1 }

pub refused-is : (lag : ℕ) → 3 < lag → positions_of lag ≡ refused 7
unfolding positions_of
refused-is lag h = rw (lt-leb lag 3 h)

-- one of an offset's two numbers, f, along a list of neighbours before zeros
padded : (f : Offset → ℤ) (lag n : ℕ) (z : Offset) → f z ≡ pos 0
    → map f (tabulate n (place_at lag) ++ drop n (replicate 24 z)) ≡ tabulate n (λ i. f (place_at lag i)) ++ replicate (24 - n) (pos 0)
padded f lag n z e =
    map-append f (tabulate n (place_at lag)) (drop n (replicate 24 z))
    ∙ rw (map-tabulate f n (place_at lag), drop-replicate n 24 z, map-replicate, e)

pub accepted-is : (lag : ℕ) (places : List Offset) (z : Offset) → lag ≤ 3 → z.row ≡ pos 0 → z.column ≡ pos 0 → places ≡ tabulate (neighbours lag) (place_at lag)
    → (let all = places ++ drop (neighbours lag) (replicate 24 z) in
    record { refusal = 0; count = neighbours lag; rows = map (λ p. p.row) all; columns = map (λ p. p.column) all } ≡ positions_of lag)
unfolding positions_of
accepted-is lag places z h er ec e =
    let n = neighbours lag in
    rw (le-leb lag 3 h, positions-are lag, e, padded (λ p. p.row) lag n z er, padded (λ p. p.column) lag n z ec)
    (simp (map-tabulate, length-tabulate))

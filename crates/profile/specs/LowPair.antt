-- What stands in the code's pair of a plane and its copy, and in its bins: runs of the pair, and their samples added to the bins.
use Rattle.std.specs.Prelude.{◌≡◌, ℕ, ◌-◌}
use Rattle.profile.specs.Runs.{Run, run_count, run_squares, Tables, TablesAdded}
use Rattle.profile.specs.declared.low_pair.LowPair.{LowPair}
use Rattle.profile.specs.declared.bins.Bins.{Bins}

-- n places of the pair, from a start on, a stride of its view apart
abbrev pub RunOf : LowPair → ℕ → ℕ → Type 0
RunOf p start n = Run p.depth p.source.now p.denoised.now start p.view.stride n

-- in each bin there is room for n samples more
abbrev pub Room : {m : ℕ} → Bins m → ℕ → Type 0
Room b n = Tables b.split.bits n b.count b.squares

-- both tables of the bins are increased by f and by g; the bins stay as many
pub record Added {m : ℕ} (f g : ℕ → ℕ) (old new : Bins m) : Type 0 where
  pub bits : new.split.bits ≡ old.split.bits
  pub tables : TablesAdded old.split.bits old.count old.squares f g new.count new.squares

-- by what a run has in each bin
abbrev pub RunAdded : {m : ℕ} → LowPair → ℕ → ℕ → Bins m → Bins m → Type 0
RunAdded p start n old new =
    let bits = old.split.bits in
    let shift = p.depth - 8 in
    let stride = p.view.stride in
    Added (run_count bits shift p.source.now start stride n) (run_squares bits shift p.source.now p.denoised.now start stride n) old new

-- 154 bytes are room for every header, and no fewer are: of the destinations that are never refused with 11 that is the least. Assumes nothing.
use mathlib.Core.Path.{◌≡◌, refl}
use mathlib.Core.Bool.{Bool, true, false, cond}
use mathlib.Core.Logic.{◌≢◌, ◌↔◌}
use mathlib.Core.List.{List, [], ◌∷◌, ◌++◌}
use Prim.Native.Nat.{ℕ, ◌+◌, ◌/◌, ◌<◌, ◌≤◌}
use native.Mathlib.Omega.{arith}
use lib.Dec.{leb}
use lib.ListN.{length, replicate}
use borrow.Author.Tests.{leb-true, leb-false, le-leb, lt-leb}
use Rattle.laws.specs.Table.{tabulate}
use Rattle.header.specs.Record.{FilmGrainParams}
use Rattle.header.specs.Stored.{stored}
use Rattle.header.specs.Row.{each, width, code, allowed}
use Rattle.header.specs.Text.{counts_of, point, points, coeff, coeffs, opening, luma_part, chroma_part, filter_part, closing, table, rows}
use Rattle.header.specs.Bits.{digits, bits_of, all_allowed}
use Rattle.header.specs.Calls.{header_bits, write_refusal}
use Rattle.header.specs.Room.{most_bits, most_bytes, Enough}
use Rattle.header.proofs.Sizes.{most-bits}

-- ---- enough

-- the first two questions refuse with 4 and with 10
not-eleven : (format fields : Bool) → ◌≢◌ {A = ℕ} (cond format (cond fields 0 10) 4) 11
not-eleven true true e = omega arith
not-eleven true false e = omega arith
not-eleven false fields e = omega arith

enough : (room : ℕ) → most_bytes ≤ room → Enough room
unfolding write_refusal
enough room h p inter format =
    let fits : (length (header_bits p inter format) + 7) / 8 ≤ room = omega (arith, most-bits p inter format) in
    rw (le-leb ((length (header_bits p inter format) + 7) / 8) room fits) (not-eleven (leb format 3) (all_allowed (rows p inter format)))

-- ---- and no fewer

-- 14, 10 and 10 points that rise from 0 by 1, and lag 3, with the least of all else, as it stands in memory
abbrev rising : ℕ → List ℕ
rising n = tabulate n (λ i. i) ++ replicate n 0

abbrev largest : FilmGrainParams
largest =
    stored
    ((1 ∷ 0 ∷ 0 ∷ 0 ∷ 1 ∷ 0 ∷ 14 ∷ []) ++
    (rising 14 ++
    ((0 ∷ 10 ∷ []) ++
    (rising 10 ++
    ((10 ∷ []) ++
    (rising 10 ++
    ((8 ∷ 3 ∷ []) ++
    (replicate 74 0 ++
    ((6 ∷ []) ++ replicate 13 0)))))))))

largest-allowed : all_allowed (rows largest true 1) ≡ true
unfolding stored rows table counts_of opening luma_part chroma_part filter_part closing points point coeffs coeff each all_allowed allowed
largest-allowed = refl

pub largest-bits : length (header_bits largest true 1) ≡ most_bits
unfolding stored header_bits rows table counts_of opening luma_part chroma_part filter_part closing points point coeffs coeff each bits_of width code digits
largest-bits = refl

too_few : (room : ℕ) → room < most_bytes → write_refusal largest true 1 room ≡ 11
unfolding write_refusal
too_few room h = rw (largest-allowed, largest-bits, lt-leb most_bytes room h)

pub enough-exactly : (room : ℕ) → Enough room ↔ (most_bytes ≤ room)
enough-exactly room = (λ e. go (leb most_bytes room) refl e, enough room)
  where
    go : (t : Bool) → leb most_bytes room ≡ t → Enough room → most_bytes ≤ room
    go true q e = leb-true most_bytes room q
    go false q e = absurd (e largest true 1 (too_few room (leb-false most_bytes room q)))

-- `BitWriter::put_coeffs`: the places so far are put. Assumes nothing.
use Rattle.header.specs.Row.{each}
use Rattle.header.specs.Bits.{bits_of}
use Rattle.header.specs.Held.{Puts}
use Rattle.header.specs.Text.{coeff}
use Rattle.header.proofs.bits.BitWriter.put_coeffs.Given as goal

abbrev pub invariant-loop-value : goal.invariant-loop-value
invariant-loop-value l = Puts (bits_of (each l.value-index (coeff l.n l.values))) l.initial.self l.self

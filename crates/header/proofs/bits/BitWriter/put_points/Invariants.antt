-- `BitWriter::put_points`: the places so far are put, and the others are left. Assumes nothing.
use Rattle.std.proofs.Common.{◌≡◌, ◌≤◌, length, take, drop, min}
use Rattle.header.specs.Row.{each}
use Rattle.header.specs.Bits.{bits_of}
use Rattle.header.specs.Held.{Puts}
use Rattle.header.specs.Text.{point}
use Rattle.header.proofs.bits.BitWriter.put_points.Given as goal

abbrev pub invariant-loop-value : goal.invariant-loop-value
invariant-loop-value l = record {
  put : Puts (bits_of (each (length l.yielded) (point l.n l.list.values.now l.list.scalings.now))) l.initial.self l.self;
  within : length l.yielded ≤ min l.n (length l.list.values.now);
  values : l.value-iterator.a.rest.now ≡ drop (length l.yielded) (take (min l.n (length l.list.values.now)) l.list.values.now);
  scalings : l.value-iterator.b.rest.now ≡ drop (length l.yielded) (take (min l.n (length l.list.scalings.now)) l.list.scalings.now);
}

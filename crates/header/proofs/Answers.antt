-- The outcome of a call whose answers are known: refused, the destination is as it was; accepted, it holds the bits. Assumes nothing.
use mathlib.Core.Path.{◌≡◌, refl, sym}
use mathlib.Core.Bool.{Bool, true, false, cond}
use mathlib.Core.List.{List}
use Prim.Native.Nat.{ℕ, ◌+◌, ◌/◌, ◌<◌}
use native.Mathlib.Omega.{arith}
use lib.Dec.{leb}
use lib.ListN.{length}
use Rattle.std.specs.Prelude.{Ok, Err}
use borrow.Author.Tests.{lt-leb}
use Rattle.frame.specs.declared.refusal.Refusal.{Refusal}
use Rattle.frame.specs.Refusal.{number}
use Rattle.frame.proofs.FirstNo.{number-above}
use Rattle.header.specs.declared.format.Format.{Format}
use Rattle.header.specs.Format.{TellsFormat}
use Rattle.header.specs.Record.{FilmGrainParams}
use Rattle.header.specs.declared.Written.{Written}
use Rattle.header.specs.declared.stored.Fields.{Fields}
use Rattle.header.specs.declared.counts.Counts.{Counts}
use Rattle.header.specs.Stored.{stored}
use Rattle.header.specs.Scalars.{fields_of, record_of, scalars}
use Rattle.header.specs.Size.{opening_size, size_of}
use Rattle.header.specs.Text.{counts_of, rows}
use Rattle.header.specs.Bits.{bits_of, all_allowed, packed}
use Rattle.header.specs.Calls.{header_bits, write_refusal, written_of, write_outcome}
use Rattle.header.proofs.Formats.{number_known}
use Rattle.header.proofs.Sizes.{size_is}
use Rattle.header.proofs.Bytes.{rows_are}

abbrev Outcome : Type 0
Outcome = Written × List ℕ

-- the closed form, by the fields and the counts that were read from a record
pub size-counts : (f : Fields) (l : List ℕ) (inter : Bool) (format : ℕ) (c : Counts) → f ≡ fields_of l → c ≡ counts_of (scalars f) format
    → size_of (scalars f) inter format c ≡ length (header_bits (stored l) inter format)
unfolding header_bits size_of opening_size
size-counts f l inter format c e q = rw (rows_are f l inter format c e q) (sym (size_is (record_of f l) inter format c))

-- a question as it is asked: no, and yes
no : (b : Bool) (n : ℕ) (e : Refusal) → number e ≡ cond b 0 n → (b ≡ false) × (number e ≡ n)
no true n e h = absurd (number-above e h)
no false n e h = (refl, h)

yes : (b : Bool) (n : ℕ) → 0 < n → ◌≡◌ {A = ℕ} 0 (cond b 0 n) → b ≡ true
yes true n l h = refl
yes false n l h = absurd (omega arith)

module _ (p : FilmGrainParams) (inter : Bool) (format : ℕ) (d : List ℕ) where
  pub refused-4 : (e : Refusal) → TellsFormat format (Err e) → ◌≡◌ {A = Outcome} (written_of (Err e), d) (write_outcome p inter format d)
  unfolding write_outcome write_refusal
  refused-4 e h = rw (h.0, lt-leb format 3 h.1)

  module _ (f : Format) (known : TellsFormat format (Ok f)) where
    format-is : leb format 3 ≡ true
    format-is = rw known at (number_known f)

    pub refused-10 : (e : Refusal) → number e ≡ cond (all_allowed (rows p inter format)) 0 10 → ◌≡◌ {A = Outcome} (written_of (Err e), d) (write_outcome p inter format d)
    unfolding write_outcome write_refusal
    refused-10 e h = let q = no (all_allowed (rows p inter format)) 10 e h in rw (q.1, format-is, q.0)

    module _ (allowed : ◌≡◌ {A = ℕ} 0 (cond (all_allowed (rows p inter format)) 0 10)) (n : ℕ) (s : n ≡ length (header_bits p inter format)) where
      fields-are : all_allowed (rows p inter format) ≡ true
      fields-are = yes (all_allowed (rows p inter format)) 10 (omega arith) allowed

      pub refused-11 : (e : Refusal) {m : ℕ} → number e ≡ cond (leb m (length d)) 0 11 → m ≡ (n + 7) / 8 → ◌≡◌ {A = Outcome} (written_of (Err e), d) (write_outcome p inter format d)
      unfolding write_outcome write_refusal
      refused-11 e {m} h b = let q = no (leb m (length d)) 11 e h in rw (q.1, format-is, fields-are, ← s, ← b, q.0)

      pub answered : {m : ℕ} → ◌≡◌ {A = ℕ} 0 (cond (leb m (length d)) 0 11) → m ≡ (n + 7) / 8 → {to : List ℕ} → to ≡ packed (bits_of (rows p inter format)) d
          → ◌≡◌ {A = Outcome} (written_of (Ok n), to) (write_outcome p inter format d)
      unfolding write_outcome write_refusal header_bits
      answered {m} h b q = rw (q, format-is, fields-are, ← s, ← b, yes (leb m (length d)) 11 (omega arith) h)

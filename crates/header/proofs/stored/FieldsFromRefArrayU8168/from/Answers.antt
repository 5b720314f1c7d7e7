-- `Fields::from`: field by field. Assumes nothing.
use Rattle.std.proofs.Common.{◌≡◌, ℕ, ◌+◌, ◌*◌, List, [], ◌∷◌, ◌∙◌, w16, arith}
use Rattle.std.specs.Int.{from_le_bytes}
use Rattle.header.specs.Scalars.{fields_with, fields_of}
use Rattle.header.specs.Stored.{word_at}
use Rattle.header.proofs.stored.FieldsFromRefArrayU8168.from.Goals as goal

word : (low high : ℕ) → from_le_bytes w16 (low ∷ high ∷ []) ≡ low + 256 * high
word low high = omega arith

fields-are : (l : List ℕ) {seed cb cr : ℕ} → seed ≡ word_at l 2 → cb ≡ word_at l 158 → cr ≡ word_at l 162 → fields_with seed cb cr l ≡ fields_of l
unfolding fields_of
fields-are l a b c = rw (a, b, c)

pub returns : goal.returns
returns c = fields-are c.args.p.now (c.from_le_bytes.ensures ∙ word _ _) (c.from_le_bytes-2.ensures ∙ word _ _) (c.from_le_bytes-3.ensures ∙ word _ _)

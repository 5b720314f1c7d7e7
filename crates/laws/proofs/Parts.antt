-- A part of a list: its entries, and a table that is filled part by part. Assumes nothing.
use mathlib.Core.Path.{◌≡◌}
use mathlib.Core.List.{List, ◌++◌, append_assoc}
use Prim.Native.Nat.{ℕ, ◌+◌, ◌<◌, ◌≤◌}
use lib.ListN.{length, get_or, take, drop, length-append}
use lib.Seq.{get_or-take, get_or-drop, take_at, length-take-le}
use Rattle.laws.specs.Table.{tabulate}
use Rattle.laws.proofs.Table.{length-tabulate, tabulate-add}

module _ {ℓ} {A : Type ℓ} where
  -- entry i of the part that starts at a and is n long
  pub get_d_part : (l : List A) (a n i : ℕ) (d : A) → i < n → get_or (take n (drop a l)) i d ≡ get_or l (a + i) d
  get_d_part l a n i d h = rw (get_or-take, get_or-drop)

  -- one part more: l's entries from a on are replaced by q
  pub tabulate-part : (l q rest : List A) (a n : ℕ) (f : ℕ → A) → a ≤ length l → take a l ≡ tabulate a f → q ≡ tabulate n (λ i. f (a + i))
      → take (a + n) (take a l ++ (q ++ rest)) ≡ tabulate (a + n) f
  tabulate-part l q rest a n f h p e =
      let size : length (take a l ++ q) ≡ a + n = rw (length-append, length-take-le a l h, e, length-tabulate) in
      rw (← append_assoc, take_at (take a l ++ q) rest (a + n) size, p, e, tabulate-add)

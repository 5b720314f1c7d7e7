-- What an accepted lag, order and number of bits are. Assumes nothing.
use mathlib.Core.Path.{◌≡◌, refl}
use mathlib.Core.Bool.{and-eq-true_iff}
use mathlib.Core.List.{[], ◌∷◌}
use Prim.Native.Nat.{ℕ, ◌≤◌}
use lib.Dec.{leb}
use borrow.Author.Tests.{leb-true}
use Rattle.frame.specs.Questions.{lag_known, order_known, bits_known}
use Rattle.frame.specs.Calls.{lag_refusal, order_refusal, bits_refusal}
use Rattle.frame.proofs.FirstNo.{passed}

pub lag-fits : (lag : ℕ) → lag_refusal lag ≡ 0 → lag ≤ 3
lag-fits lag e = leb-true lag 3 (passed (lag_known lag ∷ []) refl e).0

pub order-fits : (order : ℕ) → order_refusal order ≡ 0 → order ≤ 25
order-fits order e = leb-true order 25 ((and-eq-true_iff (leb 1 order) (leb order 25)).0 (passed (order_known order ∷ []) refl e).0).1

pub bits_fit : (bits : ℕ) → bits_refusal bits ≡ 0 → bits ≤ 16
bits_fit bits e = leb-true bits 16 (passed (bits_known bits ∷ []) refl e).0

-- A loop that fills a list from the front, one store a turn, as its proof wants it: the state at its start, after a turn and at its end. By the laws of `tabulate`. Assumes nothing.
use mathlib.Core.Path.{◌≡◌, refl, ◌∙◌}
use mathlib.Core.List.{List}
use Prim.Native.Nat.{ℕ, ◌+◌, ◌≤◌, ◌<◌}
use native.Mathlib.Omega.{arith}
use lib.ListN.{length, take, set, length-set}
use Rattle.laws.specs.Table.{tabulate}
use Rattle.laws.proofs.Table.{tabulate-more, tabulate-ends}

-- of a list that was `from`, the first k places are filled
pub record Filled {A : Type 0} (f : ℕ → A) (from to : List A) (k : ℕ) : Type 0 where
  pub count : k ≤ length from
  pub same : length to ≡ length from
  pub front : take k to ≡ tabulate k f

module _ {A : Type 0} (f : ℕ → A) (from : List A) where
  pub fill-starts : Filled f from from 0
  fill-starts = record { count = omega arith; same = refl; front = refl }

  pub fill-turn : {to : List A} {k : ℕ} (v : A) → Filled f from to k → k < length from → v ≡ f k → Filled f from (set to k v) (k + 1)
  fill-turn {to} {k} v h l e =
      record {
        count = omega arith;
        same = length-set to k v ∙ h.same;
        front = tabulate-more to k f v (omega (arith, h.same)) h.front e;
      }

  pub fill-ends : {to : List A} {k : ℕ} → Filled f from to k → length from ≤ k → to ≡ tabulate (length from) f
  fill-ends {to} {k} h l = tabulate-ends to k (length from) f h.same h.count l h.front

-- A line that is filled part by part: one part more. By the laws of `tabulate`. Assumes nothing.
use Rattle.std.proofs.Common.{◌≡◌, ℕ, List, ◌++◌, ◌+◌, ◌≤◌, ℤ, length, take, drop, ap, ◌∙◌, arith}
use lib.ListN.{length-append, length-drop}
use lib.Seq.{length-take-le}
use Rattle.laws.specs.Table.{tabulate}
use Rattle.laws.proofs.Fill.{Filled}
use Rattle.laws.proofs.Parts.{tabulate-part}
use Rattle.laws.proofs.Table.{length-tabulate}

module _ {f : ℕ → ℤ} {from to : List ℤ} {k : ℕ} (F : Filled f from to k) (n : ℕ) (l : k + n ≤ length from) where
  room : length (take n (drop k to)) ≡ n
  room = length-take-le n (drop k to) (simp (length-drop) (omega (arith, F.same, F.count)))

  pub fill-part : (m : ℕ) → k + n ≡ m → {part : List ℤ} → part ≡ tabulate (length (take n (drop k to))) (λ i. f (k + i)) → Filled f from (take k to ++ (part ++ drop n (drop k to))) m
  fill-part m d {part} e =
      let size : length part ≡ n = ap length e ∙ length-tabulate _ _ ∙ room in
      let head : length (take k to) ≡ k = length-take-le k to (omega (arith, F.same, F.count)) in
      rw (← d)
      (record {
        count = l;
        same = simp (length-append, length-drop) (omega (arith, head, size, F.same));
        front = tabulate-part to part (drop n (drop k to)) k n f (omega (arith, F.same, F.count)) F.front (rw room at e);
      })

-- Both lists are the scope's neighbours, for every lag (`positions-neighbours`, `walk-neighbours`): by their numbers, which count along the rows. Assumes nothing.
use mathlib.Core.Path.{◌≡◌, sym, ap, ◌∙◌, subst}
use mathlib.Core.Logic.{◌⊎◌, inl, inr, ⊎_elim}
use Prim.Native.Nat.{ℕ, ◌+◌, ◌*◌, ◌/◌, ◌%◌, ◌≤◌, ◌<◌, zero-le}
use native.Mathlib.Nat.{le_trans, le_of_lt, le_antisymm, lt_trans, lt_of_lt_of_le, le_of_suc-le-suc, suc-mul, le-div_iff_mul-le, div-mul-le_self, div-lt_iff_lt-mul, mod-lt, div-add-mod'}
use native.Mathlib.Omega.{arith}
use lib.Arith.{digits_lt}
use lib.IntN.{ℤ, pos, neg_ℤ, nat_abs, ◌+ℤ◌, ◌-ℤ◌, +ℤ_idl, +ℤ_invr, +ℤ-neg_ℤ_cancel}
use lib.Signed.{◌<ℤ◌, ◌≤ℤ◌, <ℤ_irrefl}
use Rattle.laws.specs.Table.{tabulate}
use Rattle.laws.specs.Sets.{In}
use Rattle.laws.proofs.Table.{length-tabulate, get_d_tabulate}
use Rattle.std.proofs.lemmas.Bool.{cases_lt}
use Rattle.laws.proofs.Members.{in-tabulate, tabulate-in, nodup-tabulate}
use Rattle.positions.specs.Counts.{side, neighbours}
use Rattle.positions.specs.Positions.{Offset, positions}
use Rattle.positions.specs.Text.{walk}
use Rattle.positions.specs.Neighbours.{sample, Around, Before, Neighbours}
use Rattle.positions.proofs.Offsets.{offset-lt, offset-le, offset-lt-back, offset-le-back, offset-same, offset-of}
use Rattle.positions.proofs.Places.{column, offset_at, place_is, all-rows}
use Rattle.positions.proofs.Steps.{positions-are}
use Rattle.positions.proofs.Text.{walk-is-positions}

-- ---- numbers in order have places in order
digits-order : (s i j : ℕ) → 0 < s → i < j → (i / s < j / s) ⊎ ((i / s ≡ j / s) × (i % s < j % s))
digits-order s i j h l = ⊎_elim inl (λ u. inr (same u, rest (same u))) (cases_lt (i / s) (j / s))
  where
    same : j / s ≤ i / s → i / s ≡ j / s
    same u = le_antisymm ((le-div_iff_mul-le h).1 (le_trans (div-mul-le_self i s) (le_of_lt l))) u

    rest : i / s ≡ j / s → i % s < j % s
    rest e = let d : j / s * s + i % s ≡ i = rw e at (div-add-mod' i s) in omega (arith, div-add-mod' j s)

irreflexive : (p : Offset) → Before p p → ⊥
irreflexive p (inl h) = <ℤ_irrefl h
irreflexive p (inr h) = <ℤ_irrefl h.1

module _ (lag : ℕ) where
  abbrev s : ℕ
  s = side lag

  abbrev n : ℕ
  n = neighbours lag

  some : 0 < side lag
  some = omega arith

  in_order : (i j : ℕ) → i < j → Before (offset_at lag i) (offset_at lag j)
  in_order i j h =
      ⊎_elim (λ u. inl (offset-lt (i / s) (j / s) lag u)) (λ u. inr (ap (λ (k : ℕ). pos k -ℤ pos lag) u.0, offset-lt (i % s) (j % s) lag u.1))
      (digits-order s i j some h)

  -- the sample comes after the last
  sample-is : offset_at lag n ≡ sample
  sample-is = rw (← all-rows lag, place_is lag lag lag (omega arith), +ℤ_invr (pos lag))

  before-sample : (i : ℕ) → i < n → Before (offset_at lag i) sample
  before-sample i h = subst (λ (p : Offset). Before (offset_at lag i) p) sample-is (in_order i n h)

  -- ---- which places they are
  row_of : (i : ℕ) → i < n → i / s ≤ lag
  row_of i h = le_of_suc-le-suc ((div-lt_iff_lt-mul some).1 (lt_of_lt_of_le h (omega (arith, all-rows lag, suc-mul lag s))))

  -- 0 and lag, as such differences
  middle : pos lag -ℤ pos lag ≡ pos 0
  middle = +ℤ_invr (pos lag)

  end : pos (lag + lag) -ℤ pos lag ≡ pos lag
  end = +ℤ-neg_ℤ_cancel (pos lag) (pos lag)

  around : (i : ℕ) → i < n → Around lag (offset_at lag i)
  around i h =
      record {
        top = low (i / s);
        bottom = subst (λ (z : ℤ). (pos (i / s) -ℤ pos lag) ≤ℤ z) middle (offset-le (i / s) lag lag (row_of i h));
        left = low (i % s);
        right = subst (λ (z : ℤ). (pos (i % s) -ℤ pos lag) ≤ℤ z) end (offset-le (i % s) (lag + lag) lag (omega (arith, mod-lt i some)));
      }
    where
      low : (k : ℕ) → neg_ℤ (pos lag) ≤ℤ (pos k -ℤ pos lag)
      low k = subst (λ (z : ℤ). z ≤ℤ (pos k -ℤ pos lag)) (+ℤ_idl (neg_ℤ (pos lag))) (offset-le 0 k lag zero-le)

  -- column j of row k, where it is before the sample
  member : (k j : ℕ) → j < s → (k < lag) ⊎ ((k ≡ lag) × (j < lag)) → In (column lag (pos k -ℤ pos lag) j) (tabulate n (offset_at lag))
  member k j l b = subst (λ (p : Offset). In p (tabulate n (offset_at lag))) (place_is lag k j l) (tabulate-in (offset_at lag) n (k * s + j) (⊎_elim earlier same b))
    where
      earlier : k < lag → k * s + j < n
      earlier h = omega (arith, digits_lt h l, all-rows lag)

      same : (k ≡ lag) × (j < lag) → k * s + j < n
      same h = let e : k * s ≡ lag * s = ap (λ (i : ℕ). i * s) h.0 in omega (arith, h.1, all-rows lag)

  there : (k j : ℕ) → Around lag (column lag (pos k -ℤ pos lag) j) → Before (column lag (pos k -ℤ pos lag) j) sample
      → In (column lag (pos k -ℤ pos lag) j) (tabulate n (offset_at lag))
  there k j A b = member k j (omega (arith, last)) (⊎_elim (λ u. inl (low k u)) (λ u. inr (offset-same k lag lag (u.0 ∙ sym middle), low j u.1)) b)
    where
      last : j ≤ lag + lag
      last = offset-le-back j (lag + lag) lag (subst (λ (z : ℤ). (pos j -ℤ pos lag) ≤ℤ z) (sym end) A.right)

      low : (i : ℕ) → (pos i -ℤ pos lag) <ℤ pos 0 → i < lag
      low i u = offset-lt-back i lag lag (subst (λ (z : ℤ). (pos i -ℤ pos lag) <ℤ z) (sym middle) u)

  every : (p : Offset) → Around lag p → Before p sample → In p (tabulate n (offset_at lag))
  every p A =
      subst (λ (q : Offset). Around lag q → Before q sample → In q (tabulate n (offset_at lag)))
      (λ i. (offset-of lag p.0 A.top i, offset-of lag p.1 A.left i))
      (there (nat_abs (p.0 +ℤ pos lag)) (nat_abs (p.1 +ℤ pos lag)))
      A

  table-neighbours : Neighbours lag (tabulate n (offset_at lag))
  table-neighbours =
      record {
        number = length-tabulate n (offset_at lag);
        once = nodup-tabulate (offset_at lag) n (λ i j l m e. irreflexive (offset_at lag j) (subst (λ (p : Offset). Before p (offset_at lag j)) e (in_order i j l)));
        inside = in-tabulate (offset_at lag) (λ p. Around lag p × Before p sample) n (λ i l. (around i l, before-sample i l));
        all = every;
        order = λ i j l m.
            let k : j < n = subst (λ (z : ℕ). j < z) (length-tabulate n (offset_at lag)) m in
            rw (get_d_tabulate n (offset_at lag) i sample (lt_trans l k), get_d_tabulate n (offset_at lag) j sample k) (in_order i j l);
      }

-- ---- the Rust's list, and the specification's
pub positions-neighbours : (lag : ℕ) → Neighbours lag (positions lag)
positions-neighbours lag = rw (positions-are lag) (table-neighbours lag)

pub walk-neighbours : (lag : ℕ) → Neighbours lag (walk lag)
walk-neighbours lag = rw (walk-is-positions lag) (positions-neighbours lag)

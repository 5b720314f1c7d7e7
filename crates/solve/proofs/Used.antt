-- Only the first `order` rows and columns of the matrix and the first `order` entries of the right side matter: each step keeps two systems that agree there in agreement. Assumes nothing.
use mathlib.Core.Path.{◌≡◌, refl, ap, sym, ◌∙◌}
use mathlib.Core.Bool.{Bool, true, false, cond}
use mathlib.Core.List.{[]}
use Prim.Native.Nat.{ℕ, ◌+◌, ◌-◌, ◌≤◌, ◌<◌}
use native.Mathlib.Omega.{arith}
use lib.ListN.{length, get_or, take, length-map, get_or-map}
use lib.Seq.{get_or-take, length-take-le, take-nil}
use lib.Ieee.{Float, nan, binary64, div, lt}
use Rattle.laws.proofs.Loop.{loops-together}
use Rattle.float.specs.Magnitude.{magnitude_of}
use Rattle.solve.specs.Elimination.{Row, Matrix, System, Stage, going, none, value, cell, limit, larger, pivot_of, pivoted, cell_less, row_less, row_cleared, cleared, tested, column, eliminated, known_less, unknown_of, placed, substituted}
use Rattle.solve.specs.Answer.{answer_of, solved_of}
use Rattle.solve.specs.Words.{RowAlike, MatrixAlike, Agree, used_part}
use Rattle.solve.proofs.Alike.{alike_set, alike-swapped}

-- ---- the pivot

cond_below : (p x y : ℕ) (t : Bool) → x < p → y < p → cond t x y < p
cond_below p x y true h l = h
cond_below p x y false h l = l

module _ (p i : ℕ) (a a' : Matrix) (h : MatrixAlike p a a') (l : i < p) where
  Same : ℕ → ℕ → Type 0
  Same x y = (x ≡ y) × (x < p)

  same-larger : (r x y : ℕ) → i + 1 ≤ r → r < p → Same x y → Same (larger a i r x) (larger a' i r y)
  unfolding larger Same
  same-larger r x y b m e = (
    rw (← e.0, (h.each r m).each i l, (h.each x e.1).each i l),
    cond_below p r x (lt (magnitude_of (cell a x i)) (magnitude_of (cell a r i))) m e.1,
  )

  pub same-pivot : (pivot_of p a i ≡ pivot_of p a' i) × (pivot_of p a i < p)
  unfolding pivot_of Same
  same-pivot = loops-together (λ _. Same) (i + 1) p (larger a i) (larger a' i) same-larger (omega arith) i i (refl, l)

-- ---- the steps

module _ (p : ℕ) where
  agree-pivoted : (i : ℕ) (s t : System) → i < p → Agree p s t → Agree p (pivoted p i s) (pivoted p i t)
  unfolding pivoted
  agree-pivoted i s t l h =
      let e = same-pivot p i s.matrix t.matrix h.matrix l in
      rw (← e.0)
      (record {
        matrix = alike-swapped (RowAlike p) [] p _ _ h.matrix i _ l e.1;
        right = alike-swapped ◌≡◌ nan p _ _ h.right i _ l e.1;
      })

  alike-cell_less : (i r : ℕ) (f : Float) → i < p → r < p → (c : ℕ) (a a' : Matrix) → i ≤ c → c < p → MatrixAlike p a a' → MatrixAlike p (cell_less i r f c a) (cell_less i r f c a')
  unfolding cell_less
  alike-cell_less i r f l m c a a' _ n h =
      rw ((h.each r m).each c n, (h.each i l).each c n)
      (alike_set (RowAlike p) [] p a a' h r _ _ (alike_set ◌≡◌ nan p _ _ (h.each r m) c _ _ refl))

  agree-row_cleared : (i : ℕ) → i < p → (r : ℕ) (s t : System) → i + 1 ≤ r → r < p → Agree p s t → Agree p (row_cleared p i r s) (row_cleared p i r t)
  unfolding row_cleared row_less
  agree-row_cleared i l r s t _ m h =
      rw ((h.matrix.each r m).each i l, (h.matrix.each i l).each i l, h.right.each r m, h.right.each i l)
      (record {
        matrix = loops-together (λ _. MatrixAlike p) i p _ _ (alike-cell_less i r _ l m) (omega arith) _ _ h.matrix;
        right = alike_set ◌≡◌ nan p _ _ h.right r _ _ refl;
      })

  agree-cleared : (i : ℕ) (s t : System) → i < p → Agree p s t → Agree p (cleared p i s) (cleared p i t)
  unfolding cleared
  agree-cleared i s t l h = loops-together (λ _. Agree p) (i + 1) p _ _ (agree-row_cleared i l) (omega arith) s t h

  -- two stages: both at a small pivot, or two systems in agreement
  StageAgree : Stage → Stage → Type 0
  StageAgree none none = Unit {0}
  StageAgree none (going t) = ⊥
  StageAgree (going s) none = ⊥
  StageAgree (going s) (going t) = Agree p s t

  agree-unless : (b : Bool) (s t : System) → Agree p s t → StageAgree (cond b none (going s)) (cond b none (going t))
  unfolding StageAgree
  agree-unless true s t h = tt
  agree-unless false s t h = h

  agree-tested : (i : ℕ) (s t : System) → i < p → Agree p s t → StageAgree (tested p i s) (tested p i t)
  unfolding tested
  agree-tested i s t l h = rw ((h.matrix.each i l).each i l) (agree-unless (lt (magnitude_of (cell t.matrix i i)) limit) _ _ (agree-cleared i s t l h))

  agree-column : (i : ℕ) (s t : Stage) → 0 ≤ i → i < p → StageAgree s t → StageAgree (column p i s) (column p i t)
  unfolding column StageAgree
  agree-column i none none _ l h = tt
  agree-column i none (going t) _ l h = absurd h
  agree-column i (going s) none _ l h = absurd h
  agree-column i (going s) (going t) _ l h = agree-tested i _ _ l (agree-pivoted i s t l h)

  agree-eliminated : (s t : System) → Agree p s t → StageAgree (eliminated p s) (eliminated p t)
  unfolding eliminated StageAgree
  agree-eliminated s t h = loops-together (λ _. StageAgree) 0 p (column p) (column p) agree-column (omega arith) (going s) (going t) h

  -- ---- backward

  same-unknown : (i : ℕ) (row row' : Row) (v : Float) (x : Row) → i < p → RowAlike p row row' → unknown_of p row v x i ≡ unknown_of p row' v x i
  unfolding unknown_of known_less
  same-unknown i row row' v x l h =
      rw (h.each i l)
      (ap (λ (v : Float). div binary64 v (value row' i))
      (loops-together (λ _. ◌≡◌) (i + 1) p (known_less row x) (known_less row' x) (λ j v w _ m e. rw (e, h.each j m)) (omega arith) v v refl))

  same-substituted : (s t : System) → Agree p s t → substituted p s ≡ substituted p t
  unfolding substituted placed
  same-substituted s t h =
      loops-together (λ _. ◌≡◌) 0 p (placed p s) (placed p t)
      (λ n x y _ m e. let l : p - 1 - n < p = omega arith in rw (e, h.right.each (p - 1 - n) l, same-unknown (p - 1 - n) _ _ _ y l (h.matrix.each (p - 1 - n) l)))
      (omega arith) _ _ refl

  same_answer : (s t : Stage) → StageAgree s t → answer_of p s ≡ answer_of p t
  unfolding answer_of StageAgree
  same_answer none none h = refl
  same_answer none (going t) h = absurd h
  same_answer (going s) none h = absurd h
  same_answer (going s) (going t) h = rw (same-substituted s t h)

pub used-alone : (order : ℕ) (a a' : Matrix) (b b' : Row)
    → Agree order (record { matrix = a; right = b }) (record { matrix = a'; right = b' })
    → solved_of a b order ≡ solved_of a' b' order
unfolding solved_of
used-alone order a a' b b' h = rw (same_answer order _ _ (agree-eliminated order _ _ h))

-- ---- the Rust's matrix has `order` rows and columns: that part of ours gives its answer

row-of-part : (p : ℕ) (a : Matrix) (r : ℕ) → r < p → get_or (used_part p a) r [] ≡ take p (get_or a r [])
row-of-part p a r m = ap (get_or (used_part p a) r) (sym (take-nil p)) ∙ get_or-map (take p) (take p a) r [] ∙ ap (take p) (get_or-take p a r [] m)

row-alike : (p : ℕ) (b : Row) → p ≤ length b → RowAlike p (take p b) b
row-alike p b l = record { long = rw (length-take-le p b l) (omega arith); long' = l; each = λ i m. get_or-take p b i nan m }

pub part-alone : (order : ℕ) (a : Matrix) (b : Row)
    → order ≤ length a → ((r : ℕ) → r < order → order ≤ length (get_or a r [])) → order ≤ length b
    → solved_of (used_part order a) (take order b) order ≡ solved_of a b order
part-alone order a b la lr lb =
    used-alone order _ _ _ _
    (record {
      matrix = record {
        long = rw (length-map (take order a) (take order), length-take-le order a la) (omega arith);
        long' = la;
        each = λ r m. rw (row-of-part order a r m) (row-alike order (get_or a r []) (lr r m));
      };
      right = row-alike order b lb;
    })

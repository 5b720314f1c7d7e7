-- What a question that is answered yes tells: a fact about numbers for each test. Assumes nothing.
use mathlib.Core.Path.{◌≡◌, refl, ◌∙◌}
use mathlib.Core.Bool.{Bool, true, false, cond, ◌||◌, and-eq-true_iff, false≢true}
use mathlib.Core.Logic.{◌⊎◌, inl, inr}
use mathlib.Core.List.{List, [], ◌∷◌}
use Prim.Native.Nat.{ℕ, ◌+◌, ◌%◌, ◌≤◌, ◌<◌, ◌^◌}
use native.Mathlib.Nat.{lt_of_lt_of_le}
use native.Mathlib.Omega.{arith}
use lib.Dec.{leb, eqb}
use lib.ListN.{length, get_or}
use lib.Pow.{pow_mono}
use borrow.Author.Tests.{leb-true, eqb-true}
use Rattle.laws.specs.Limits.{side_limit, sample_limit}
use Rattle.frame.specs.declared.Shape.{Shape}
use Rattle.frame.specs.Questions.{first_no, small, depth_known, is_part, halves_across, halves_down, each, low, all_low}
use Rattle.frame.specs.Calls.{shape_numbers}
use Rattle.frame.specs.Planes.{width_of, height_of}
use Rattle.frame.specs.Inside.{Inside}
use Rattle.frame.specs.declared.view.Component.TheVariants.{CbCr}
use Rattle.frame.proofs.FirstNo.{passed}
use Rattle.frame.proofs.Size.{columns-le, rows-le}
use Rattle.frame.proofs.Samples.{low_below}

-- ---- the questions

pub record Sides (w h : ℕ) : Type 0 where
  pub wide : w ≤ side_limit
  pub high : h ≤ side_limit

pub is-small : (w h : ℕ) → (small w h).0 ≡ true → Sides w h
is-small w h e =
    let p = (and-eq-true_iff (leb w side_limit) (leb h side_limit)).0 e in
    record { wide = leb-true w side_limit p.0; high = leb-true h side_limit p.1 }

-- chroma's sides are no longer than luma's
pub chroma-sides : (s : Shape) → Sides s.width s.height → Sides (width_of s CbCr) (height_of s CbCr)
chroma-sides s h = record { wide = columns-le s.format CbCr h.wide; high = rows-le s.format CbCr h.high }

pub record Depth (d : ℕ) : Type 0 where
  pub one_of : (d ≡ 8) ⊎ ((d ≡ 10) ⊎ (d ≡ 12))
  pub least : 8 ≤ d
  pub most : d ≤ 12

is-one-of : (d : ℕ) (a b c : Bool) → eqb d 8 ≡ a → eqb d 10 ≡ b → eqb d 12 ≡ c → (a || (b || c)) ≡ true → (d ≡ 8) ⊎ ((d ≡ 10) ⊎ (d ≡ 12))
is-one-of d true b c p q r e = inl (eqb-true d 8 p)
is-one-of d false true c p q r e = inr (inl (eqb-true d 10 q))
is-one-of d false false c p q r e = inr (inr (eqb-true d 12 (r ∙ e)))

within : (d : ℕ) → (d ≡ 8) ⊎ ((d ≡ 10) ⊎ (d ≡ 12)) → (8 ≤ d) × (d ≤ 12)
within d (inl e) = (omega arith, omega arith)
within d (inr (inl e)) = (omega arith, omega arith)
within d (inr (inr e)) = (omega arith, omega arith)

pub is-depth : (d : ℕ) → (depth_known d).0 ≡ true → Depth d
is-depth d e =
    let o = is-one-of d (eqb d 8) (eqb d 10) (eqb d 12) refl refl refl e in
    record { one_of = o; least = (within d o).0; most = (within d o).1 }

-- a rectangle along one direction
pub record Part (halved : Bool) (start size side : ℕ) : Type 0 where
  pub some : 1 ≤ size
  pub ends : start + size ≤ side
  pub even : halved ≡ true → start % 2 ≡ 0

pub is-a-part : (halved : Bool) (start size side : ℕ) → is_part halved start size side ≡ true → Part halved start size side
is-a-part halved start size side e =
    let p = (and-eq-true_iff (leb 1 size) _).0 e in
    let q = (and-eq-true_iff (leb (start + size) side) _).0 p.1 in
    record { some = leb-true 1 size p.0; ends = leb-true (start + size) side q.0; even = go halved q.1 }
  where
    go : (b : Bool) → cond b (eqb (start % 2) 0) true ≡ true → b ≡ true → start % 2 ≡ 0
    go true f t = eqb-true (start % 2) 0 f
    go false f t = absurd (false≢true t)

pub record Known (s : Shape) : Type 0 where
  pub size : Sides s.width s.height
  pub columns : 1 ≤ s.width
  pub rows : 1 ≤ s.height
  pub depth : Depth s.depth
  pub format : s.format ≤ 3
  pub across : Part (halves_across s.format) s.active.left s.active.width s.width
  pub down : Part (halves_down s.format) s.active.top s.active.height s.height

pub is_known : (s : Shape) → first_no (shape_numbers s) ≡ 0 → Known s
unfolding shape_numbers
is_known s e =
    let p = passed (shape_numbers s) refl e in
    let c = (and-eq-true_iff (leb 1 s.width) (leb 1 s.height)).0 p.1.0 in
    let a = (and-eq-true_iff (is_part (halves_across s.format) s.active.left s.active.width s.width) _).0 p.1.1.1.1.0 in
    record {
      size = is-small s.width s.height p.0;
      columns = leb-true 1 s.width c.0;
      rows = leb-true 1 s.height c.1;
      depth = is-depth s.depth p.1.1.0;
      format = leb-true s.format 3 p.1.1.1.0;
      across = is-a-part (halves_across s.format) _ _ _ a.0;
      down = is-a-part (halves_down s.format) _ _ _ a.1;
    }

pub inside : {s : Shape} → Known s → Inside s
inside k = record { wide = k.size.wide; high = k.size.high; across = k.across.ends; down = k.down.ends }

-- each length is n
abbrev pub Each : ℕ → List ℕ → Type 0
Each n [] = Unit {0}
Each n (l ∷ ls) = (l ≡ n) × Each n ls

pub are-each : (n : ℕ) (ls : List ℕ) → each n ls ≡ true → Each n ls
unfolding each
are-each n [] e = tt
are-each n (l ∷ ls) e =
    let p = (and-eq-true_iff (eqb l n) (each n ls)).0 e in
    (eqb-true l n p.0, are-each n ls p.1)

-- a plane of n samples, each below 2^depth
pub record LowPlane (n depth : ℕ) (xs : List ℕ) : Type 0 where
  pub samples : length xs ≡ n
  pub below : (i : ℕ) → get_or xs i 0 < 2 ^ depth
  pub below-limit : (i : ℕ) → get_or xs i 0 < sample_limit

pub is-plane : (n depth : ℕ) (xs : List ℕ) → depth ≤ 12 → length xs ≡ n → low depth xs ≡ true → LowPlane n depth xs
is-plane n depth xs d l e =
    let f = low_below depth xs e in
    record { samples = l; below = f; below-limit = λ i. lt_of_lt_of_le (f i) (pow_mono d) }

-- each plane passes
abbrev pub Lows : ℕ → List (List ℕ) → Type 0
Lows depth [] = Unit {0}
Lows depth (p ∷ ps) = (low depth p ≡ true) × Lows depth ps

pub are-low : (depth : ℕ) (ps : List (List ℕ)) → all_low depth ps ≡ true → Lows depth ps
unfolding all_low
are-low depth [] e = tt
are-low depth (p ∷ ps) e = let b = (and-eq-true_iff (low depth p) (all_low depth ps)).0 e in (b.0, are-low depth ps b.1)

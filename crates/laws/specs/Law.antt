-- "Demand 3 is a single claim about any product, set and order": the premise, for any limit whose sums f64 holds exactly, and the claim.
use Rattle.std.specs.Prelude.{◌≡◌, List, ◌++◌, map, ℕ, ◌*◌, ◌^◌, ◌≤◌, ℤ, pos, nat_abs, length, Float}
use Rattle.std.specs.Float.{binary64}
use Rattle.std.specs.Float.Ieee.{add}
use Rattle.laws.specs.Sums.{sum_z}
use Rattle.laws.specs.Scaled.{plus_zero, of_scaled, Holds}
use Rattle.laws.specs.Sets.{In, NoDup, Same, Apart}
use Rattle.laws.specs.FloatSums.{sum_f}

-- ---- the premise
-- Products are whole numbers of 2 ^ scale-ths, each at most `size` of them, at no more than `count` positions.
pub record Limit : Type 0 where
  pub scale : ℕ
  pub count : ℕ
  pub size : ℕ

-- f64 holds every such sum: up to 2 ^ 53 of its parts, none finer than its finest
pub record Held (L : Limit) : Type 0 where
  pub fine : L.scale ≤ 1074
  pub room : L.count * L.size ≤ 2 ^ 53

-- a set of positions, in some order
pub record Positions {A : Type 0} (Position : A → Type 0) (ps : List A) : Type 0 where
  pub once : NoDup ps
  pub exist : (p : A) → In p ps → Position p

-- a product within a limit, or a factor of one: at each of its positions a float f, which is exactly g of the 2 ^ scale-ths
pub record Product (L : Limit) {A : Type 0} (Position : A → Type 0) (f : A → Float) (g : A → ℤ) : Type 0 where
  pub few : (ps : List A) → Positions Position ps → length ps ≤ L.count
  pub small : (p : A) → Position p → nat_abs (g p) ≤ L.size
  pub holds : (p : A) → Position p → Holds L.scale (g p) (f p)

-- ---- the claim, of every set of the product's positions and every order of taking them, each once
pub record ExactSums (scale : ℕ) {A : Type 0} (Position : A → Type 0) (f : A → Float) (g : A → ℤ) : Type 0 where
  -- the f64 sum is the exact sum, as an f64; finite, and exactly that; plus zero where that is 0, so also over no positions
  pub exact : (ps : List A) → Positions Position ps → sum_f (map f ps) ≡ of_scaled scale (sum_z (map g ps))
  pub exact-value : (ps : List A) → Positions Position ps → Holds scale (sum_z (map g ps)) (sum_f (map f ps))
  pub exact-zero : (ps : List A) → Positions Position ps → sum_z (map g ps) ≡ pos 0 → sum_f (map f ps) ≡ plus_zero
  -- one set in two orders has one sum
  pub any_order : (ps qs : List A) → Positions Position ps → Positions Position qs → Same ps qs → sum_f (map f ps) ≡ sum_f (map f qs)
  -- the sum over two parts together, in any order, is the sums over the parts, added
  pub parts : (ps qs us : List A) → Positions Position ps → Positions Position qs → Apart ps qs → NoDup us → Same us (ps ++ qs)
      → sum_f (map f us) ≡ add binary64 (sum_f (map f ps)) (sum_f (map f qs))

-- Samples below 2 ^ depth, of a lone plane or a part and of its denoised copy. A plane goes part by part: the parts ask about all its samples, and their squares add up to the plane's. Assumes nothing.
use mathlib.Core.Path.{◌≡◌, refl, sym, ap, ◌∙◌, subst}
use mathlib.Core.Bool.{Bool, true, false, cond, ◌&&◌, and-true, and-eq-true_iff, false≢true}
use mathlib.Core.List.{List, [], ◌∷◌, ◌++◌}
use Rattle.std.specs.Prelude.{Some, None}
use Prim.Native.Nat.{ℕ, ◌+◌, ◌-◌, ◌*◌, ◌^◌, ◌≤◌, ◌<◌, min}
use native.Mathlib.Nat.{le_trans, lt_of_lt_of_le, le_of_eq}
use native.Mathlib.Omega.{arith}
use lib.Dec.{ltb}
use lib.IntN.{ℤ, pos, nat_abs, ◌-ℤ◌}
use lib.ListN.{length, get_or, take, drop, length-take, length-drop}
use lib.Seq.{get_or-take, get_or-drop}
use Rattle.std.proofs.lemmas.List.{take_at, drop_at, drop-drop}
use borrow.Author.Tests.{ltb-true, ltb-false}
use Rattle.laws.specs.Limits.{plane_limit}
use Rattle.laws.specs.Table.{tabulate}
use Rattle.laws.specs.Sums.{sum_n}
use Rattle.laws.proofs.Table.{tabulate-same}
use Rattle.laws.proofs.SumsN.{sum-ext, sum-split, sum_bound}
use Rattle.frame.specs.Questions.{low, all_low}
use Rattle.frame.proofs.Samples.{low_below, below-low}
use Rattle.noise.specs.Shift.{shifted}
use Rattle.noise.specs.Lines.{at, row_noise}
use Rattle.profile.specs.Shifted.{shifted_noise, square_of, square}
use Rattle.profile.specs.Parts.{part_limit, shifted_limit, square_limit, ShiftedLine}
use Rattle.profile.specs.Runs.{Run}
use Rattle.profile.specs.LowParts.{Copied}
use Rattle.profile.proofs.Range.{shifted-range, range_small}
use Rattle.profile.proofs.Squares.{square_le, line_small}
use Rattle.profile.proofs.PartBins.{shifted-is, run-noise}

pub record Low (depth : ℕ) (source denoised : List ℕ) : Type 0 where
  pub source-low : (i : ℕ) → get_or source i 0 < 2 ^ depth
  pub denoised-low : (i : ℕ) → get_or denoised i 0 < 2 ^ depth

pub is-low : (depth : ℕ) (a b : List ℕ) → all_low depth (a ∷ b ∷ []) ≡ true → Low depth a b
unfolding all_low
is-low depth a b e =
    let p = (and-eq-true_iff (low depth a) (all_low depth (b ∷ []))).0 e in
    record { source-low = low_below depth a p.0; denoised-low = low_below depth b ((and-eq-true_iff (low depth b) true).0 p.1).0 }

-- as both are asked
pub asked-both : (depth : ℕ) (a b : List ℕ) {r s t : Bool} → r ≡ low depth a → s ≡ low depth b → (r && s) ≡ t → all_low depth (a ∷ b ∷ []) ≡ t
unfolding all_low
asked-both depth a b p q e = ap (λ (t : Bool). low depth a && t) (and-true (low depth b)) ∙ sym (λ i. p i && q i) ∙ e

pub low-is : (depth : ℕ) (a b : List ℕ) → ((i : ℕ) → i < length a → get_or a i 0 < 2 ^ depth) → ((i : ℕ) → i < length b → get_or b i 0 < 2 ^ depth)
    → all_low depth (a ∷ b ∷ []) ≡ true
unfolding all_low
low-is depth a b f g = rw (below-low depth a f, below-low depth b g)

-- an answer of a part: a sum, or nothing
pub low-some : (b : Bool) {x s : ℕ} → Some x ≡ cond b (Some s) None → (b ≡ true) × (x ≡ s)
low-some true e = (refl, cc)
low-some false e = absurd (cc)

pub low-nothing : (b : Bool) (s : ℕ) → None ≡ cond b (Some s) None → b ≡ false
low-nothing true s e = absurd (cc)
low-nothing false s e = refl

-- a whole part is a run of every sample
module _ {most depth : ℕ} {source denoised : List ℕ} (P : Copied most depth source denoised) (L : Low depth source denoised) where
  pub part-run : (n : ℕ) → n ≡ length source → Run depth source denoised 0 1 n
  part-run n e =
      record {
        least-depth = P.least-depth;
        most-depth = P.most-depth;
        places = record { same = P.same; begins = omega arith; inside = λ i l. omega arith; source-low = λ i l. L.source-low i; denoised-low = λ i l. L.denoised-low i };
      }

at_place : (i : ℕ) → 0 + i * 1 ≡ i
at_place i = omega arith

-- a part's line of noise, shifted, as long as the part: its numbers are small
pub shift_line : (source denoised : List ℕ) (shift m n : ℕ) {p q : List ℤ} → m ≡ length source → n ≡ length source → p ≡ tabulate m (row_noise source denoised 0 1) → q ≡ tabulate n (λ i. shifted shift (at p i))
    → q ≡ tabulate (length source) (shifted_noise shift source denoised)
shift_line source denoised shift m n d e f g =
    shifted-is source denoised 0 1 shift f g (d ∙ sym e)
    ∙ rw e (tabulate-same (length source) _ _ (λ i h. ap (shifted_noise shift source denoised) (at_place i)))

pub part_small : {depth : ℕ} {source denoised : List ℕ} → Copied part_limit depth source denoised → Low depth source denoised
    → {line : List ℤ} → line ≡ tabulate (length source) (shifted_noise (depth - 8) source denoised) → ShiftedLine line
part_small {depth} {source} {denoised} P L e =
    line_small (length source) (shifted_noise (depth - 8) source denoised) e P.few
    (λ i l. subst (λ (k : ℕ). nat_abs (shifted_noise (depth - 8) source denoised k) ≤ shifted_limit) (at_place i) (run-noise (part-run P L (length source) refl) i l))

-- ---- part by part
-- m samples from place `from` on
abbrev pub part : ℕ → ℕ → List ℕ → List ℕ
part from m xs = take m (drop from xs)

module _ (from m : ℕ) (xs : List ℕ) (inside : from + m ≤ length xs) where
  pub part_length : length (part from m xs) ≡ m
  part_length = simp (length-take, length-drop) (omega arith)

  pub part_at : (i : ℕ) → i < m → get_or (part from m xs) i 0 ≡ get_or xs (from + i) 0
  part_at i l = rw (get_or-take m (drop from xs) i 0 l, get_or-drop)

-- the first k samples are low
pub record LowTo (depth : ℕ) (source denoised : List ℕ) (k : ℕ) : Type 0 where
  pub source-low : (i : ℕ) → i < k → get_or source i 0 < 2 ^ depth
  pub denoised-low : (i : ℕ) → i < k → get_or denoised i 0 < 2 ^ depth

pub low-none : (depth : ℕ) (source denoised : List ℕ) → LowTo depth source denoised 0
low-none depth source denoised = record { source-low = λ i l. absurd (omega arith); denoised-low = λ i l. absurd (omega arith) }

pub low-all : {most depth : ℕ} {source denoised : List ℕ} → Copied most depth source denoised → LowTo depth source denoised (length source) → all_low depth (source ∷ denoised ∷ []) ≡ true
low-all {most} {depth} {source} {denoised} P L =
    low-is depth source denoised L.source-low (λ i l. L.denoised-low i (lt_of_lt_of_le l (le_of_eq (sym P.same))))

module _ {most depth : ℕ} {source denoised : List ℕ} (P : Copied most depth source denoised) (from m : ℕ) (inside : from + m ≤ length source) where
  inside' : from + m ≤ length denoised
  inside' = le_trans inside (le_of_eq P.same)

  pub part_pair : m ≤ part_limit → Copied part_limit depth (part from m source) (part from m denoised)
  part_pair h =
      let e = part_length from m source inside in
      record {
        same = e ∙ sym (part_length from m denoised inside');
        few = le_trans (le_of_eq e) h;
        least-depth = P.least-depth;
        most-depth = P.most-depth;
      }

  more-low : (xs : List ℕ) → from + m ≤ length xs → ((i : ℕ) → i < from → get_or xs i 0 < 2 ^ depth) → ((i : ℕ) → get_or (part from m xs) i 0 < 2 ^ depth)
      → (i : ℕ) → i < from + m → get_or xs i 0 < 2 ^ depth
  more-low xs z f g i l = either (ltb i from) refl
    where
      either : (t : Bool) → ltb i from ≡ t → get_or xs i 0 < 2 ^ depth
      either true d = f i (ltb-true i from d)
      either false d =
          let h = ltb-false i from d in
          let e : from + (i - from) ≡ i = omega arith in
          let a : get_or (part from m xs) (i - from) 0 ≡ get_or xs i 0 = rw e at (part_at from m xs z (i - from) (omega arith)) in
          rw a at (g (i - from))

  pub low-more : LowTo depth source denoised from → Low depth (part from m source) (part from m denoised) → LowTo depth source denoised (from + m)
  low-more L K =
      record {
        source-low = more-low source inside L.source-low K.source-low;
        denoised-low = more-low denoised inside' L.denoised-low K.denoised-low;
      }

  -- a part that is not low: neither is the plane
  pub not_low : all_low depth (part from m source ∷ part from m denoised ∷ []) ≡ false → all_low depth (source ∷ denoised ∷ []) ≡ false
  not_low e = decide (all_low depth (source ∷ denoised ∷ [])) refl
    where
      below : (xs : List ℕ) → from + m ≤ length xs → ((i : ℕ) → get_or xs i 0 < 2 ^ depth) → (i : ℕ) → i < length (part from m xs) → get_or (part from m xs) i 0 < 2 ^ depth
      below xs z f i l =
          subst (λ (k : ℕ). k < 2 ^ depth) (sym (part_at from m xs z i (lt_of_lt_of_le l (le_of_eq (part_length from m xs z))))) (f (from + i))

      decide : (t : Bool) → all_low depth (source ∷ denoised ∷ []) ≡ t → all_low depth (source ∷ denoised ∷ []) ≡ false
      decide false d = d
      decide true d =
          let L = is-low depth source denoised d in
          absurd (false≢true (sym e ∙ low-is depth (part from m source) (part from m denoised) (below source inside L.source-low) (below denoised inside' L.denoised-low)))

  -- a sum over the places before, and over the part
  pub part-more : (f f' : ℕ → ℕ) → ((i : ℕ) → i < m → f' i ≡ f (from + i)) → sum_n f from + sum_n f' (length (part from m source)) ≡ sum_n f (from + m)
  part-more f f' h =
      ap (λ (k : ℕ). sum_n f from + sum_n f' k) (part_length from m source inside)
      ∙ ap (λ (k : ℕ). sum_n f from + k) (sum-ext f' (λ i. f (from + i)) m h)
      ∙ sym (sum-split f from m)

  pub square-part : (shift i : ℕ) → i < m → square shift (part from m source) (part from m denoised) i ≡ square shift source denoised (from + i)
  square-part shift i l = λ k. square_of (shifted shift (pos (part_at from m source inside i l k) -ℤ pos (part_at from m denoised inside' i l k)))

-- the squares of low samples
pub square-small : {most depth : ℕ} {source denoised : List ℕ} → Copied most depth source denoised → {k : ℕ} → LowTo depth source denoised k
    → (i : ℕ) → i < k → square (depth - 8) source denoised i ≤ square_limit
square-small {most} {depth} {source} {denoised} P L i l =
    square_le (shifted_noise (depth - 8) source denoised i) (range_small _ (shifted-range depth P.least-depth source denoised i (L.source-low i l) (L.denoised-low i l)))

-- ---- a plane gone through part by part: what is left of it and of its copy, and the sum so far
pub record Passed (depth : ℕ) (source denoised left left' : List ℕ) (sum : ℕ) : Type 0 where
  pub count : ℕ
  pub inside : count ≤ length source
  pub source-left : left ≡ drop count source
  pub denoised-left : left' ≡ drop count denoised
  pub source-low : LowTo depth source denoised count
  pub sum-is : sum ≡ sum_n (square (depth - 8) source denoised) count

-- s is the next part of a list whose first k samples are passed
module _ (xs : List ℕ) (k : ℕ) (s rest : List ℕ) {left : List ℕ} (e : left ≡ drop k xs) (joined : left ≡ s ++ rest) where
  next_is : (m : ℕ) → length s ≡ m → s ≡ part k m xs
  next_is m l = sym (ap (take m) (sym e ∙ joined) ∙ take_at s rest m l)

  rest_is : (m : ℕ) → length s ≡ m → rest ≡ drop (k + m) xs
  rest_is m l = sym (sym (drop-drop m k xs) ∙ ap (drop m) (sym e ∙ joined) ∙ drop_at s rest m l)

module _ {depth : ℕ} {source denoised : List ℕ} (P : Copied plane_limit depth source denoised) {left left' : List ℕ} {sum : ℕ} (H : Passed depth source denoised left left' sum) where
  left-long : length left ≡ length source - H.count
  left-long = rw H.source-left (length-drop H.count source)

  pub left-alike : length left' ≡ length left
  left-alike = rw (H.denoised-left, H.source-left) (omega (arith, length-drop H.count source, length-drop H.count denoised, P.same))

  pub passed-fits : sum < 2 ^ 64
  passed-fits = omega (arith, P.few, H.inside, H.sum-is, sum_bound square_limit _ _ (square-small P H.source-low))

  -- nothing is left
  pub passed-all : length left ≡ 0 → (all_low depth (source ∷ denoised ∷ []) ≡ true) × (sum ≡ sum_n (square (depth - 8) source denoised) (length source))
  passed-all z =
      let e : H.count ≡ length source = omega (arith, left-long, H.inside) in
      (low-all P (rw e at H.source-low), rw e at H.sum-is)

  module _ (s d rest rest' : List ℕ) (js : left ≡ s ++ rest) (jd : left' ≡ d ++ rest') (ls : length s ≡ min part_limit (length left)) (ld : length d ≡ min part_limit (length left')) where
    source-part : s ≡ part H.count (min part_limit (length left)) source
    source-part = next_is source H.count s rest H.source-left js _ ls

    denoised-part : d ≡ part H.count (min part_limit (length left)) denoised
    denoised-part = next_is denoised H.count d rest' H.denoised-left jd _ (ld ∙ ap (min part_limit) left-alike)

    part-inside : H.count + min part_limit (length left) ≤ length source
    part-inside = omega (arith, left-long, H.inside)

    pub next-copied : Copied part_limit depth s d
    next-copied = rw (source-part, denoised-part) (part_pair P H.count _ part-inside (omega arith))

    pub next-not-low : all_low depth (s ∷ d ∷ []) ≡ false → all_low depth (source ∷ denoised ∷ []) ≡ false
    next-not-low e = not_low P H.count _ part-inside (rw (source-part, denoised-part) at e)

    pub next-passed : {x : ℕ} → all_low depth (s ∷ d ∷ []) ≡ true → x ≡ sum_n (square (depth - 8) s d) (length s) → Passed depth source denoised rest rest' (sum + x)
    next-passed e x-is =
        let m = min part_limit (length left) in
        record {
          count = H.count + m;
          inside = part-inside;
          source-left = rest_is source H.count s rest H.source-left js _ ls;
          denoised-left = rest_is denoised H.count d rest' H.denoised-left jd _ (ld ∙ ap (min part_limit) left-alike);
          source-low = low-more P H.count m part-inside H.source-low (is-low _ _ _ (rw (source-part, denoised-part) at e));
          sum-is = (λ i. H.sum-is i + (rw (source-part, denoised-part) at x-is) i) ∙ part-more P H.count m part-inside _ _ (square-part P H.count m part-inside (depth - 8));
        }

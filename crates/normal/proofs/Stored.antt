-- A part of a list, and a list in which a part is replaced by one as long: what stands before it, in it and after it. Assumes nothing.
use mathlib.Core.Path.{◌≡◌, sym, ap, ◌∙◌}
use mathlib.Core.List.{List, ◌++◌}
use Prim.Native.Nat.{ℕ, ◌+◌, ◌-◌, ◌≤◌, ◌<◌}
use native.Mathlib.Omega.{arith}
use lib.IntN.{ℤ, pos}
use lib.ListN.{length, take, drop, length-append, length-drop, get_or-append}
use lib.Seq.{get_or-take, get_or-drop, length-take-le, get_or-append-add}
use Rattle.noise.specs.Lines.{at}

-- a part of k places from a on, as the code takes it
abbrev pub part : List ℤ → ℕ → ℕ → List ℤ
part l a k = take (a + k - a) (drop a l)

pub part_length : (l : List ℤ) (a k : ℕ) → a + k ≤ length l → length (part l a k) ≡ k
part_length l a k h = length-take-le (a + k - a) (drop a l) (rw (length-drop a l) (omega arith)) ∙ omega arith

pub part_at : (l : List ℤ) (a k c : ℕ) → c < k → at (part l a k) c ≡ at l (a + c)
part_at l a k c h = get_or-take (a + k - a) (drop a l) c (pos 0) (omega arith) ∙ get_or-drop a l c (pos 0)

-- `after` is `before` with the numbers of q from place a on
pub record Stored (before after : List ℤ) (a : ℕ) (q : List ℤ) : Type 0 where
  pub same : length after ≡ length before
  pub early : (j : ℕ) → j < a → at after j ≡ at before j
  pub there : (t : ℕ) → t < length q → at after (a + t) ≡ at q t
  pub late : (j : ℕ) → a + length q ≤ j → at after j ≡ at before j

-- a part lent and come back
module _ (before q : List ℤ) (a k : ℕ) (fits : a + k ≤ length before) (size : length q ≡ k) where
  abbrev rest : List ℤ
  rest = drop (a + k - a) (drop a before)

  abbrev after : List ℤ
  after = take a before ++ (q ++ rest)

  front-size : length (take a before) ≡ a
  front-size = length-take-le a before (omega arith)

  onward : (t : ℕ) → at after (a + t) ≡ at (q ++ rest) t
  onward t = ap (λ (m : ℕ). at after (m + t)) (sym front-size) ∙ get_or-append-add (take a before) (q ++ rest) t (pos 0)

  pub stored : Stored before after a q
  stored =
      record {
        same =
            length-append (take a before) (q ++ rest)
            ∙ (λ i. front-size i + length-append q rest i)
            ∙ (λ i. a + (size i + (length-drop (a + k - a) (drop a before) ∙ ap (λ (m : ℕ). m - (a + k - a)) (length-drop a before)) i))
            ∙ omega arith;
        early = λ j l. get_or-append (take a before) (q ++ rest) (pos 0) j (rw front-size l) ∙ get_or-take a before j (pos 0) l;
        there = λ t l. onward t ∙ get_or-append q rest (pos 0) t l;
        late = λ j l.
            let m = j - (a + k) in
            let e : j ≡ a + (k + m) = omega arith in
            let d : a + (a + k - a + m) ≡ j = omega arith in
            ap (λ (i : ℕ). at after i) e
            ∙ onward (k + m)
            ∙ ap (λ (i : ℕ). at (q ++ rest) (i + m)) (sym size)
            ∙ get_or-append-add q rest m (pos 0)
            ∙ get_or-drop (a + k - a) (drop a before) m (pos 0)
            ∙ get_or-drop a before (a + k - a + m) (pos 0)
            ∙ ap (λ (i : ℕ). at before i) d;
      }

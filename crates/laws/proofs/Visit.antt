-- A counting loop walks along the list of its numbers, and two nested ones along the places of a window, row after row. Assumes nothing.
use mathlib.Core.Path.{◌≡◌, refl, sym, ap, ◌∙◌, fun_ext}
use mathlib.Core.List.{List, [], ◌∷◌, ◌++◌, map}
use Prim.Native.Nat.{ℕ, zero, suc, ◌+◌, ◌-◌}
use Rattle.laws.specs.Loop.{turns, loop, visit}
use Rattle.laws.specs.Table.{tabulate, range}
use Rattle.laws.specs.Window.{place, places, window, at}

module _ {A S : Type 0} (f : A → S → S) where
  pub visit-append : (xs ys : List A) (s : S) → visit f (xs ++ ys) s ≡ visit f ys (visit f xs s)
  unfolding visit
  visit-append [] ys s = refl
  visit-append (x ∷ xs) ys s = visit-append xs ys (f x s)

pub visit-map : {A B S : Type 0} (f : B → S → S) (g : A → B) (xs : List A) (s : S) → visit f (map g xs) s ≡ visit (λ x. f (g x)) xs s
unfolding visit
visit-map f g [] s = refl
visit-map f g (x ∷ xs) s = visit-map f g xs (f (g x) s)

turns-visit : {S : Type 0} (f : ℕ → S → S) (a n : ℕ) (s : S) → turns f a n s ≡ visit f (tabulate n (λ i. a + i)) s
unfolding turns visit
turns-visit f a zero s = refl
turns-visit f a (suc n) s = ap (f (a + n)) (turns-visit f a n s) ∙ sym (visit-append f (tabulate n (λ i. a + i)) ((a + n) ∷ []) s)

pub loop-visit : {S : Type 0} (a b : ℕ) (f : ℕ → S → S) (s : S) → loop a b f s ≡ visit f (range a b) s
unfolding loop
loop-visit a b f s = turns-visit f a (b - a) s

places-visit : {S : Type 0} (f : ℕ → ℕ → S → S) (rs qs : List ℕ) (s : S) → visit (at f) (places rs qs) s ≡ visit (λ r. visit (f r) qs) rs s
unfolding visit
places-visit f [] qs s = refl
places-visit f (r ∷ rs) qs s =
    visit-append (at f) (map (place r) qs) (places rs qs) s
    ∙ ap (visit (at f) (places rs qs)) (visit-map (at f) (place r) qs s)
    ∙ places-visit f rs qs (visit (f r) qs s)

pub loops-visit : {S : Type 0} (a b c d : ℕ) (f : ℕ → ℕ → S → S) (s : S) → loop a b (λ r. loop c d (f r)) s ≡ visit (at f) (window a b c d) s
loops-visit a b c d f s =
    ap (λ g. loop a b g s) (fun_ext (λ r. fun_ext (λ t. loop-visit c d (f r) t)))
    ∙ loop-visit a b (λ r. visit (f r) (range c d)) s
    ∙ sym (places-visit f (range a b) (range c d) s)

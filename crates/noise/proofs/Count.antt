-- There are no more places where a factor exists than its plane has samples: each is found again from the one that it reaches, or lies in the chroma plane. Assumes nothing.
use mathlib.Core.Path.{◌≡◌, ap, ◌∙◌, subst}
use mathlib.Core.Logic.{inl, inr}
use mathlib.Core.List.{List, [], ◌∷◌, map}
use Prim.Native.Nat.{ℕ, ◌*◌, ◌≤◌, zero-le}
use native.Mathlib.Nat.{le_trans, le_of_eq, mul_comm, mul-le-mul, sub-zero}
use lib.IntN.{ℤ, pos, nat_abs, ◌+ℤ◌, ◌-ℤ◌, +ℤ-neg_ℤ_cancel}
use lib.ListN.{length, length-map}
use lib.Signed.{yes_non_neg, pos-nat_abs}
use Rattle.laws.specs.Window.{Place, window}
use Rattle.laws.specs.Sets.{In, NoDup}
use Rattle.laws.proofs.Sets.{length-within}
use Rattle.laws.proofs.Window.{window-in, length-window}
use Rattle.frame.specs.Size.{sampled}
use Rattle.noise.specs.Noise.{Pair}
use Rattle.noise.specs.Average.{Luma}
use Rattle.noise.specs.Products.{Factor, noise_from, average, Inside, Exists}
use Rattle.noise.specs.Claim.{Limited}
use Rattle.noise.proofs.Halving.{Bit, bit, sampled-le}
use Rattle.noise.proofs.Factors.{inside-lt}

map-in : {A B : Type 0} (f : A → B) (x : A) (xs : List A) → In x xs → In (f x) (map f xs)
map-in f x [] h = absurd h
map-in f x (y ∷ xs) (inl e) = inl (ap f e)
map-in f x (y ∷ xs) (inr h) = inr (map-in f x xs h)

places_count : (h w : ℕ) → length (window 0 h 0 w) ≡ w * h
places_count h w = length-window 0 h 0 w ∙ (λ i. sub-zero h i * sub-zero w i) ∙ mul_comm h w

-- ---- a noise
found : (n r : ℕ) (z : ℤ) → Inside n (pos r +ℤ z) → nat_abs (pos (nat_abs (pos r +ℤ z)) -ℤ z) ≡ r
found n r z h = ap (λ (y : ℤ). nat_abs (y -ℤ z)) (pos-nat_abs (pos r +ℤ z) (yes_non_neg h.0)) ∙ ap nat_abs (+ℤ-neg_ℤ_cancel (pos r) z)

module _ (plane : Pair) (dr dc : ℤ) where
  abbrev back : Place → Place
  back q = (nat_abs (pos q.0 -ℤ dr), nat_abs (pos q.1 -ℤ dc))

  abbrev froms : List Place
  froms = map back (window 0 plane.height 0 plane.width)

  in-froms : (p : Place) → Exists (noise_from plane dr dc) p → In p froms
  in-froms p h =
      let r = nat_abs (pos p.0 +ℤ dr) in
      let c = nat_abs (pos p.1 +ℤ dc) in
      subst (λ (q : Place). In q froms) (λ i. (found plane.height p.0 dr h.0 i, found plane.width p.1 dc h.1 i))
      (map-in back (r, c) (window 0 plane.height 0 plane.width)
      (window-in 0 plane.height 0 plane.width r c zero-le (inside-lt plane.height (pos p.0 +ℤ dr) h.0) zero-le (inside-lt plane.width (pos p.1 +ℤ dc) h.1)))

  noise-places : (ps : List Place) → NoDup ps → ((p : Place) → In p ps → Exists (noise_from plane dr dc) p) → length ps ≤ plane.width * plane.height
  noise-places ps n e =
      le_trans (length-within ps froms n (λ p h. in-froms p (e p h)))
      (le_of_eq (length-map (window 0 plane.height 0 plane.width) back ∙ places_count plane.height plane.width))

-- ---- a luma average
average-places : (luma : Luma) → Bit luma.sampling.across → Bit luma.sampling.down → (ps : List Place) → NoDup ps → ((p : Place) → In p ps → Exists (average luma) p)
    → length ps ≤ luma.plane.width * luma.plane.height
average-places luma x y ps n e =
    let h = sampled luma.sampling.down luma.plane.height in
    let w = sampled luma.sampling.across luma.plane.width in
    le_trans (length-within ps (window 0 h 0 w) n (λ p k. window-in 0 h 0 w p.0 p.1 zero-le (e p k).0 zero-le (e p k).1))
    (le_trans (le_of_eq (places_count h w)) (mul-le-mul (sampled-le luma.sampling.across luma.plane.width x) (sampled-le luma.sampling.down luma.plane.height y)))

pub places-few : (limit top : ℕ) (u : Factor) (ps : List Place) → Limited limit top u → NoDup ps → ((p : Place) → In p ps → Exists u p) → length ps ≤ limit
places-few limit top (noise_from plane dr dc) ps S n e = le_trans (noise-places plane dr dc ps n e) S.few
places-few limit top (average luma) ps S n e = le_trans (average-places luma (bit luma.sampling.across S.1) (bit luma.sampling.down S.2) ps n e) S.0.few

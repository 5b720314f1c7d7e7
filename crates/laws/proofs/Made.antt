-- What an array is that `from_fn` (`made`) or `map` (`mapped`) has made, where each call answers by one function: its table, or the list that the function is mapped over (`table-map`). Assumes nothing.
use Rattle.std.proofs.Common.{◌≡◌, ℕ, zero, suc, ◌+◌, ◌<◌, List, map, length, get_or, take, sym, refl, ap, ◌∙◌, subst, arith, add-one}
use Rattle.std.specs.Array.{IsFromFnResult, IsFromFnResultFrom, IsMapOf, MapsFrom}
use Rattle.std.proofs.lemmas.List.{take_more, ext_get_or, get_or-map}
use denote.Param.Members.{Mut, Called}
use lib.ListN.{length-map}
use Rattle.laws.specs.Table.{tabulate}
use Rattle.laws.proofs.Table.{tabulate-whole, length-tabulate, get_d_tabulate}

module _ {A : Type 0} (h : ℕ → A) (ys : List A) where
  more : (i : ℕ) (y : A) → i < length ys → ((d : A) → get_or ys i d ≡ y) → y ≡ h i → take i ys ≡ tabulate i h → take (i + 1) ys ≡ tabulate (i + 1) h
  more i y l at e t = take_more ys i y l ∙ rw (at y, e, t, add-one i)

module _ {F B : Type 0} (g : Mut F (ℕ × Unit {0}) B) (f : F) (n : ℕ) (h : ℕ → B) (gives : (i : ℕ) (y : B) (q : F) → i < n → Called g f (i, tt) y q → (q ≡ f) × (y ≡ h i)) where
  made_from : (ys : List B) → length ys ≡ n → (m i : ℕ) (p : F) → p ≡ f → i + m ≡ n → take i ys ≡ tabulate i h → IsFromFnResultFrom g p ys i m → take n ys ≡ tabulate n h
  made_from ys z zero i p s l t c = let e : i ≡ n = omega arith in rw e at t
  made_from ys z (suc m) i p s l t c =
      let r = gives i c.1 c.0 (omega arith) (subst (λ (k : F). Called g k (i, tt) c.1 c.0) s c.3) in
      made_from ys z m (i + 1) c.0 r.0 (omega arith) (more h ys i c.1 (omega arith) c.2.1 r.1 t) c.4

  pub made : {ys : List B} → IsFromFnResult g f ys n → ys ≡ tabulate n h
  made {ys} r = tabulate-whole ys n h r.long (made_from ys r.long n 0 f refl (omega arith) refl r.each)

module _ {F A B : Type 0} (g : Mut F (A × Unit {0}) B) (f : F) (h : A → B) (gives : (x : A) (y : B) (q : F) → Called g f (x, tt) y q → (q ≡ f) × (y ≡ h x)) (d : A) where
  mapped_from : (xs : List A) (ys : List B) (n : ℕ) → length ys ≡ n → (m i : ℕ) (p : F) → p ≡ f → i + m ≡ n → take i ys ≡ tabulate i (λ k. h (get_or xs k d)) → MapsFrom g p xs ys i m
      → take n ys ≡ tabulate n (λ k. h (get_or xs k d))
  mapped_from xs ys n z zero i p s l t c = let e : i ≡ n = omega arith in rw e at t
  mapped_from xs ys n z (suc m) i p s l t c =
      let r = gives c.1 c.2 c.0 (subst (λ (k : F). Called g k (c.1, tt) c.2 c.0) s c.5) in
      mapped_from xs ys n z m (i + 1) c.0 r.0 (omega arith) (more (λ k. h (get_or xs k d)) ys i c.2 (omega arith) c.4.1 (r.1 ∙ ap h (sym (c.3.1 d))) t) c.6

  pub mapped : {xs : List A} {ys : List B} {n : ℕ} → IsMapOf g f xs ys n → ys ≡ tabulate n (λ k. h (get_or xs k d))
  mapped {xs} {ys} {n} r = tabulate-whole ys n (λ k. h (get_or xs k d)) r.long (mapped_from xs ys n r.long n 0 f refl (omega arith) refl r.each)

-- a table of what h gives of a list's entries
pub table-map : {A B : Type 0} (h : A → B) (d : A) (xs : List A) (n : ℕ) → length xs ≡ n → tabulate n (λ k. h (get_or xs k d)) ≡ map h xs
table-map h d xs n e =
    ext_get_or (h d) _ (map h xs) (length-tabulate n (λ k. h (get_or xs k d)) ∙ sym e ∙ sym (length-map xs h))
    (λ i l. let k : i < n = omega (arith, length-tabulate n (λ k. h (get_or xs k d))) in get_d_tabulate n (λ k. h (get_or xs k d)) i (h d) k ∙ sym (get_or-map h xs i d (h d) (omega (arith, e))))

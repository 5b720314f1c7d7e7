-- Sets of positions: a set within another has no more members, two parts that are apart make a set, and the exact sum over a set is one in every order.
-- By taking the first member of the one out of the other. Assumes nothing.
use mathlib.Core.Path.{◌≡◌, refl, sym, ap, ◌∙◌, subst}
use mathlib.Core.List.{List, [], ◌∷◌, ◌++◌, map}
use mathlib.Core.Logic.{◌⊎◌, inl, inr}
use Prim.Native.Nat.{suc, ◌≤◌, zero-le}
use native.Mathlib.Nat.{suc-le-suc_iff, le_trans, le_of_eq}
use lib.IntN.{ℤ, ◌+ℤ◌, +ℤ_assoc, +ℤ_comm}
use lib.ListN.{length}
use Rattle.laws.specs.Sums.{sum_z}
use Rattle.laws.specs.Sets.{In, NoDup, Subset, Same, Apart}

module _ {A : Type 0} where
  -- ---- a list without one of its members
  abbrev without : (p : A) (qs : List A) → In p qs → List A
  without p [] h = absurd h
  without p (q ∷ qs) (inl e) = qs
  without p (q ∷ qs) (inr h) = q ∷ without p qs h

  length_without : (p : A) (qs : List A) (h : In p qs) → length qs ≡ suc (length (without p qs h))
  length_without p [] h = absurd h
  length_without p (q ∷ qs) (inl e) = refl
  length_without p (q ∷ qs) (inr h) = ap suc (length_without p qs h)

  sum-without : (g : A → ℤ) (p : A) (qs : List A) (h : In p qs) → sum_z (map g qs) ≡ g p +ℤ sum_z (map g (without p qs h))
  unfolding sum_z
  sum-without g p [] h = absurd h
  sum-without g p (q ∷ qs) (inl e) = ap (λ (r : A). g r +ℤ sum_z (map g qs)) (sym e)
  sum-without g p (q ∷ qs) (inr h) = ap (λ (z : ℤ). g q +ℤ z) (sum-without g p qs h) ∙ swap (g q) (g p) (sum_z (map g (without p qs h)))
    where
      swap : (a b c : ℤ) → a +ℤ (b +ℤ c) ≡ b +ℤ (a +ℤ c)
      swap a b c = sym (+ℤ_assoc a b c) ∙ ap (λ (z : ℤ). z +ℤ c) (+ℤ_comm a b) ∙ +ℤ_assoc b a c

  -- a member is the one taken out, or it is left
  other : (p : A) (qs : List A) (h : In p qs) (r : A) → In r qs → (r ≡ p) ⊎ In r (without p qs h)
  other p [] h r k = absurd h
  other p (q ∷ qs) (inl e) r (inl d) = inl (d ∙ sym e)
  other p (q ∷ qs) (inl e) r (inr k) = inr k
  other p (q ∷ qs) (inr h) r (inl d) = inr (inl d)
  other p (q ∷ qs) (inr h) r (inr k) = more (other p qs h r k)
    where
      more : (r ≡ p) ⊎ In r (without p qs h) → (r ≡ p) ⊎ In r (q ∷ without p qs h)
      more (inl d) = inl d
      more (inr m) = inr (inr m)

  still : (p : A) (qs : List A) (h : In p qs) → Subset (without p qs h) qs
  still p [] h r k = absurd h
  still p (q ∷ qs) (inl e) r k = inr k
  still p (q ∷ qs) (inr h) r (inl d) = inl d
  still p (q ∷ qs) (inr h) r (inr k) = inr (still p qs h r k)

  nodup-without : (p : A) (qs : List A) (h : In p qs) → NoDup qs → NoDup (without p qs h)
  nodup-without p [] h n = absurd h
  nodup-without p (q ∷ qs) (inl e) n = n.1
  nodup-without p (q ∷ qs) (inr h) n = ((λ k. n.0 (still p qs h q k)), nodup-without p qs h n.1)

  gone : (p : A) (qs : List A) (h : In p qs) → NoDup qs → In p (without p qs h) → ⊥
  gone p [] h n k = absurd h
  gone p (q ∷ qs) (inl e) n k = n.0 (subst (λ (r : A). In r qs) e k)
  gone p (q ∷ qs) (inr h) n (inl d) = n.0 (subst (λ (r : A). In r qs) d h)
  gone p (q ∷ qs) (inr h) n (inr k) = gone p qs h n.1 k

  -- what is within a set, but for its first member, is within the rest
  rest : (p : A) (ps qs : List A) → NoDup (p ∷ ps) → (W : Subset (p ∷ ps) qs) → Subset ps (without p qs (W p (inl refl)))
  rest p ps qs n W r k = left (other p qs (W p (inl refl)) r (W r (inr k)))
    where
      left : (r ≡ p) ⊎ In r (without p qs (W p (inl refl))) → In r (without p qs (W p (inl refl)))
      left (inl e) = absurd (n.0 (subst (λ (q : A). In q ps) e k))
      left (inr m) = m

  pub length-within : (ps qs : List A) → NoDup ps → Subset ps qs → length ps ≤ length qs
  length-within [] qs n W = zero-le
  length-within (p ∷ ps) qs n W =
      let h = W p (inl refl) in
      le_trans (suc-le-suc_iff.1 (length-within ps (without p qs h) n.1 (rest p ps qs n W))) (le_of_eq (sym (length_without p qs h)))

  -- the same members, each once: the same exact sum
  pub sum-same-set : (g : A → ℤ) (ps qs : List A) → NoDup ps → NoDup qs → Same ps qs → sum_z (map g ps) ≡ sum_z (map g qs)
  unfolding sum_z
  sum-same-set g [] [] m n S = refl
  sum-same-set g [] (q ∷ qs) m n S = absurd (S.1 q (inl refl))
  sum-same-set g (p ∷ ps) qs m n S =
      let h = S.0 p (inl refl) in
      ap (λ (z : ℤ). g p +ℤ z) (sum-same-set g ps (without p qs h) m.1 (nodup-without p qs h n) (rest p ps qs m S.0, (λ r k. fewer r k (S.1 r (still p qs h r k)))))
      ∙ sym (sum-without g p qs h)
    where
      fewer : (r : A) → In r (without p qs (S.0 p (inl refl))) → (r ≡ p) ⊎ In r ps → In r ps
      fewer r k (inl e) = absurd (gone p qs (S.0 p (inl refl)) n (subst (λ (q : A). In q (without p qs (S.0 p (inl refl)))) e k))
      fewer r k (inr m) = m

  -- ---- two parts, one after the other
  pub in-append : (p : A) (ps qs : List A) → In p (ps ++ qs) → In p ps ⊎ In p qs
  in-append p [] qs h = inr h
  in-append p (x ∷ ps) qs (inl e) = inl (inl e)
  in-append p (x ∷ ps) qs (inr h) = more (in-append p ps qs h)
    where
      more : In p ps ⊎ In p qs → In p (x ∷ ps) ⊎ In p qs
      more (inl m) = inl (inr m)
      more (inr m) = inr m

  pub append-in : (p : A) (ps qs : List A) → In p ps ⊎ In p qs → In p (ps ++ qs)
  append-in p [] qs (inl h) = absurd h
  append-in p [] qs (inr h) = h
  append-in p (x ∷ ps) qs (inl (inl e)) = inl e
  append-in p (x ∷ ps) qs (inl (inr h)) = inr (append-in p ps qs (inl h))
  append-in p (x ∷ ps) qs (inr h) = inr (append-in p ps qs (inr h))

  pub nodup_append : (ps qs : List A) → NoDup ps → NoDup qs → Apart ps qs → NoDup (ps ++ qs)
  nodup_append [] qs m n d = n
  nodup_append (p ∷ ps) qs m n d = ((λ h. twice (in-append p ps qs h)), nodup_append ps qs m.1 n (λ r h k. d r (inr h) k))
    where
      twice : In p ps ⊎ In p qs → ⊥
      twice (inl h) = m.0 h
      twice (inr h) = d p (inl refl) h

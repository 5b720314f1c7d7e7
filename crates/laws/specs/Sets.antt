-- Sets of positions: lists in which no position stands twice. Two of them are the same set where each holds the other.
use Rattle.std.specs.Prelude.{◌≡◌, List, [], ◌∷◌, ◌⊎◌}

module _ {A : Type 0} where
  abbrev pub In : A → List A → Type 0
  In p [] = ⊥
  In p (q ∷ qs) = (p ≡ q) ⊎ In p qs

  abbrev pub NoDup : List A → Type 0
  NoDup [] = Unit
  NoDup (p ∷ ps) = (In p ps → ⊥) × NoDup ps

  abbrev pub Subset : List A → List A → Type 0
  Subset ps qs = (p : A) → In p ps → In p qs

  abbrev pub Same : List A → List A → Type 0
  Same ps qs = Subset ps qs × Subset qs ps

  -- no position in both
  abbrev pub Apart : List A → List A → Type 0
  Apart ps qs = (p : A) → In p ps → In p qs → ⊥

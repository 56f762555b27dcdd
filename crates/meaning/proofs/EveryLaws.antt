-- Laws of what every element of a list has.
use mathlib.Core.List.{List, [], ◌∷◌, ◌++◌}
use Rattle.meaning.specs.Every.{Every}

module _ {A : Type 0} (P : A → Type 0) where
  pub every_append : (xs ys : List A) → Every P xs → Every P ys → Every P (xs ++ ys)
  every_append [] ys h k = k
  every_append (x ∷ xs) ys h k = (h.0, every_append xs ys h.1 k)

module _ {A : Type 0} (P Q : A → Type 0) where
  pub every_map : ((x : A) → P x → Q x) → (xs : List A) → Every P xs → Every Q xs
  every_map f [] h = tt
  every_map f (x ∷ xs) h = (f x h.0, every_map f xs h.1)

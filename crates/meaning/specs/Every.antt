-- Every element of a list has a property.
use Rattle.std.specs.Prelude.{List, [], ◌∷◌}

module _ {A : Type 0} (P : A → Type 0) where
  abbrev pub Every : List A → Type 0
  Every [] = Unit {0}
  Every (x ∷ xs) = P x × Every xs

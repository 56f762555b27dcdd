-- No ID is live twice, over any kind of record.
use Rattle.std.specs.Prelude.{◌≡◌, false, List, [], ◌∷◌}
use Rattle.meaning.specs.Replay.{Kind, active}

-- the ID of each live record is not active among the records behind it
abbrev pub LiveOnce : {A : Type 0} → Kind A → List A → Type 0
LiveOnce K [] = Unit {0}
LiveOnce K (r ∷ rs) = (K.deleted r ≡ false → active K (K.id_of r) rs ≡ false) × LiveOnce K rs

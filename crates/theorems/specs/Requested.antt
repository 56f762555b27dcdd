-- The operations that a request asks for, by value.
use Rattle.std.specs.Prelude.{ℕ, Bool, true, false, cond, List, [], ◌∷◌, take, drop}
use Rattle.coordinates.specs.Coordinates.{coordinate_bytes}
use Rattle.fields.specs.Fields.{part}
use Rattle.config.specs.declared.Config.{Config}
use Rattle.meaning.specs.Replay.{Operation, put, remove}
use Rattle.meaning.specs.Records.{Record}
use Rattle.meaning.specs.Encoder.{Asked, asked, is_put, asked_length, asked_start}

-- the record of a put: the bytes of its coordinates, and its part of the captions
abbrev pub record_meant : List ℕ → List ℕ → Asked → Record
record_meant coords captions o =
    record { id = o.id; deleted = false; vector = coordinate_bytes coords; caption = part captions (asked_start o) (asked_length o) }

abbrev pub operation_meant : Bool → List ℕ → List ℕ → Asked → Operation Record
operation_meant true coords captions o = put (record_meant coords captions o)
operation_meant false coords captions o = remove o.id

-- operations in order; each put takes the next d coordinates
unfoldable pub meant : Config → List ℕ → List ℕ → List Asked → List (Operation Record)
meant c coords captions [] = []
meant c coords captions (o ∷ os) =
    operation_meant (is_put o) (take c.dimensions coords) captions o ∷ meant c (cond (is_put o) (drop c.dimensions coords) coords) captions os

abbrev pub requested : Config → List ℕ → List ℕ → List ℕ → List (Operation Record)
requested c words coords captions = meant c coords captions (asked words)

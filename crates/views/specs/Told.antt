-- How the code's answers tell what `meaning` gives.
use Rattle.std.specs.Prelude.{Option, Some, None, Ok, Err}
use Rattle.refusal.specs.Refusal.{Answer, told}
use Rattle.rows.specs.declared.Node.{Node}
use Rattle.meaning.specs.Views.{Lookup, node, none}

abbrev pub found : Lookup → Option Node
found (node n) = Some (record { 0 = n })
found none = None

abbrev pub found_told : Answer Lookup → Answer (Option Node)
found_told = told (λ f. Ok (found f)) (λ why. Err why)

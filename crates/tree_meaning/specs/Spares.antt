-- A row whose offset leaves the spare bits free.
use Rattle.std.specs.Prelude.{◌<◌}
use Rattle.rows.specs.declared.Row.{Row}
use Rattle.links.specs.Links.{spare}

abbrev pub Spares : Row → Type 0
Spares r = r.at < spare

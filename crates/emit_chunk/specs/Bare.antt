-- The graphs that can be written so far.
use Rattle.std.specs.Prelude.{◌≡◌, ◌≢◌, []}
use Rattle.std.specs.List.{All}
use Rattle.pk_types.specs.declared.facts.Kind.TheVariants.{Json}
use Rattle.pk_types.specs.declared.graph.Graph.{Graph}
use Rattle.pk_types.specs.declared.graph.Row.{Row}

-- a module without a binding and without a site, and no JSON
pub record IsBareRow (row : Row) : Type 0 where
  pub kind : row.facts.kind ≢ Json
  pub bindings : row.facts.bindings ≡ []
  pub sites : row.facts.sites ≡ []

abbrev pub IsBare : Graph → Type 0
IsBare graph = All IsBareRow graph.rows

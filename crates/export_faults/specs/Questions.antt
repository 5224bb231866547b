-- What imports and exports ask of other modules, and which answers are faults.
use Rattle.std.specs.Prelude.{ℕ, List, Option, Some, None, slice_get, option_and_then}
use Rattle.std.specs.Option.{option_map}
use Rattle.pk_types.specs.declared.facts.ExportEntry.{ExportEntry}
use Rattle.pk_types.specs.declared.facts.ImportEntry.{ImportEntry}
use Rattle.pk_types.specs.declared.facts.Origin.{Origin}
use Rattle.pk_types.specs.declared.facts.Origin.TheVariants.{Own, Other, Space}
use Rattle.pk_types.specs.declared.found.Found.{Found}
use Rattle.pk_types.specs.declared.found.Found.TheVariants.{Binding, Namespace, Foreign, Nothing, Ambiguous}
use Rattle.pk_types.specs.declared.graph.Row.{Row}
use Rattle.export_faults.specs.declared.fault.Asker.{Asker}
use Rattle.export_faults.specs.declared.fault.Asker.TheVariants as asker
use Rattle.export_faults.specs.declared.fault.FaultKind.{FaultKind}
use Rattle.export_faults.specs.declared.fault.FaultKind.TheVariants as kind

-- a name that is asked of what a request leads to, at a place
pub record Asked : Type 0 where
  pub place : ℕ
  pub request : ℕ
  pub name : List ℕ

-- an import asks for its name, where it has one; a namespace can be of any module
abbrev pub asked_by_import : ImportEntry → Option Asked
asked_by_import entry = option_map (λ name. record { place = entry.place; request = entry.request; name = name }) entry.name

-- the name that an export takes from another module, by the request
abbrev pub asked_at : ℕ → Origin → Option Asked
asked_at place (Own binding) = None
asked_at place (Other request name) = Some (record { place = place; request = request; name = name })
asked_at place (Space request) = None

abbrev pub asked_by_export : ExportEntry → Option Asked
asked_by_export entry = asked_at entry.place entry.origin

-- what the import or the export asks, where the module has it and it asks
abbrev pub question_of : Row → Asker → Option Asked
question_of row (asker.Import number) = option_and_then asked_by_import (slice_get row.facts.imports number)
question_of row (asker.Export number) = option_and_then asked_by_export (slice_get row.facts.exports number)

-- what is wrong where a name stands for this
abbrev pub kind_of : Found → Option FaultKind
kind_of (Binding owner binding) = None
kind_of (Namespace number) = None
kind_of (Foreign number name) = None
kind_of Nothing = Some kind.Missing
kind_of Ambiguous = Some kind.Ambiguous

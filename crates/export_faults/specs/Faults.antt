-- The faults of a graph, and the first of them.
use Rattle.std.specs.Prelude.{◌≡◌, ℕ, false, Option, Some, None, slice_get}
use Rattle.pk_types.specs.declared.found.Found.{Found}
use Rattle.pk_types.specs.declared.graph.Graph.{Graph}
use Rattle.pk_types.specs.declared.graph.Row.{Row}
use Rattle.pk_types.specs.Resolving.{Resolves}
use Rattle.export_faults.specs.declared.fault.Asker.{Asker}
use Rattle.export_faults.specs.declared.fault.Asker.TheVariants.{Import, Export}
use Rattle.export_faults.specs.declared.fault.ExportFault.{ExportFault}
use Rattle.export_faults.specs.Questions.{Asked, question_of, kind_of}
use Rattle.export_faults.specs.Order.{is_before}

-- The fault stands in the graph: a module asks for a name, which is nothing or ambiguous at what the request leads to.
pub record Stands (graph : Graph) (fault : ExportFault) : Type 0 where
  pub row : Row
  pub at : slice_get graph.rows fault.module ≡ Some row
  pub question : Asked
  pub asks : question_of row fault.asker ≡ Some question
  pub place : fault.place ≡ question.place
  pub target : ℕ
  pub leads : slice_get row.targets question.request ≡ Some target
  pub found : Found
  pub resolves : Resolves graph target question.name found
  pub kind : kind_of found ≡ Some fault.kind

-- none of these comes before the one that is given; there is none where none is given
abbrev pub AreLeast : (ExportFault → Type 0) → Option ExportFault → Type 0
AreLeast Stand None = (fault : ExportFault) → ¬ Stand fault
AreLeast Stand (Some first) = Stand first × ((fault : ExportFault) → Stand fault → is_before fault first ≡ false)

-- the first fault of the graph, by module and place, or none
abbrev pub IsFirst : Graph → Option ExportFault → Type 0
IsFirst graph = AreLeast (Stands graph)

-- ---- faults of a part of the graph; only private clauses cite the rest

-- the fault stands in this module
abbrev pub StandsIn : Graph → ℕ → ExportFault → Type 0
StandsIn graph number fault = Stands graph fault × (fault.module ≡ number)

-- and this asks there
abbrev pub StandsAt : Graph → ℕ → Asker → ExportFault → Type 0
StandsAt graph number asker fault = StandsIn graph number fault × (fault.asker ≡ asker)

abbrev pub StandsInImports : Graph → ℕ → ExportFault → Type 0
StandsInImports graph number fault = StandsIn graph number fault × ((place : ℕ) × (fault.asker ≡ Import place))

abbrev pub StandsInExports : Graph → ℕ → ExportFault → Type 0
StandsInExports graph number fault = StandsIn graph number fault × ((place : ℕ) × (fault.asker ≡ Export place))

-- Questions as the code has them. Only private clauses cite this.
use Rattle.std.specs.Prelude.{◌≡◌, ℕ, List, Option}
use Rattle.pk_types.specs.declared.found.Found.{Found}
use Rattle.pk_types.specs.declared.graph.Graph.{Graph}
use Rattle.pk_types.specs.Resolving.{Resolves}
use Rattle.export_faults.specs.declared.fault.FaultKind.{FaultKind}
use Rattle.export_faults.specs.declared.question.Question.{Question}
use Rattle.export_faults.specs.Questions.{Asked, kind_of}

-- the question without where its name lies
abbrev pub asked : Question → Asked
asked question = record { place = question.place; request = question.request; name = question.name.now }

-- this is wrong with the name of the module
abbrev pub IsJudged : Graph → ℕ → List ℕ → Option FaultKind → Type 0
IsJudged graph number name kind = (found : Found) × Resolves graph number name found × (kind_of found ≡ kind)

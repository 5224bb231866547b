-- The files of a bundle of one entry.
use Rattle.std.specs.Prelude.{List, [], ◌∷◌, codes}
use Rattle.pk_types.specs.declared.graph.Graph.{Graph}
use Rattle.pk_types.specs.declared.plan.Plan.{Plan}
use Rattle.emit_body.specs.declared.body.Body.{Body}
use Rattle.emit_chunk.specs.Entry.{entry_text}
use Rattle.plan_core.specs.declared.files.OutFile.{OutFile}

abbrev pub output_of : Graph → Plan → List Body → List OutFile
output_of graph plan bodies = record { name = codes "main.js"; bytes = entry_text graph plan bodies [] 0 } ∷ []

-- How the text of an entry file is put together.
use Rattle.std.proofs.Common.{◌≡◌, ℕ, List, ◌++◌, refl}
use Rattle.std.specs.Prelude.{codes}
use Rattle.pk_types.specs.declared.graph.Graph.{Graph}
use Rattle.pk_types.specs.declared.plan.Plan.{Plan}
use Rattle.emit_body.specs.declared.body.Body.{Body}
use Rattle.emit_chunk.specs.Joined.{joined}
use Rattle.emit_chunk.specs.Entry.{row_text, chunk_text, list_of, roots_of, entry_text}
use Rattle.emit_chunk.specs.Factories.{factory_of}
use Rattle.emit_chunk.specs.Runtime.{runtime}

-- an entry file is what the code writes, piece by piece
pub entry_joins : (graph : Graph) (plan : Plan) (bodies : List Body) (hashes : List (List ℕ)) (entry : ℕ)
    → runtime ++ codes "__webpack_start__({ g: [" ++ row_text plan entry ++ codes "], c: [" ++ joined (codes ", ") (chunk_text plan hashes) (list_of plan entry)
    ++ codes "] }, [\n" ++ joined (codes ",\n") (factory_of graph plan bodies) (roots_of plan entry) ++ codes "\n]);\n"
    ≡ entry_text graph plan bodies hashes entry
unfolding entry_text
entry_joins graph plan bodies hashes entry = refl

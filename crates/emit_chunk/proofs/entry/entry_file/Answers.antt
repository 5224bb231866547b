use Rattle.std.proofs.Common.{◌++◌, ap, ◌∙◌}
use Rattle.std.specs.Prelude.{codes}
use Rattle.emit_chunk.specs.Joined.{joined}
use Rattle.emit_chunk.specs.Entry.{row_text, chunk_text, list_of, roots_of}
use Rattle.emit_chunk.specs.Factories.{factory_of}
use Rattle.emit_chunk.proofs.Entries.{entry_joins}
use Rattle.emit_chunk.proofs.entry.entry_file.Goals as goal

pub returns : goal.returns
returns c =
    let graph = c.args.graph.now in
    let plan = c.args.plan.now in
    let bodies = c.args.bodies.now in
    let hashes = c.args.hashes.now in
    let entry = c.args.entry in
    c.from_vec.ensures
    ∙ c.in_ok-extend_from_slice-4.ensures.items
    ∙ ap (λ text. text ++ codes "\n]);\n") (c.in_ok-put_factories.ensures
    ∙ ap (λ given. c.extend_from_slice-3.new.self.items ++ joined (codes ",\n") (factory_of graph plan given) c.as_slice-3.result.now) c.as_slice-2.ensures
    ∙ ap (λ roots. c.extend_from_slice-3.new.self.items ++ joined (codes ",\n") (factory_of graph plan bodies) roots) (c.as_slice-3.ensures.value ∙ c.in_ok-roots.ensures.roots)
    ∙ ap (λ text. text ++ joined (codes ",\n") (factory_of graph plan bodies) (roots_of plan entry)) (c.in_ok-extend_from_slice-3.ensures.items
    ∙ ap (λ text. text ++ codes "] }, [\n") (c.in_ok-put_chunks.ensures
    ∙ ap (λ given. c.extend_from_slice-2.new.self.items ++ joined (codes ", ") (chunk_text plan given) c.list_of-chunks.result.now) c.as_slice.ensures
    ∙ ap (λ chunks. c.extend_from_slice-2.new.self.items ++ joined (codes ", ") (chunk_text plan hashes) chunks) c.list_of-chunks.ensures.chunks
    ∙ ap (λ text. text ++ joined (codes ", ") (chunk_text plan hashes) (list_of plan entry)) (c.in_ok-extend_from_slice-2.ensures.items
    ∙ ap (λ text. text ++ codes "], c: [") (c.in_ok-put_row.ensures
    ∙ ap (λ text. text ++ row_text plan entry) (c.in_ok-extend_from_slice.ensures.items
    ∙ ap (λ text. text ++ codes "__webpack_start__({ g: [") (c.in_ok-out.ensures.items ∙ c.runtime.ensures)))))))
    ∙ entry_joins graph plan bodies hashes entry

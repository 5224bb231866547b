use Rattle.std.proofs.Common.{[], ◌∷◌, ◌++◌, ap, ◌∙◌}
use Rattle.emit_chunk.specs.Entry.{entry_text}
use Rattle.plan_core.specs.declared.files.OutFile.{OutFile}
use Rattle.plan_core.proofs.files.output.Goals as goal

pub returns : goal.returns
returns c =
    let graph = c.args.graph.now in
    let plan = c.args.plan.now in
    let bodies = c.args.bodies.now in
    c.in_ok-push.ensures.items
    ∙ ap (λ files. files ++ record { name = c.in_ok-name.name; bytes = c.in_ok-bytes.bytes } ∷ []) c.in_ok-files.ensures.items
    ∙ ap (λ name. let file : OutFile = record { name = name; bytes = c.in_ok-bytes.bytes } in file ∷ []) c.in_ok-name.ensures
    ∙ ap (λ bytes. let file : OutFile = record { name = _; bytes = bytes } in file ∷ []) (c.in_ok-bytes.ensures ∙ ap (λ hashes. entry_text graph plan bodies hashes 0) (c.from_vec-hashes.ensures ∙ c.new.ensures.items))

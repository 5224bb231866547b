use Rattle.std.proofs.Common.{◌++◌, ap, ◌∙◌}
use Rattle.std.specs.Prelude.{codes}
use Rattle.emit_chunk.specs.Factories.{id_text}
use Rattle.emit_chunk.proofs.Texts.{evaluation_joins}
use Rattle.emit_chunk.proofs.factory.put_evaluation.Goals as goal

pub returns : goal.returns
returns c =
    let plan = c.args.plan.now in
    c.in_ok-extend_from_slice-2.ensures.items
    ∙ ap (λ text. text ++ codes ");\n") (c.in_ok-put_id.ensures
    ∙ ap (λ text. text ++ id_text plan c.args.number) c.in_ok-extend_from_slice.ensures.items)
    ∙ evaluation_joins plan c.args.number c.args.out.now.items

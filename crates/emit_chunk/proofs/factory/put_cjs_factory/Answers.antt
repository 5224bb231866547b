use Rattle.std.proofs.Common.{◌++◌, ap, ◌∙◌}
use Rattle.std.specs.Prelude.{codes}
use Rattle.emit_chunk.specs.Factories.{id_text, segment_text}
use Rattle.emit_chunk.proofs.Texts.{cjs_joins}
use Rattle.emit_chunk.proofs.factory.put_cjs_factory.Goals as goal

pub returns : goal.returns
returns c =
    let graph = c.args.graph.now in
    let plan = c.args.plan.now in
    let bodies = c.args.bodies.now in
    let number = c.args.number in
    c.in_ok-extend_from_slice-3.ensures.items
    ∙ ap (λ text. text ++ codes "}]") (c.in_ok-put_segment.ensures
    ∙ ap (λ text. text ++ segment_text graph bodies number) (c.in_ok-extend_from_slice-2.ensures.items
    ∙ ap (λ text. text ++ codes ", 0, [], function (module, exports, __webpack_r) {\n") (c.in_ok-put_id.ensures
    ∙ ap (λ text. text ++ id_text plan number) c.in_ok-extend_from_slice.ensures.items)))
    ∙ cjs_joins graph plan bodies number c.args.out.now.items

use Rattle.std.proofs.Common.{◌++◌, ap, ◌∙◌}
use Rattle.std.specs.Prelude.{codes}
use Rattle.emit_chunk.specs.Factories.{id_text, item_text, items_of, evaluated}
use Rattle.emit_chunk.specs.Joined.{joined, all_of}
use Rattle.emit_chunk.proofs.Texts.{es_joins}
use Rattle.emit_chunk.proofs.factory.put_es_factory.Goals as goal

pub returns : goal.returns
returns c =
    let graph = c.args.graph.now in
    let plan = c.args.plan.now in
    let bodies = c.args.bodies.now in
    let root = c.args.root in
    let is = c.items_of-items.ensures.items in
    c.in_ok-extend_from_slice-4.ensures.items
    ∙ ap (λ text. text ++ codes "}]") (c.in_ok-put_items.ensures
    ∙ ap (λ items. c.extend_from_slice-3.new.self.items ++ all_of (item_text graph plan bodies) items) is
    ∙ ap (λ text. text ++ all_of (item_text graph plan bodies) (items_of plan root)) (c.in_ok-extend_from_slice-3.ensures.items
    ∙ ap (λ text. text ++ codes "], function* (__webpack_r) {\n\"use strict\";\n/*v*/\nyield;\n") (c.in_ok-put_evaluated.ensures
    ∙ ap (λ items. c.extend_from_slice-2.new.self.items ++ joined (codes ", ") (id_text plan) (evaluated items)) is
    ∙ ap (λ text. text ++ joined (codes ", ") (id_text plan) (evaluated (items_of plan root))) (c.in_ok-extend_from_slice-2.ensures.items
    ∙ ap (λ text. text ++ codes ", 1, [") (c.in_ok-put_id.ensures
    ∙ ap (λ text. text ++ id_text plan root) c.in_ok-extend_from_slice.ensures.items)))))
    ∙ es_joins graph plan bodies root c.args.out.now.items

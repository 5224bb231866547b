use Rattle.std.proofs.Common.{◌≡◌, [], sym, ap, ◌∙◌}
use Rattle.std.proofs.lemmas.Result.{IfOk-equal}
use Rattle.std.specs.Prelude.{codes}
use Rattle.std.specs.Fmt.{decimal}
use Rattle.std.specs.Option.{option_map_or}
use Rattle.emit_chunk.specs.Factories.{id_text}
use Rattle.chunk_files.specs.Factories.{json_factory, json_text}
use Rattle.chunk_files.specs.Json.{escaped, without_mark}
use Rattle.chunk_files.specs.Pens.{penned}
use Rattle.chunk_files.proofs.Penning.{then_put, at_last}
use Rattle.chunk_files.proofs.json.put_json.Goals as goal

pub returns : goal.returns
unfolding json_factory
returns c =
    let number = c.in_ok-put_number.ensures ∙ ap (λ n. penned c.put-4.new.self (decimal n)) c.escaped_len.ensures in
    let one = c.in_ok-put.ensures in
    let two = then_put _ _ _ _ _ one c.in_ok-put_id.ensures in
    let three = then_put _ _ _ _ _ two c.in_ok-put-2.ensures in
    let four = then_put _ _ _ _ _ three c.in_ok-put-3.ensures in
    let five = then_put _ _ _ _ _ four c.in_ok-put-4.ensures in
    let six = then_put _ _ _ _ _ five number in
    let seven = then_put _ _ _ _ _ six c.in_ok-put-5.ensures in
    let eight = then_put _ _ _ _ _ seven c.in_ok-put_escaped.ensures in
    let is : escaped c.without_mark-text.result.now ≡ json_text c.args.material.now c.args.module =
    ap escaped c.without_mark-text.ensures ∙ ap (λ found. option_map_or (λ s. escaped (without_mark s)) found []) (sym c.source.ensures) in
    IfOk-equal c.put-6.result _ _ _ c.put-6.ensures
    (at_last _ _ _ (codes "');\n}]") eight
    ∙ ap (λ t. penned c.args.pen.now (json_factory (id_text c.args.material.now.plan c.args.module) c.args.label.now t)) is)

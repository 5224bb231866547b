use Rattle.std.proofs.Common.{◌<◌, ◌++◌, ◌∷◌, [], length, take, sym, ap, ◌∙◌, arith}
use Rattle.std.proofs.lemmas.List.{take_more}
use Rattle.std.proofs.lemmas.Option.{get_or_from_slice_get}
use Rattle.export_usage.proofs.reading.texts.Goals as goal

pub loop-number-preserved : goal.loop-number-preserved
loop-number-preserved c =
    let names = c.args.names.now in
    let number = c.loop-number.number in
    let within : number < length names = omega (arith, c.len-count.ensures.len) in
    let text = get_or_from_slice_get names number c.text_of.result.now [] c.text_of.ensures.text in
    let more = take_more names number [] within in
    c.in_ok-push.ensures.items
    ∙ ap (λ l. l ++ c.in_ok-from_slice.field-0 ∷ []) c.loop-number.invariant
    ∙ ap (λ t. take number names ++ t ∷ []) (c.in_ok-from_slice.ensures ∙ sym text)
    ∙ sym more

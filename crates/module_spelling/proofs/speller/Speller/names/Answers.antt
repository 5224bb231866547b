use Rattle.std.proofs.Common.{◌≡◌, ◌<◌, Some, [], length, slice_get, sym, ap, ◌∙◌, arith}
use Rattle.std.proofs.lemmas.Option.{slice_get-get_or, get_or_from_slice_get}
use Rattle.module_spelling.specs.Layout.{Layout}
use Rattle.module_spelling.proofs.speller.Speller.names.Goals as goal

pub returns-clause-each : goal.returns-clause-each
returns-clause-each c = λ row at.
    let names = c.self.inside.names.now in
    let list = c.index-self-number.result in
    let rows = ap (λ (l : Layout). length l.graph.rows) c.self.view_is in
    let within : c.args.number < length names = omega (arith, c.self.invariant.each_names, rows, c.requires) in
    let got : slice_get names c.args.number ≡ Some list = slice_get-get_or names c.args.number list within ∙ ap Some (sym c.index-self-number.is) in
    ap length c.as_slice.ensures ∙ ap length (sym c.index-self-number.is) ∙ ap length (sym (get_or_from_slice_get names c.args.number list [] got))
    ∙ c.self.invariant.names c.args.number row (ap (λ (l : Layout). slice_get l.graph.rows c.args.number) c.self.view_is ∙ at)

use Rattle.std.proofs.Common.{Some, option_copied, sym, ap, ◌∙◌}
use Rattle.export_names.proofs.Indexing.{at_place, at_no_place}
use Rattle.export_names.proofs.resolver.export_of.Goals as goal

pub returns-in_err-place : goal.returns-in_err-place
returns-in_err-place c =
    ap option_copied c.from_residual.ensures ∙ sym (at_no_place c.args.name.now c.args.names.now.keys c.args.exports.now c.requires (sym c.get_index_of.ensures.index ∙ c.in_err-place.was))

pub returns : goal.returns
returns c =
    let found = at_place c.args.name.now c.args.names.now.keys c.args.exports.now c.requires c.in_ok-place.place c.index-exports-place.result (sym c.get_index_of.ensures.index ∙ c.in_ok-place.was) in
    sym (found.1 ∙ ap Some (sym c.index-exports-place.is))

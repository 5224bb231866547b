use Rattle.std.proofs.Common.{◌≡◌, get_or, Some, slice_get, sym, ap, ◌∙◌}
use Rattle.std.proofs.lemmas.Option.{slice_get-get_or}
use Rattle.prune_graph.proofs.SiteUses.{asks, asks_nothing}
use Rattle.prune_graph.proofs.sites.add_import.Goals as goal

pub returns-in_ok-add_name : goal.returns-in_ok-add_name
returns-in_ok-add_name c =
    let entry = c.index-as_slice-place.result in
    let is : entry ≡ get_or c.args.row.now.facts.imports c.args.place entry = c.index-as_slice-place.is ∙ ap (λ l. get_or l c.args.place entry) c.as_slice.ensures in
    let at : slice_get c.args.row.now.facts.imports c.args.place ≡ Some entry = slice_get-get_or c.args.row.now.facts.imports c.args.place entry c.requires.place ∙ ap Some (sym is) in
    asks c.args.row.now c.args.place entry at c.args.through.now c.add_name.new.self c.in-Some.name c.in-Some.is c.in_ok-add_name.ensures

pub returns-in_default : goal.returns-in_default
returns-in_default c =
    let entry = c.index-as_slice-place.result in
    let is : entry ≡ get_or c.args.row.now.facts.imports c.args.place entry = c.index-as_slice-place.is ∙ ap (λ l. get_or l c.args.place entry) c.as_slice.ensures in
    let at : slice_get c.args.row.now.facts.imports c.args.place ≡ Some entry = slice_get-get_or c.args.row.now.facts.imports c.args.place entry c.requires.place ∙ ap Some (sym is) in
    asks_nothing c.args.row.now c.args.place entry at c.args.through.now c.args.through.now c.in_default.not-Some

use Rattle.std.proofs.Common.{◌≡◌, ◌<◌, [], get_or, length, sym, subst, ◌∙◌}
use Rattle.std.proofs.lemmas.List.{get_or_default}
use Rattle.prune_graph.specs.Gathering.{Gains, IsTheName, IsNoSpace}
use Rattle.export_usage.specs.Reading.{IsInRange, SaysName, SaysSpace}
use Rattle.export_usage.proofs.reading.add_fact.Goals as goal

pub returns-in_ok-add_name-in-Used : goal.returns-in_ok-add_name-in-Used
returns-in_ok-add_name-in-Used c =
    let texts = c.args.texts.now in
    let number = c.in-Used.number in
    let within : number < length texts = (subst (IsInRange texts (length c.args.through.now.names.items)) c.in-Used.is c.requires.names).1 in
    let named : c.index-texts-number.result ≡ get_or texts number [] = c.index-texts-number.is ∙ get_or_default texts number c.index-texts-number.result [] within in
    subst (λ fact. Gains c.args.through.now (SaysName texts fact) (SaysSpace fact) c.add_name.new.self) (sym c.in-Used.is)
    (subst (λ n. Gains c.args.through.now (IsTheName c.in-Used.module n) IsNoSpace c.add_name.new.self) named c.in_ok-add_name-in-Used.ensures)

pub returns-in-Space : goal.returns-in-Space
returns-in-Space c =
    subst (λ fact. Gains c.args.through.now (SaysName c.args.texts.now fact) (SaysSpace fact) c.add_space.new.self) (sym c.in-Space.is) c.add_space.ensures

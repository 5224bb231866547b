use Rattle.std.proofs.Common.{◌<◌, [], length, sym, subst}
use Rattle.std.proofs.lemmas.List.Elements.{All-head}
use Rattle.pk_types.specs.Places.{ArePlacesIn}
use Rattle.pk_types.specs.Sites.{ref_imports}
use Rattle.prune_graph.specs.AtSites.{AsksBy}
use Rattle.prune_graph.specs.Gathering.{Gains, IsNoSpace}
use Rattle.prune_graph.proofs.sites.add_named.Goals as goal

pub add_import-requires-clause-place : goal.add_import-requires-clause-place
add_import-requires-clause-place c = All-head (λ number. number < length c.args.row.now.facts.imports) c.in-Imported.place []
    (subst (λ named. ArePlacesIn c.args.row.now.facts.imports (ref_imports named)) c.in-Imported.is c.requires.imports)

pub returns-in_ok-add_import-in-Imported : goal.returns-in_ok-add_import-in-Imported
returns-in_ok-add_import-in-Imported c =
    subst (λ named. Gains c.args.through.now (AsksBy c.args.row.now named) IsNoSpace c.add_import.new.through) (sym c.in-Imported.is) c.in_ok-add_import-in-Imported.ensures

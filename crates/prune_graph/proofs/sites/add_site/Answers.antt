use Rattle.std.proofs.Common.{◌<◌, sym, ap, subst}
use Rattle.pk_types.specs.Sites.{site_imports, space_requests}
use Rattle.prune_graph.specs.AtSites.{UsesName, UsesSpace}
use Rattle.prune_graph.specs.Gathering.{Gains}
use Rattle.prune_graph.proofs.SiteUses.{import_places, space_place}
use Rattle.prune_graph.proofs.sites.add_site.Goals as goal

pub add_named-requires-clause-imports : goal.add_named-requires-clause-imports
add_named-requires-clause-imports c = import_places c.args.row.now c.requires.places c.args.kind.now c.requires.among _ (ap site_imports c.in-Read.is)

pub add_named-requires-in-Write-clause-imports : goal.add_named-requires-in-Write-clause-imports
add_named-requires-in-Write-clause-imports c = import_places c.args.row.now c.requires.places c.args.kind.now c.requires.among _ (ap site_imports c.in-Write.is)

pub add_name-requires : goal.add_name-requires
add_name-requires c =
    subst (λ n. c.in-Member.request < n) (sym c.requires.requests.names)
    (space_place c.args.row.now c.requires.places c.args.kind.now c.requires.among c.in-Member.request (ap space_requests c.in-Member.is))

pub add_space-requires : goal.add_space-requires
add_space-requires c =
    subst (λ n. c.in-Space.request < n) (sym c.requires.requests.spaces)
    (space_place c.args.row.now c.requires.places c.args.kind.now c.requires.among c.in-Space.request (ap space_requests c.in-Space.is))

pub returns-in_ok-add_named-in-Read : goal.returns-in_ok-add_named-in-Read
returns-in_ok-add_named-in-Read c =
    subst (λ kind. Gains c.args.through.now (UsesName c.args.row.now kind) (UsesSpace kind) c.add_named.new.through) (sym c.in-Read.is) c.in_ok-add_named-in-Read.ensures

pub returns-in_ok-add_named-in-Write : goal.returns-in_ok-add_named-in-Write
returns-in_ok-add_named-in-Write c =
    subst (λ kind. Gains c.args.through.now (UsesName c.args.row.now kind) (UsesSpace kind) c.add_named-in-Write.new.through) (sym c.in-Write.is) c.in_ok-add_named-in-Write.ensures

pub returns-in_ok-add_name-in-Member : goal.returns-in_ok-add_name-in-Member
returns-in_ok-add_name-in-Member c =
    subst (λ kind. Gains c.args.through.now (UsesName c.args.row.now kind) (UsesSpace kind) c.add_name.new.self) (sym c.in-Member.is) c.in_ok-add_name-in-Member.ensures

pub returns-in-Space : goal.returns-in-Space
returns-in-Space c =
    subst (λ kind. Gains c.args.through.now (UsesName c.args.row.now kind) (UsesSpace kind) c.add_space.new.self) (sym c.in-Space.is) c.add_space.ensures

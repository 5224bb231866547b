use Rattle.std.proofs.Common.{◌<◌, [], length, subst}
use Rattle.std.proofs.lemmas.List.Elements.{All-head}
use Rattle.std.proofs.lemmas.Option.{slice_get_within}
use Rattle.pk_types.specs.Places.{ArePlacesIn}
use Rattle.pk_types.specs.Sites.{ref_bindings}
use Rattle.module_spelling.proofs.speller.Speller.ref_text.Goals as goal

pub own_text-requires : goal.own_text-requires
own_text-requires c = (
  c.args.row.now,
  c.requires.from,
  All-head (λ n. n < length c.args.row.now.facts.bindings) c.in-Own.binding []
      (subst (λ named. ArePlacesIn c.args.row.now.facts.bindings (ref_bindings named)) c.in-Own.is c.requires.bindings),
)

pub imported_text-requires-clause-from : goal.imported_text-requires-clause-from
imported_text-requires-clause-from c = slice_get_within c.args.self.now.graph.rows c.args.from c.args.row.now c.requires.from

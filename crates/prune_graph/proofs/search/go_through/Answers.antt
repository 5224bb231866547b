use Rattle.std.proofs.Common.{◌≡◌, ◌<◌, length, get_or, Contains, Some, sym, ap, subst, ◌∙◌, arith}
use Rattle.std.proofs.lemmas.Option.{slice_get-get_or}
use Rattle.pk_types.specs.ActiveEdges.{HasEdges}
use Rattle.prune_graph.specs.Meeting.{Meets, IsCalled}
use Rattle.prune_graph.proofs.MeetingMore.{meets_then}
use Rattle.prune_graph.proofs.search.go_through.Goals as goal

pub returns-clause-gone : goal.returns-clause-gone
returns-clause-gone c =
    let graph = c.args.stops.now in
    let row = c.row-row.result.now in
    let number = c.args.module in
    let all = c.args.used.now.names in
    let names = c.index-as_slice-module.result in
    let is : names ≡ get_or all number names = c.index-as_slice-module.is ∙ ap (λ l. get_or l number names) c.as_slice.ensures in
    let within : number < length all = omega (arith, c.requires.«module», c.requires.names) in
    let list = c.in_ok-edges.edges.items in
    let has : HasEdges graph number row names list = subst (λ l. HasEdges graph number row l list) c.as_slice-names.ensures c.in_ok-edges.ensures.edges in
    let met : Meets c.args.known.now.keys (Contains c.from_vec.result) c.meet.new.known.keys =
    subst (λ l. Meets c.args.known.now.keys (Contains l) c.meet.new.known.keys) (c.as_slice-2.ensures.value ∙ sym c.from_vec.ensures) c.in_ok-meet.ensures in
    record {
      row = row;
      at = c.row-row.ensures.at;
      names = names;
      used_at = slice_get-get_or all number names within ∙ ap Some (sym is);
      has = subst (HasEdges graph number row names) (sym c.from_vec.ensures) has;
      meets = meets_then c.args.known.now.keys c.meet.new.known.keys c.meet_called.new.known.keys (Contains c.from_vec.result) (IsCalled row) met c.in_ok-meet_called.ensures;
    }

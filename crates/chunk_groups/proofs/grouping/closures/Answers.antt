use Rattle.std.proofs.Common.{[], ◌∷◌, ◌++◌, get_or, sym, ap, subst, ◌∙◌}
use Rattle.std.specs.List.{Contains}
use Rattle.pk_types.specs.ChunkGroups.{AreAll}
use Rattle.edge_search.specs.Reached.{IsReached}
use Rattle.chunk_groups.proofs.Gathering.{one_more, all_same}
use Rattle.chunk_groups.proofs.grouping.closures.Goals as goal

pub loop-target-preserved : goal.loop-target-preserved
loop-target-preserved c =
    let loads = c.args.loads.now in
    let targets = c.args.targets.now in
    let place = c.loop-target.target-index in
    let met = c.in_ok-from_slice.ensures.items ∙ c.met.ensures.met in
    let all : AreAll (IsReached loads (get_or targets place 0)) c.ascending-modules.result.items =
    all_same (Contains c.in_ok-from_slice.field-0.items) (IsReached loads (get_or targets place 0)) c.ascending-modules.result.items c.ascending-modules.ensures
    (λ number. (
      λ there. (c.in_ok-reach.ensures number).0 (subst (λ l. Contains l number) met there),
      λ reached. subst (λ l. Contains l number) (sym met) ((c.in_ok-reach.ensures number).1 reached),
    )) in
    let more = one_more (λ k list. AreAll (IsReached loads (get_or targets k 0)) list) c.loop-target.closures.items c.ascending-modules.result.items c.push.new.self.items place
    c.loop-target.invariant.each c.loop-target.invariant.lists all (c.in_ok-push.ensures.items ∙ ap (λ l. c.loop-target.closures.items ++ l ∷ []) c.from_vec.ensures) in
    record { each = more.0; lists = more.1 }

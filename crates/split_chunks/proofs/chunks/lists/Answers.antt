use Rattle.std.proofs.Common.{◌<◌, [], length, get_or, sym, ap, subst, ◌∙◌}
use Rattle.std.specs.List.{All}
use Rattle.std.proofs.lemmas.List.{get_or_default}
use Rattle.split_chunks.proofs.chunks.lists.Goals as goal

pub list-requires-clause-loads : goal.list-requires-clause-loads
list-requires-clause-loads c =
    let loads = c.args.state.now.loads.items in
    let at = c.loop-loads.loads-index in
    let inside : at < length loads = subst (λ l. at < length l) c.deref-loads-items.ensures.value c.loop-loads-test.true in
    subst (All (λ chunk. chunk < length c.args.state.now.modules.items))
    (sym (c.as_slice.ensures ∙ c.loads-item.is ∙ ap (λ l. get_or l at c.loads-item.result) c.deref-loads-items.ensures.value ∙ get_or_default loads at c.loads-item.result [] inside))
    (c.requires.loads at)

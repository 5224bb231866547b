use Rattle.std.proofs.Common.{◌<◌, Some, length, refl, ◌∙◌}
use Rattle.std.proofs.lemmas.List.Elements.{All-pop}
use Rattle.stop_search.proofs.Waiting.{waits_more}
use Rattle.stop_search.proofs.search.ask_later.Goals as goal

pub loop-star-preserved : goal.loop-star-preserved
loop-star-preserved c =
    let targets = c.args.targets.now in
    let left = c.pop.new.self.items in
    let popped = c.in-Some.ensures.items in
    record {
      waiting = waits_more targets c.args.name.now c.loop-star.waiting.items c.push.new.self.items _ c.loop-star.stars.items left c.in-Some.star refl refl popped
          c.in_ok-push.ensures.items ∙ c.loop-star.invariant.waiting;
      places = (All-pop (λ k. k < length targets) c.loop-star.stars.items left (Some c.in-Some.star) popped c.loop-star.invariant.places).0;
    }

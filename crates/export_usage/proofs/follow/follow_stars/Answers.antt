use Rattle.std.proofs.Common.{◌≡◌, ◌<◌, ◌+◌, Some, slice_get, length, get_or, take, subst}
use Rattle.std.proofs.lemmas.List.{take_more}
use Rattle.std.proofs.lemmas.List.Elements.{All-get_or}
use Rattle.std.proofs.lemmas.Option.{slice_get-get_or}
use Rattle.export_usage.specs.Claims.{Claim, IsTheClaim, Learns}
use Rattle.export_usage.specs.Steps.{SaysStar}
use Rattle.export_usage.proofs.Following.{star_by}
use Rattle.export_usage.proofs.Learning.{each_none, each_more}
use Rattle.export_usage.proofs.follow.follow_stars.Goals as goal

pub loop-star-init : goal.loop-star-init
loop-star-init c = each_none (SaysStar c.args.targets.now c.args.name.now) c.args.facts.now

pub loop-star-preserved : goal.loop-star-preserved
loop-star-preserved c =
    let targets = c.args.targets.now in
    let stars = c.args.stars.now in
    let name = c.args.name.now in
    let place = c.loop-star.star-index in
    let star = get_or stars place 0 in
    let target = get_or targets star 0 in
    let within : star < length targets = All-get_or (λ s. s < length targets) stars place 0 c.loop-star-test.true c.requires in
    let t : slice_get targets star ≡ Some target = slice_get-get_or targets star 0 within in
    each_more (SaysStar targets name) c.args.facts.now c.loop-star.facts c.put_used.new.self (take place stars) (take (place + 1) stars) star
    (take_more stars place 0 c.loop-star-test.true) c.loop-star.invariant
    (star_by targets name star target c.loop-star.facts c.put_used.new.self t
    (subst (λ n. Learns c.loop-star.facts (IsTheClaim (Claim.is_used target n)) c.put_used.new.self) c.as_slice.ensures c.in_ok-put_used.ensures))

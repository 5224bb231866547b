use Rattle.std.proofs.Common.{◌⊎◌, sym, subst, ◌∙◌}
use Rattle.std.proofs.lemmas.Option.{same_Some}
use Rattle.export_usage.specs.Claims.{Learns}
use Rattle.export_usage.specs.Rules.{FollowsCalls, FollowsDeclared, FollowsSites, FollowsReached}
use Rattle.export_usage.proofs.Learning.{learns_then}
use Rattle.export_usage.proofs.follow.follow_reached.Goals as goal

pub returns : goal.returns
returns c = λ row at.
    let graph = c.args.resolver.now in
    let here = c.row-row.result.now in
    let same = same_Some here row (sym c.row-row.ensures.at ∙ at) in
    subst (λ w. Learns c.args.facts.now (FollowsReached graph c.args.module w) c.follow_sites.new.facts) same
    (learns_then c.args.facts.now c.follow_calls.new.facts c.follow_sites.new.facts (FollowsCalls graph c.args.module)
    (λ claim. FollowsDeclared graph here claim ⊎ FollowsSites here claim) (c.in_ok-follow_calls.ensures graph c.args.module c.row-row.ensures.at)
    (learns_then c.follow_calls.new.facts c.follow_declared.new.facts c.follow_sites.new.facts (FollowsDeclared graph here) (FollowsSites here)
    c.in_ok-follow_declared.ensures c.in_ok-follow_sites.ensures))

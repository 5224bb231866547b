use Rattle.std.proofs.Common.{◌+◌, Some, sym, ap, subst, ◌∙◌, arith}
use Rattle.std.proofs.lemmas.Option.{same_Some}
use Rattle.chunk_groups.specs.Gathered.{IsGathered, HasGroupAt}
use Rattle.chunk_groups.proofs.Gathering.{passes, pushes}
use Rattle.chunk_groups.proofs.leading.add_groups.Goals as goal
use Rattle.chunk_groups.proofs.leading.add_groups.Goals.{in-Some+in_ok-push, in_default}

pub loop-target-preserved : goal.loop-target-preserved
loop-target-preserved c =
    let Gives = HasGroupAt c.args.numbers.now c.args.targets.now in
    let place = c.loop-target.target-index in
    elim c.match-numbers-target.branch [
      | in-Some+in_ok-push w ↦
          subst (IsGathered c.args.groups.now.items Gives (place + 1)) (sym (ap (λ v. v.items) w.groups-is ∙ w.in_ok-push.ensures.items))
          (pushes c.args.groups.now.items Gives place c.loop-target.groups.items c.loop-target.invariant w.in-Some.group
          (λ number. (λ gives. same_Some w.in-Some.group number (sym w.in-Some.is ∙ gives), λ e. w.in-Some.is ∙ ap Some e)))
      | in_default w ↦
          subst (IsGathered c.args.groups.now.items Gives (place + 1)) (sym (ap (λ v. v.items) w.groups-is))
          (passes c.args.groups.now.items Gives place c.loop-target.groups.items c.loop-target.invariant (λ number gives. w.in_default.not-Some number gives))
    ]

pub returns : goal.returns
returns c = subst (λ count. IsGathered c.args.groups.now.items (HasGroupAt c.args.numbers.now c.args.targets.now) count c.loop-target.groups.items)
    (omega (arith, c.loop-target-test.false, c.loop-target.auto.target-index-end)) c.loop-target.invariant

use Rattle.std.proofs.Common.{◌+◌, ◌^◌, ◌<◌, ◌≤◌, length, sym, subst, ◌∙◌, arith}
use Rattle.std.specs.List.{Contains}
use Rattle.hoist_rename.proofs.Kept.{among, not_among}
use Rattle.hoist_rename.proofs.Tried.{tried_within, tried_more, is_next}
use Rattle.hoist_rename.proofs.taken.next_free.Goals as goal

pub loop-alloc-init : goal.loop-alloc-init
loop-alloc-init c =
    let small : c.args.last < 2 ^ 64 = c.ranges.last.fits in
    (tried_within c.args.names.now.keys c.args.name.now c.args.last small c.requires, c.requires)

pub returns-then-not-contains : goal.returns-then-not-contains
returns-then-not-contains c =
    let keys = c.args.names.now.keys in
    is_next keys c.args.name.now c.loop-alloc.number c.in_ok-candidate.candidate c.in_ok-candidate.ensures
    (subst (λ name. ¬ Contains keys name) c.as_slice.ensures (not_among keys c.as_slice.result.now (sym c.contains.ensures ∙ c.if-not-contains.true))) c.loop-alloc.invariant.1

pub loop-alloc-smaller : goal.loop-alloc-smaller
loop-alloc-smaller c =
    let keys = c.args.names.now.keys in
    let small : c.loop-alloc.number + 1 < 2 ^ 64 = omega (arith, c.loop-alloc.invariant.0, c.len-most.ensures.len, c.len-most.ensures.small) in
    let now = subst (Contains keys) (c.as_slice.ensures ∙ c.in_ok-candidate.ensures) (among keys c.as_slice.result.now (sym c.contains.ensures ∙ c.if-not-contains.false)) in
    let within : c.loop-alloc.number + 1 ≤ length c.args.names.now.keys = (tried_more keys c.args.name.now c.loop-alloc.number small c.loop-alloc.invariant.1 now).0 in
    omega (arith, within)

pub loop-alloc-preserved : goal.loop-alloc-preserved
loop-alloc-preserved c =
    let keys = c.args.names.now.keys in
    let small : c.loop-alloc.number + 1 < 2 ^ 64 = omega (arith, c.loop-alloc.invariant.0, c.len-most.ensures.len, c.len-most.ensures.small) in
    let now = subst (Contains keys) (c.as_slice.ensures ∙ c.in_ok-candidate.ensures) (among keys c.as_slice.result.now (sym c.contains.ensures ∙ c.if-not-contains.false)) in
    tried_more keys c.args.name.now c.loop-alloc.number small c.loop-alloc.invariant.1 now

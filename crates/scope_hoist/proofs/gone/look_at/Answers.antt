use Rattle.std.proofs.Common.{false, refl, sym, subst, ◌∙◌, arith}
use Rattle.std.proofs.lemmas.List.{get_or_default}
use Rattle.scope_hoist.specs.Standing.{IsHeld, AreTogether}
use Rattle.scope_hoist.specs.Going.{stays, goes}
use Rattle.scope_hoist.proofs.Requesters.{requesters_read, requesters_within, requester_asks, asking_requests}
use Rattle.scope_hoist.proofs.gone.look_at.Goals as goal

pub outsider-requires-clause-requesters : goal.outsider-requires-clause-requesters
outsider-requires-clause-requesters c =
    let ground = c.args.ground.now in
    let read = requesters_read ground c.requires.ground c.args.member c.index-2.result.now c.as_slice-requesters.result.now c.requires.member c.index-2.ensures c.as_slice-requesters.ensures in
    requesters_within ground c.requires.ground c.args.member c.as_slice-requesters.result.now c.as_slice.result.now c.requires.member read c.as_slice.ensures.value

pub returns-in_ok-push : goal.returns-in_ok-push
returns-in_ok-push c =
    let ground = c.args.ground.now in
    let read = requesters_read ground c.requires.ground c.args.member c.index-2.result.now c.as_slice-requesters.result.now c.requires.member c.index-2.ensures c.as_slice-requesters.ensures in
    goes c.in-Some.from c.let_go.ensures c.in_ok-push.ensures.items c.if-member-root.false
    (get_or_default c.args.marks.now.held.items c.args.member false c.index.result.now (omega (arith, c.requires.member, c.requires.held)) ∙ sym c.index.ensures ∙ c.if-not-index.false)
    (requester_asks ground c.requires.ground c.args.member c.in-Some.from c.as_slice-requesters.result.now c.requires.member read c.in-Some.ensures.some)
    (subst (λ l. IsHeld c.args.marks.now c.in-Some.from → ¬ AreTogether l c.in-Some.from c.args.member) c.as_slice.ensures.value c.in-Some.ensures.out)

pub returns-in_default : goal.returns-in_default
returns-in_default c =
    let ground = c.args.ground.now in
    let read = requesters_read ground c.requires.ground c.args.member c.index-2.result.now c.as_slice-requesters.result.now c.requires.member c.index-2.ensures c.as_slice-requesters.ensures in
    stays refl refl (λ from asking. subst (λ l. IsHeld c.args.marks.now from × AreTogether l from c.args.member) c.as_slice.ensures.value (c.in_default.ensures.none from
    (asking_requests ground c.requires.ground c.args.member from c.as_slice-requesters.result.now c.requires.member read asking)))

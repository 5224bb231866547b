use Rattle.std.proofs.Common.{◌≡◌, ◌<◌, true, false, true≢false, [], length, get_or, refl, sym, ap, subst, ◌∙◌, arith}
use Rattle.std.specs.List.{list_any}
use Rattle.std.proofs.lemmas.List.{get_or_default}
use Rattle.pk_types.specs.Numbers.{meets}
use Rattle.pk_types.specs.SplitStates.{loads_at}
use Rattle.pk_types.specs.SplitPicks.{loads_after}
use Rattle.split_chunks.specs.States.{state_of}
use Rattle.split_chunks.specs.Choices.{candidate_of}
use Rattle.split_chunks.proofs.Turning.{met_by_flags, keeps_all, keeps_not}
use Rattle.split_chunks.proofs.limits.keeps_limits.Goals as goal

pub returns-then-as_slice-limit_of : goal.returns-then-as_slice-limit_of
returns-then-as_slice-limit_of c =
    let config = c.args.config.now in
    let state = state_of c.args.state.now in
    let candidate = candidate_of c.args.choice.now in
    let turn = c.in_ok-turn.turn in
    let is = c.in_ok-turn.ensures in
    let group = c.loop-group.group in
    let inside : group < length state.loads = subst (λ l. group < length l) c.deref-loads-items.ensures.value c.loop-group-test.true in
    let item : c.loads-item.result ≡ get_or state.loads group [] = c.loads-item.is ∙ ap (λ l. get_or l group c.loads-item.result) c.deref-loads-items.ensures.value ∙ get_or_default state.loads group c.loads-item.result [] inside in
    let meet : meets (loads_at state group) candidate.chunks ≡ true = ap (λ l. meets l candidate.chunks) (sym (c.as_slice.ensures ∙ item))
    ∙ sym (met_by_flags c.as_slice.result.now candidate.chunks turn.chunks.items (length state.modules) is.chunks)
    ∙ ap (λ l. list_any (λ chunk. get_or l chunk false) c.as_slice.result.now) (sym c.as_slice-in-loop-group.ensures.value)
    ∙ sym c.is_met.ensures ∙ c.if-is_met.true in
    let after : c.as_slice-then-is_met-2.result.now ≡ loads_after state candidate turn.split (loads_at state group) =
    c.as_slice-then-is_met-2.ensures ∙ c.in_ok-after.ensures ∙ ap (loads_after state candidate turn.split) (c.as_slice-then-is_met.ensures ∙ item) in
    let long = ap length after in (
      λ e. absurd (true≢false (sym e)),
      λ keeps. absurd (keeps_not config state candidate turn.split group is.split inside meet (omega (arith, c.if-as_slice-limit_of.true, c.limit_of.ensures, long)) keeps),
    )

pub returns : goal.returns
returns c =
    let state = state_of c.args.state.now in
    let candidate = candidate_of c.args.choice.now in
    let long = ap length c.deref-loads-items.ensures.value in (
      λ e. keeps_all c.args.config.now state candidate c.in_ok-turn.turn.split c.in_ok-turn.ensures.split
          (λ group low. c.loop-group.invariant group (omega (arith, low, c.loop-group-test.false, long))),
      λ keeps. refl,
    )

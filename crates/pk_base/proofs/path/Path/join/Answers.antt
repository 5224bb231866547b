use Rattle.std.proofs.Common.{◌≡◌, sym, ◌∙◌, rules, tests, length, arith}
use Rattle.std.proofs.lemmas.Iterator.Splits.{YieldsList-from_slice_split}
use Rattle.std.proofs.lemmas.Iterator.Consumers.{YieldsList-turn, YieldsList-end}
use Rattle.std.proofs.lemmas.List.{length_push}
use Rattle.std.specs.List.{slice_split}
use Rattle.pk_base.specs.Paths.{is_slash, segments}
use Rattle.pk_base.proofs.Joins.{walk_goes, walk_stops, walk_all, joined_none, joined_some}
use Rattle.pk_base.proofs.Segments.{free_part}
use Rattle.pk_base.proofs.path.Path.join.Goals as goal

pub follow-requires-clause-part : goal.follow-requires-clause-part
follow-requires-clause-part c =
    let road = YieldsList-from_slice_split _ is_slash c.args.relative.now (cc) (cc) (cc) (λ x r q k. search (rules, tests)) in
    let turn = YieldsList-turn road c.loop-part.yielded _ c.loop-part.yielded_by _ _ c.in-Some.part c.in-Some.is c.next.ensures.steps in
    free_part c.args.relative.now _ _ turn.0 turn.1

pub returns-then-not-branch : goal.returns-then-not-branch
returns-then-not-branch c =
    let road = YieldsList-from_slice_split _ is_slash c.args.relative.now (cc) (cc) (cc) (λ x r q k. search (rules, tests)) in
    let turn = YieldsList-turn road c.loop-part.yielded _ c.loop-part.yielded_by _ _ c.in-Some.part c.in-Some.is c.next.ensures.steps in
    let stops = walk_stops (segments c.loop-part.written.items) (segments c.follow.new.written.items) (slice_split is_slash c.args.relative.now) (length c.loop-part.yielded) c.in-Some.part.now c.in_ok-follow.field-0 turn c.in_ok-follow.ensures.step c.if-not-branch.true in
    joined_none c.args.self.now c.args.relative.now (sym c.loop-part.invariant.walked ∙ stops)

pub loop-part-preserved : goal.loop-part-preserved
loop-part-preserved c =
    let road = YieldsList-from_slice_split _ is_slash c.args.relative.now (cc) (cc) (cc) (λ x r q k. search (rules, tests)) in
    let turn = YieldsList-turn road c.loop-part.yielded _ c.loop-part.yielded_by _ _ c.in-Some.part c.in-Some.is c.next.ensures.steps in
    let goes = walk_goes (segments c.loop-part.written.items) (segments c.follow.new.written.items) (slice_split is_slash c.args.relative.now) (length c.loop-part.yielded) c.in-Some.part.now c.in_ok-follow.field-0 turn c.in_ok-follow.ensures.step c.if-not-branch.false in
    record {
      relative = c.in_ok-follow.ensures.relative;
      walked = rw (length_push c.loop-part.yielded c.in-Some.part) (goes ∙ c.loop-part.invariant.walked);
    }

pub returns : goal.returns
returns c =
    let road = YieldsList-from_slice_split _ is_slash c.args.relative.now (cc) (cc) (cc) (λ x r q k. search (rules, tests)) in
    let done = YieldsList-end road c.loop-part.yielded _ c.loop-part.yielded_by _ _ c.in-None.is c.next.ensures.steps in
    let ended : length c.loop-part.yielded ≡ length (slice_split is_slash c.args.relative.now) = done.1 in
    let past = walk_all (segments c.loop-part.written.items) (slice_split is_slash c.args.relative.now) (length c.loop-part.yielded) (omega arith) in
    c.from_written.ensures ∙ joined_some c.args.self.now c.args.relative.now c.loop-part.written.items (sym c.loop-part.invariant.walked ∙ past)

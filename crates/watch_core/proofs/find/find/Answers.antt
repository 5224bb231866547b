use Rattle.std.proofs.Common.{rules, ap, ◌∙◌}
use Rattle.std.specs.Map.{keys_of}
use Rattle.watch_core.proofs.Finding.{by_settings, no_settings, seen_before, by_candidates, by_walk}
use Rattle.watch_core.proofs.Visiting.{if_ok}
use Rattle.watch_core.proofs.Seeing.{then_sights, then_looks}
use Rattle.watch_core.proofs.find.find.Goals as goal

pub returns-then-branch-clause-value : goal.returns-then-branch-clause-value
returns-then-branch-clause-value g c = λ t h.
    by_settings t c.in_ok-places.places.settings (keys_of c.args.sights.now) _ c.in_ok-is_there.field-0 c.in_ok-not_built.field-0 c.in_ok-places.ensures.settings (ap keys_of c.requires) (c.in_ok-is_there.ensures.value t h) c.if-branch.true
    c.in_ok-is_there.ensures.keys c.in_ok-not_built.ensures

pub returns-then-not-branch-clause-value : goal.returns-then-not-branch-clause-value
returns-then-not-branch-clause-value g c = λ t h.
    let mid = c.in_ok-is_there.ensures.looks.sees t h in
    let after = c.in_ok-is_there-2.ensures.looks.sees t mid in
    let none = no_settings t c.in_ok-places.places.settings c.in_ok-is_there.field-0 c.in_ok-places.ensures.settings (c.in_ok-is_there.ensures.value t h) c.if-branch.false in
    let keys = seen_before c.in_ok-places.places.settings c.in_ok-places.places.entry (keys_of c.args.sights.now) _ _ c.in_ok-places.ensures.settings c.in_ok-places.ensures.entry (ap keys_of c.requires) c.in_ok-is_there.ensures.keys c.in_ok-is_there-2.ensures.keys in
    by_candidates t c.in_ok-places.places.entry c.as_slice.result.now _ _ c.in_ok-is_there-2.field-0 c.in_ok-look_at_candidates.field-0 none c.in_ok-places.ensures.entry (c.in_ok-is_there-2.ensures.value t mid) (search rules)
    (c.as_slice.ensures.value ∙ c.in_ok-places.ensures.other_candidates) keys (c.in_ok-look_at_candidates.ensures.keys t after) (c.in_ok-look_at_candidates.ensures.value t after)

pub returns-clause-value : goal.returns-clause-value
returns-clause-value g c = if_ok _ _ c.walk.result
    (λ answer value t h.
    let mid = c.in_ok-is_there.ensures.looks.sees t h in
    let after = c.in_ok-is_there-2.ensures.looks.sees t mid in
    let none = no_settings t c.in_ok-places.places.settings c.in_ok-is_there.field-0 c.in_ok-places.ensures.settings (c.in_ok-is_there.ensures.value t h) c.if-branch.false in
    let keys = seen_before c.in_ok-places.places.settings c.in_ok-places.places.entry (keys_of c.args.sights.now) _ _ c.in_ok-places.ensures.settings c.in_ok-places.ensures.entry (ap keys_of c.requires) c.in_ok-is_there.ensures.keys c.in_ok-is_there-2.ensures.keys in
    by_walk t c.in_ok-places.places.entry _ _ c.in_ok-is_there-2.field-0 answer none c.in_ok-places.ensures.entry (c.in_ok-is_there-2.ensures.value t mid) (search rules) keys (value t after))
    c.walk.ensures.value

pub returns-then-not-branch-clause-looks : goal.returns-then-not-branch-clause-looks
returns-then-not-branch-clause-looks g c = then_sights _ _ _ _ _ _ (then_sights _ _ _ _ _ _ c.in_ok-is_there.ensures.looks c.in_ok-is_there-2.ensures.looks) c.in_ok-look_at_candidates.ensures.looks

pub returns-clause-looks : goal.returns-clause-looks
returns-clause-looks g c = then_looks c.walk.result _ _ _ _ _ _ (then_sights _ _ _ _ _ _ c.in_ok-is_there.ensures.looks c.in_ok-is_there-2.ensures.looks) c.walk.ensures.looks

use Rattle.std.proofs.Common.{length, ap, ◌∙◌, sym, subst}
use Rattle.std.proofs.lemmas.Option.{same_Some}
use Rattle.pk_types.specs.declared.graph.Row.{Row}
use Rattle.stop_search.proofs.Leading.{AreLeading, single, several, at_row}
use Rattle.stop_search.proofs.stars.found_through.Goals as goal

pub returns-then-stars-eq1-clause-through : goal.returns-then-stars-eq1-clause-through
returns-then-stars-eq1-clause-through c =
    let graph = c.args.resolver.now in
    let name = c.args.name.now in
    let found = c.args.found.now in
    let bare = c.requires.bare in
    let row = same_Some c.row-row.result.now bare.0 (sym c.row-row.ensures.at ∙ bare.1) in
    let stars = c.in_ok-only.only.items in
    let same = c.in_ok-only.ensures.items ∙ c.as_slice-stars.ensures in
    at_row graph c.args.module name found bare c.requires.found stars
    (single graph c.args.module name found bare c.requires.found stars (ap length c.in_ok-only.ensures.items ∙ c.if-stars-eq1.true) (same ∙ ap (λ (r : Row). r.facts.stars) row))

pub returns-clause-through : goal.returns-clause-through
returns-clause-through c =
    let graph = c.args.resolver.now in
    let name = c.args.name.now in
    let found = c.args.found.now in
    let bare = c.requires.bare in
    let row = same_Some c.row-row.result.now bare.0 (sym c.row-row.ensures.at ∙ bare.1) in
    let stars = c.put_in_order.new.requests.items in
    at_row graph c.args.module name found bare c.requires.found stars
    (several graph c.args.module name found bare c.requires.found c.in_ok-through.through.items stars
    (subst (λ t. AreLeading graph t name found bare.0.facts.stars c.in_ok-through.through.items) (c.as_slice.ensures ∙ ap (λ (r : Row). r.targets) row)
    (subst (λ s. AreLeading graph c.as_slice.result.now name found s c.in_ok-through.through.items) (c.as_slice-stars.ensures ∙ ap (λ (r : Row). r.facts.stars) row)
    c.in_ok-through.ensures.each)) c.put_in_order.ensures.rises c.put_in_order.ensures.each)

use Rattle.std.proofs.Common.{◌≡◌, ◌<◌, [], length, get_or, ap, subst, ◌∙◌, arith}
use Rattle.pk_types.specs.Sites.{called_requests}
use Rattle.pk_types.specs.declared.facts.SiteKind.TheVariants.{Import}
use Rattle.chunk_groups.specs.Gathered.{IsGathered, CallsAt}
use Rattle.chunk_groups.proofs.Calls.{same_import, call_within, with_call, without_call}
use Rattle.chunk_groups.proofs.lines.imported.Goals as goal
use Rattle.chunk_groups.proofs.lines.imported.Goals.{in-Import+in_ok-push, in_default}

pub bounds-as_slice-request : goal.bounds-as_slice-request
bounds-as_slice-request c =
    let row = c.args.row.now in
    let place = c.loop-site.site-index in
    let site = c.site-item.result in
    let h : place < length row.facts.sites = omega (arith, c.loop-site-test.true, ap length c.as_slice-site-items.ensures) in
    let is : site ≡ get_or row.facts.sites place site = c.site-item.is ∙ ap (λ l. get_or l place site) c.as_slice-site-items.ensures in
    let within = call_within row.targets row.facts.sites place site c.in-Import.request c.requires h is (ap called_requests c.in-Import.is) in
    omega (arith, within, ap length c.as_slice.ensures)

pub loop-site-preserved : goal.loop-site-preserved
loop-site-preserved c =
    let row = c.args.row.now in
    let place = c.loop-site.site-index in
    let site = c.site-item.result in
    let h : place < length row.facts.sites = omega (arith, c.loop-site-test.true, ap length c.as_slice-site-items.ensures) in
    let is : site ≡ get_or row.facts.sites place site = c.site-item.is ∙ ap (λ l. get_or l place site) c.as_slice-site-items.ensures in
    elim c.match-site.branch [
      | in-Import+in_ok-push w ↦
          with_call Import same_import row [] c.loop-site.targets.items c.match-site.targets.items place site c.loop-site.invariant h is w.in-Import.request w.as_slice.result.now
          w.in-Import.is w.as_slice.ensures (call_within row.targets row.facts.sites place site w.in-Import.request c.requires h is (ap called_requests w.in-Import.is))
          (ap (λ v. v.items) w.targets-is ∙ w.in_ok-push.ensures.items)
      | in_default w ↦
          without_call Import same_import row [] c.loop-site.targets.items c.match-site.targets.items place site c.loop-site.invariant h is w.in_default.not-Import
          (ap (λ v. v.items) w.targets-is)
    ]

pub returns : goal.returns
returns c = subst (λ count. IsGathered [] (CallsAt Import c.args.row.now) count c.loop-site.targets.items)
    (omega (arith, c.loop-site-test.false, c.loop-site.auto.site-index-end, ap length c.as_slice-site-items.ensures)) c.loop-site.invariant

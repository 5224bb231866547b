use Rattle.std.proofs.Common.{◌≡◌, ◌<◌, length, get_or, ap, subst, ◌∙◌, arith}
use Rattle.pk_types.specs.Sites.{called_requests}
use Rattle.chunk_groups.specs.Gathered.{IsGathered}
use Rattle.chunk_groups.proofs.Calls.{call_within}
use Rattle.scope_hoist.specs.Scopes.{CallsAtSite}
use Rattle.scope_hoist.proofs.Barring.{with_require, with_import, with_neither}
use Rattle.scope_hoist.proofs.flags.with_called.Goals as goal
use Rattle.scope_hoist.proofs.flags.with_called.Goals.{in-Require+in_ok-push-in-Require, in-Import+in_ok-push-in-Import, in_default}

pub bounds-as_slice-request : goal.bounds-as_slice-request
bounds-as_slice-request c =
    let row = c.args.row.now in
    let place = c.loop-site.site-index in
    let site = c.site-item.result in
    let h : place < length row.facts.sites = omega (arith, c.loop-site-test.true, ap length c.as_slice-site-items.ensures) in
    let is : site ≡ get_or row.facts.sites place site = c.site-item.is ∙ ap (λ l. get_or l place site) c.as_slice-site-items.ensures in
    let within = call_within row.targets row.facts.sites place site c.in-Require.request c.requires h is (ap called_requests c.in-Require.is) in
    omega (arith, within, ap length c.as_slice.ensures)

pub bounds-as_slice-request-in-Import : goal.bounds-as_slice-request-in-Import
bounds-as_slice-request-in-Import c =
    let row = c.args.row.now in
    let place = c.loop-site.site-index in
    let site = c.site-item.result in
    let h : place < length row.facts.sites = omega (arith, c.loop-site-test.true, ap length c.as_slice-site-items.ensures) in
    let is : site ≡ get_or row.facts.sites place site = c.site-item.is ∙ ap (λ l. get_or l place site) c.as_slice-site-items.ensures in
    let within = call_within row.targets row.facts.sites place site c.in-Import.request c.requires h is (ap called_requests c.in-Import.is) in
    omega (arith, within, ap length c.as_slice-in-Import.ensures)

pub loop-site-preserved : goal.loop-site-preserved
loop-site-preserved c =
    let row = c.args.row.now in
    let before = c.args.targets.items in
    let old = c.loop-site.targets.items in
    let new = c.match-site.targets.items in
    let place = c.loop-site.site-index in
    let site = c.site-item.result in
    let h : place < length row.facts.sites = omega (arith, c.loop-site-test.true, ap length c.as_slice-site-items.ensures) in
    let is : site ≡ get_or row.facts.sites place site = c.site-item.is ∙ ap (λ l. get_or l place site) c.as_slice-site-items.ensures in
    elim c.match-site.branch [
      | in-Require+in_ok-push-in-Require w ↦
          with_require row before old place site c.loop-site.invariant h is w.in-Require.request w.as_slice.result.now new w.in-Require.is w.as_slice.ensures
          (call_within row.targets row.facts.sites place site w.in-Require.request c.requires h is (ap called_requests w.in-Require.is))
          (ap (λ v. v.items) w.targets-is ∙ w.in_ok-push-in-Require.ensures.items)
      | in-Import+in_ok-push-in-Import w ↦
          with_import row before old place site c.loop-site.invariant h is w.in-Import.request w.as_slice-in-Import.result.now new w.in-Import.is w.as_slice-in-Import.ensures
          (call_within row.targets row.facts.sites place site w.in-Import.request c.requires h is (ap called_requests w.in-Import.is))
          (ap (λ v. v.items) w.targets-is ∙ w.in_ok-push-in-Import.ensures.items)
      | in_default w ↦
          with_neither row before old place site c.loop-site.invariant h is new w.in_default.not-Require w.in_default.not-Import (ap (λ v. v.items) w.targets-is)
    ]

pub returns : goal.returns
returns c = subst (λ count. IsGathered c.args.targets.items (CallsAtSite c.args.row.now) count c.loop-site.targets.items)
    (omega (arith, c.loop-site-test.false, c.loop-site.auto.site-index-end, ap length c.as_slice-site-items.ensures)) c.loop-site.invariant

use Rattle.std.proofs.Common.{◌≡◌, ◌∙◌, ◌+◌, ◌≤◌, length, ap, subst, sym, arith}
use Rattle.es_outline.specs.Outline.{Marks}
use Rattle.es_scope.specs.SiteRules.{IsSite}
use Rattle.es_sites.specs.Tables.{Tables, known}
use Rattle.es_sites.specs.Listing.{AreBefore}
use Rattle.es_sites.proofs.Listing.{none_before, all_before}
use Rattle.es_sites.proofs.SiteLaws.{site_pushed, no_site, site_within}
use Rattle.es_sites.proofs.finding.sites_by.Goals as goal
use Rattle.es_sites.proofs.finding.sites_by.Goals.{in-Some+in_ok-push, in_default}

pub loop-place-init : goal.loop-place-init
loop-place-init c = none_before (IsSite c.args.tables.now.source (known c.args.tables.now)) c.new-sites.result.items c.new-sites.ensures.items

pub loop-place-preserved : goal.loop-place-preserved
loop-place-preserved c =
    elim c.match-branch-2.branch [
      | in-Some+in_ok-push w ↦
          subst (AreBefore (IsSite c.args.tables.now.source (known c.args.tables.now)) (c.loop-place.place + 1)) (sym (ap (λ v. v.items) w.sites-is))
          (site_pushed c.args.tables.now c.requires c.loop-place.place c.loop-place.sites.items _ w.in-Some.site c.loop-place.invariant
          (sym w.in-Some.is ∙ c.in_ok-site.ensures) w.in_ok-push.ensures.items)
      | in_default w ↦
          subst (AreBefore (IsSite c.args.tables.now.source (known c.args.tables.now)) (c.loop-place.place + 1)) (sym (ap (λ v. v.items) w.sites-is))
          (no_site c.args.tables.now c.requires c.loop-place.place c.loop-place.sites.items c.loop-place.invariant (sym w.in_default.is ∙ c.in_ok-site.ensures))
    ]

pub returns : goal.returns
returns c =
    let same : c.marks-mark-items.result.now ≡ c.args.tables.now.source.marks =
    c.marks-mark-items.ensures ∙ ap (λ (tables : Tables). tables.source.marks) c.tables.view_is in
    let most : length c.args.tables.now.source.marks ≤ c.loop-place.place = subst (λ (marks : Marks). length marks ≤ c.loop-place.place) same c.loop-place-test.false in
    all_before (IsSite c.args.tables.now.source (known c.args.tables.now)) c.loop-place.place c.from_vec.result
    (subst (AreBefore (IsSite c.args.tables.now.source (known c.args.tables.now)) c.loop-place.place) (sym c.from_vec.ensures) c.loop-place.invariant)
    (λ place site h. let within = site_within c.args.tables.now c.requires place site h in omega (arith, within, most))

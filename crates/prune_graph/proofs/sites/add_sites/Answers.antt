use Rattle.std.proofs.Common.{◌≡◌, ◌<◌, ◌+◌, ◌∷◌, [], ◌++◌, length, get_or, take, take_all, sym, ap, subst, ◌∙◌, arith}
use Rattle.std.proofs.lemmas.List.{take_more, get_or-map, length-map}
use Rattle.pk_types.specs.declared.facts.Site.{Site}
use Rattle.pk_types.specs.Requests.{site_kinds}
use Rattle.prune_graph.specs.AtSites.{OneUsesName, OneUsesSpace}
use Rattle.prune_graph.specs.Gathering.{Gains}
use Rattle.prune_graph.proofs.SiteUses.{used_by_more, used_at_sites}
use Rattle.prune_graph.proofs.sites.add_sites.Goals as goal

pub loop-site-preserved : goal.loop-site-preserved
loop-site-preserved c =
    let row = c.args.row.now in
    let place = c.loop-site.site-index in
    let site = c.site-item.result in
    let h : place < length row.facts.sites = omega (arith, c.loop-site-test.true, ap length c.as_slice-site-items.ensures) in
    let is : site ≡ get_or row.facts.sites place site = c.site-item.is ∙ ap (λ l. get_or l place site) c.as_slice-site-items.ensures in
    let within : place < length (site_kinds row) = omega (arith, h, length-map row.facts.sites (λ (s : Site). s.kind)) in
    let more : take (place + 1) (site_kinds row) ≡ take place (site_kinds row) ++ site.kind ∷ [] =
    take_more (site_kinds row) place site.kind within
    ∙ ap (λ k. take place (site_kinds row) ++ k ∷ []) (get_or-map (λ (s : Site). s.kind) row.facts.sites place site site.kind h ∙ ap (λ (s : Site). s.kind) (sym is)) in
    used_by_more row c.args.through.now c.loop-site.through c.add_site.new.through (take place (site_kinds row)) (take (place + 1) (site_kinds row)) site.kind more
    c.loop-site.invariant c.in_ok-add_site.ensures

pub returns : goal.returns
returns c =
    let row = c.args.row.now in
    let kinds = site_kinds row in
    let end : take c.loop-site.site-index kinds ≡ kinds = take_all c.loop-site.site-index kinds
    (omega (arith, c.loop-site-test.false, c.loop-site.auto.site-index-end, ap length c.as_slice-site-items.ensures, length-map row.facts.sites (λ (s : Site). s.kind))) in
    used_at_sites row c.args.through.now c.loop-site.through
    (subst (λ l. Gains c.args.through.now (OneUsesName row l) (OneUsesSpace l) c.loop-site.through) end c.loop-site.invariant)

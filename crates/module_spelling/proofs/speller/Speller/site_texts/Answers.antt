use Rattle.std.proofs.Common.{◌≡◌, ◌<◌, ◌+◌, ℕ, List, length, get_or, take, sym, ap, subst, ◌∙◌, arith}
use Rattle.std.specs.List.{AllZip}
use Rattle.pk_types.specs.declared.facts.Site.{Site}
use Rattle.module_spelling.specs.Layout.{Layout}
use Rattle.module_spelling.specs.Spelled.{SpellsSite}
use Rattle.module_spelling.proofs.AtSite.{site_fits, zip_more}
use Rattle.module_spelling.proofs.speller.Speller.site_texts.Goals as goal

pub site_text-requires-clause-site : goal.site_text-requires-clause-site
site_text-requires-clause-site c =
    let row = c.args.row.now in
    let place = c.loop-site.site-index in
    let site = c.site-item.result in
    site_fits row c.requires.row.facts.places place site (omega (arith, c.loop-site-test.true, ap length c.as_slice-site-items.ensures))
    (c.site-item.is ∙ ap (λ l. get_or l place site) c.as_slice-site-items.ensures)

pub loop-site-preserved : goal.loop-site-preserved
loop-site-preserved c =
    let row = c.args.row.now in
    let place = c.loop-site.site-index in
    let site = c.site-item.result in
    let within : place < length row.facts.sites = omega (arith, c.loop-site-test.true, ap length c.as_slice-site-items.ensures) in
    let is : site ≡ get_or row.facts.sites place site = c.site-item.is ∙ ap (λ l. get_or l place site) c.as_slice-site-items.ensures in
    let Spells = λ (s : Site) (text : List ℕ). SpellsSite c.args.self.now c.args.from row s.kind text in
    let text = c.in_ok-site_text.field-0 in
    let one : Spells site text = subst (λ (l : Layout). SpellsSite l c.args.from row site.kind text) c.loop-site.invariant.same c.in_ok-site_text.ensures.text in
    record {
      same = cc;
      texts = subst (λ (texts : List (List ℕ)). AllZip Spells (take (place + 1) row.facts.sites) texts) (sym c.in_ok-push.ensures.items)
          (zip_more Spells row.facts.sites c.loop-site.texts.items place site text within is c.loop-site.invariant.texts one);
    }

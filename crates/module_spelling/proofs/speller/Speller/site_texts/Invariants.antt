-- the texts spell the sites that were gone through
use Rattle.std.proofs.Common.{◌≡◌, take}
use Rattle.std.specs.List.{AllZip}
use Rattle.module_spelling.specs.Spelled.{SpellsSite}
use Rattle.module_spelling.proofs.speller.Speller.site_texts.Given as goal

abbrev pub invariant-loop-site : goal.invariant-loop-site
invariant-loop-site l = record {
  same : l.self ≡ l.fn.self;
  texts : AllZip (λ site text. SpellsSite l.fn.self l.from l.row site.kind text) (take l.site-index l.row.facts.sites) l.texts.items;
}

use Rattle.std.proofs.Common.{ℕ, List, sym, subst, ap, ◌∙◌}
use Rattle.std.proofs.lemmas.Option.{same_Some}
use Rattle.std.specs.List.{AllZip}
use Rattle.pk_types.specs.declared.graph.Row.{Row}
use Rattle.module_spelling.specs.Layout.{Layout, names_of}
use Rattle.module_spelling.specs.Spelled.{SpellsSite}
use Rattle.module_spelling.proofs.speller.Speller.spelling.Goals as goal

pub returns-clause-spelled : goal.returns-clause-spelled
returns-clause-spelled c =
    let layout = c.args.self.now in
    record {
      sites = λ row at.
          subst (λ (texts : List (List ℕ)). AllZip (λ site text. SpellsSite layout c.args.number row site.kind text) row.facts.sites texts) (sym c.from_vec.ensures)
          (subst (λ (r : Row). AllZip (λ site text. SpellsSite layout c.args.number r site.kind text) r.facts.sites c.in_ok-sites.sites.items)
          (same_Some c.row-row.result.now row (sym c.row-row.ensures.at ∙ at)) c.in_ok-sites.ensures.texts);
      names = c.from_vec-2.ensures ∙ c.in_ok-names.ensures ∙ c.names.ensures.names ∙ ap (λ (l : Layout). names_of l c.args.number) c.in_ok-sites.ensures.same;
    }

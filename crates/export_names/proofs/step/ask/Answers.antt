use Rattle.std.proofs.Common.{ℕ, not, slice_get, option_copied, refl, sym, ap, subst, ◌∙◌}
use Rattle.pk_text.specs.declared.text.Key.{Key}
use Rattle.pk_types.specs.declared.graph.Graph.{Graph}
use Rattle.export_names.specs.Searching.{Opens, pairs}
use Rattle.export_names.proofs.Asking.{any_pair, pairs_inserted, asks_foreign, asks_again, asks_first_there}
use Rattle.export_names.proofs.step.ask.Goals as goal

pub returns-then-not-is_es-clause-asks : goal.returns-then-not-is_es-clause-asks
returns-then-not-is_es-clause-asks c =
    let other = c.is_es.ensures.other c.if-not-is_es.true in
    asks_foreign c.args.resolver.now (pairs c.args.visited.now.keys) c.args.module c.args.name.now _ c.in_ok-name.ensures other.0 other.1 other.2

pub exported-requires-clause-named : goal.exported-requires-clause-named
exported-requires-clause-named c = (
  c.args.name.now,
  λ row at.
      sym (c.in_ok-origin.ensures.origin row (sym (ap (λ (graph : Graph). slice_get graph.rows c.args.module) c.in_ok-origin.ensures.same) ∙ at)) ∙ ap option_copied c.in-Some.is,
)

pub returns-in-Some-clause-asks : goal.returns-in-Some-clause-asks
returns-in-Some-clause-asks c =
    let visited = c.args.visited.now.keys in
    let pair : ℕ × Key = (c.args.module, record { 0 = c.args.name }) in
    let opens = c.exported.ensures c.args.name.now (λ row at.
    sym (c.in_ok-origin.ensures.origin row (sym (ap (λ (graph : Graph). slice_get graph.rows c.args.module) c.in_ok-origin.ensures.same) ∙ at)) ∙ ap option_copied c.in-Some.is) in
    asks_first_there c.args.resolver.now (pairs visited) c.args.module c.args.name.now c.args.name.now refl (pairs c.insert.new.self.keys) c.exported.result
    c.requires (c.is_es.ensures.es c.if-not-is_es.false) (ap not (sym (any_pair pair visited)) ∙ sym c.in_ok-is_first.ensures.added ∙ c.if-is_first.true)
    (ap pairs c.in_ok-is_first.ensures.keys ∙ pairs_inserted visited pair)
    (subst (λ (graph : Graph). Opens graph c.args.module c.args.name.now c.exported.result) c.in_ok-origin.ensures.same opens)

pub returns-in-None-clause-asks : goal.returns-in-None-clause-asks
returns-in-None-clause-asks c =
    let visited = c.args.visited.now.keys in
    let pair : ℕ × Key = (c.args.module, record { 0 = c.args.name }) in
    asks_first_there c.args.resolver.now (pairs visited) c.args.module c.args.name.now c.args.name.now refl (pairs c.insert.new.self.keys) c.unexported.result
    c.requires (c.is_es.ensures.es c.if-not-is_es.false) (ap not (sym (any_pair pair visited)) ∙ sym c.in_ok-is_first.ensures.added ∙ c.if-is_first.true)
    (ap pairs c.in_ok-is_first.ensures.keys ∙ pairs_inserted visited pair)
    (subst (λ (graph : Graph). Opens graph c.args.module c.args.name.now c.unexported.result) c.in_ok-origin.ensures.same c.unexported.ensures)

pub returns-else-is_first-clause-asks : goal.returns-else-is_first-clause-asks
returns-else-is_first-clause-asks c =
    let visited = c.args.visited.now.keys in
    let pair : ℕ × Key = (c.args.module, record { 0 = c.args.name }) in
    asks_again c.args.resolver.now (pairs visited) c.args.module c.args.name.now c.args.name.now refl (pairs c.insert.new.self.keys)
    (c.is_es.ensures.es c.if-not-is_es.false) (ap not (sym (any_pair pair visited)) ∙ sym c.in_ok-is_first.ensures.added ∙ c.if-is_first.false)
    (ap pairs c.in_ok-is_first.ensures.keys ∙ pairs_inserted visited pair)

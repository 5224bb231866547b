use Rattle.std.proofs.Common.{◌≡◌, length, drop, sym, ap, ◌∙◌, arith}
use Rattle.es_tree.specs.Units as spec
use Rattle.es_tree.proofs.RunLaws.{one_unit_more, no_unit_more}
use Rattle.es_lexer.proofs.lexemes.regex_length.Goals as goal

pub returns-then-size-eq0-clause-value : goal.returns-then-size-eq0-clause-value
returns-then-size-eq0-clause-value c =
    let size : spec.regex_unit (drop c.units.at c.args.text.now) ≡ c.regex_unit-size.result = ap (λ t. spec.regex_unit t) (sym c.behind.ensures.value) ∙ sym c.regex_unit-size.ensures.value in
    no_unit_more (spec.regex_unit) c.args.text.now c.units.at _ (omega arith) c.units.invariant.so_far

pub units-preserved : goal.units-preserved
units-preserved c =
    let size : spec.regex_unit (drop c.units.at c.args.text.now) ≡ c.regex_unit-size.result = ap (λ t. spec.regex_unit t) (sym c.behind.ensures.value) ∙ sym c.regex_unit-size.ensures.value in
    let rest : length c.behind.result.now ≡ length (drop c.units.at c.args.text.now) = ap length c.behind.ensures.value in
    record {
      inside = omega arith;
      so_far = one_unit_more (spec.regex_unit) c.args.text.now c.units.at c.regex_unit-size.result _ size (omega arith) (omega arith) c.units.invariant.so_far;
    }

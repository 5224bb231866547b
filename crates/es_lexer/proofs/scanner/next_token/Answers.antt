use Rattle.std.proofs.Common.{Err, sym, ap, subst, ◌∙◌}
use Rattle.es_tree.specs.Places.{IsFaultBehind}
use Rattle.es_tree.proofs.TokenLaws.{token_at_from, none_of_some, fault_lies}
use Rattle.es_lexer.proofs.scanner.next_token.Goals as goal

pub returns-in-Ok-clause-exact : goal.returns-in-Ok-clause-exact
returns-in-Ok-clause-exact c =
    token_at_from c.args.bytes.now c.args.at c.args.goal _ _ _ _ c.gap_end-start.ensures.value c.has_line_terminator-newline.ensures c.split_at.ensures.back (sym c.in-Ok.is ∙ c.lexeme.ensures.value)

pub returns-in-Err-clause-exact : goal.returns-in-Err-clause-exact
returns-in-Err-clause-exact c =
    ap Err c.fault_of.ensures
    ∙ token_at_from c.args.bytes.now c.args.at c.args.goal _ c.has_line_terminator-newline.result _ _ c.gap_end-start.ensures.value c.has_line_terminator-newline.ensures c.split_at.ensures.back (sym c.in-Err.is ∙ c.lexeme.ensures.value)

pub returns-in-Err-clause-fault : goal.returns-in-Err-clause-fault
returns-in-Err-clause-fault c =
    subst (λ f. IsFaultBehind c.args.bytes.now c.args.at f) (sym c.fault_of.ensures)
    (fault_lies c.args.bytes.now c.args.at _ _ c.in-Err.reach c.gap_end-start.ensures.value c.gap_end-start.ensures.begins c.split_at.ensures.back (none_of_some c.args.goal _ _ (sym c.lexeme.ensures.value ∙ c.in-Err.is)))

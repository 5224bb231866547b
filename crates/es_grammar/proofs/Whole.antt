-- The tokens of a text's tree are those of the text.
use Rattle.std.specs.Prelude.{ℕ, zero, suc}
use Rattle.es_tree.specs.declared.tokens.ProgramGoal.{ProgramGoal}
use Rattle.es_tree.specs.declared.tokens.ProgramGoal.TheVariants.{Script, Module}
use Rattle.es_tree.specs.Yield.{program_item_tokens}
use Rattle.es_grammar.specs.declared.TheConstants.{MAX_NEST}
use Rattle.es_grammar.specs.Reading.{Bytes}
use Rattle.es_grammar.specs.Rules.{Rules}
use Rattle.es_grammar.specs.Parses.{no_rules, one_more, rules_to, ProgramItemAt}
use Rattle.es_grammar.specs.Tokens.{YieldLaw}
use Rattle.es_grammar.proofs.Standing.{Stands, chain_stands}
use Rattle.es_grammar.proofs.Tells.{Tells}
use Rattle.es_grammar.proofs.FunctionsTokens.{bind_pattern_stands}
use Rattle.es_grammar.proofs.ExpressionsTokens.{lhs_stands, new_stands}
use Rattle.es_grammar.proofs.TargetsTokens.{target_pattern_stands}
use Rattle.es_grammar.proofs.OperatorsTokens.{assign_stands, prefixed_stands}
use Rattle.es_grammar.proofs.StatementsTokens.{item_stands, stmt_stands}
use Rattle.es_grammar.proofs.ModulesTokens.{module_item_stands, script_item_stands}

none_tell : (text : Bytes) → Tells text no_rules
none_tell text = record {
  item = λ c p x q h. absurd h;
  stmt = λ c p x q h. absurd h;
  assign = λ c p x s h. absurd h;
  prefixed = λ c p x s h. absurd h;
  bind_pattern = λ c p x q h. absurd h;
  target_pattern = λ c p x q h. absurd h;
  new = λ c p x q h. absurd h;
  extended = λ c p x q h. absurd h;
}

one_more_tells : (text : Bytes) (r : Rules) → Tells text r → Tells text (one_more text r)
one_more_tells text r t = record {
  item = λ c p x q h. item_stands t h;
  stmt = λ c p x q h. stmt_stands t h;
  assign = λ c p x s h. assign_stands t h;
  prefixed = λ c p x s h. prefixed_stands t h;
  bind_pattern = λ c p x q h. bind_pattern_stands t h;
  target_pattern = λ c p x q h. target_pattern_stands t h;
  new = λ c p x q h. new_stands t h;
  extended = λ c p x q h. lhs_stands t h;
}

pub rules_tell : (text : Bytes) (nest : ℕ) → Tells text (rules_to text nest)
unfolding rules_to
rules_tell text zero = none_tell text
rules_tell text (suc nest) = one_more_tells text (rules_to text nest) (rules_tell text nest)

program_item_stands : (text : Bytes) (r : Rules) (goal : ProgramGoal) → Tells text r → Stands text program_item_tokens (ProgramItemAt text r goal)
program_item_stands text r Script t = λ p x q h. script_item_stands t h
program_item_stands text r Module t = λ p x q h. module_item_stands t h

pub yield_stands : YieldLaw
yield_stands text program parse =
    chain_stands program_item_tokens parse.items (program_item_stands text (rules_to text MAX_NEST) program.goal (rules_tell text MAX_NEST))

-- A text and its tree: an expression that is exported as `default` may begin with `{`.
use Rattle.std.specs.Prelude.{[], ◌∷◌, Some, None, codes}
use Rattle.es_tree.specs.declared.tokens.ProgramGoal.TheVariants.{Module}
use Rattle.es_tree.specs.declared.cycle.Assign.TheVariants as assign_v
use Rattle.es_tree.specs.declared.cycle.Base.TheVariants as base_v
use Rattle.es_tree.specs.declared.cycle.Operand.TheVariants as operand_v
use Rattle.es_tree.specs.declared.cycle.Primary.TheVariants as primary_v
use Rattle.es_tree.specs.declared.program.Export.TheVariants as export_v
use Rattle.es_tree.specs.declared.program.ProgramItem.TheVariants as program_item_v
use Rattle.es_tree.specs.declared.cycle.Cond.{roll-Cond}
use Rattle.es_tree.specs.declared.cycle.LHS.{roll-LHS}
use Rattle.es_tree.specs.declared.program.Program.{Program}
use Rattle.es_grammar.specs.Reading.{Bytes}
use Rattle.es_grammar.specs.Parses.{Parses}
use Rattle.grammar_laws.specs.Tokens.{word, mark}

-- an expression that is exported as `default` may begin with `{`
abbrev pub default_value_text : Bytes
default_value_text = codes "export default {};"

abbrev pub default_value_tree : Program
default_value_tree = record {
  goal = Module;
  items =
      (program_item_v.Export (export_v.Default (word 0 6) (word 7 14) (assign_v.Cond (roll-Cond (record {
        test = (record {
          first =
              (operand_v.LHS (roll-LHS (record { base = (base_v.Primary (primary_v.Object (mark 15 16) [] (mark 16 17))); suffixes = [] })));
          more =
              [];
        });
        arms = None;
      }))) (Some (mark 17 18)))) ∷ [];
}

abbrev pub DefaultValue : Type 0
DefaultValue = Parses default_value_text default_value_tree

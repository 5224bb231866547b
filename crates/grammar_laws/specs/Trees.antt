-- Texts and their trees, a text for each point of the grammar that is easily got wrong.
use Rattle.std.specs.Prelude.{[], ◌∷◌, Some, None, codes}
use Rattle.es_tree.specs.declared.tokens.ProgramGoal.TheVariants.{Script, Module}
use Rattle.es_tree.specs.declared.parts.KeyOf.TheVariants as key
use Rattle.es_tree.specs.declared.parts.SuffixOf.TheVariants as suffix_v
use Rattle.es_tree.specs.declared.cycle.Assign.TheVariants as assign_v
use Rattle.es_tree.specs.declared.cycle.Base.TheVariants as base_v
use Rattle.es_tree.specs.declared.cycle.Bind.TheVariants as bind_v
use Rattle.es_tree.specs.declared.cycle.Item.TheVariants as item_v
use Rattle.es_tree.specs.declared.cycle.Member.TheVariants as member_v
use Rattle.es_tree.specs.declared.cycle.Operand.TheVariants as operand_v
use Rattle.es_tree.specs.declared.cycle.Primary.TheVariants as primary_v
use Rattle.es_tree.specs.declared.cycle.Stmt.TheVariants as stmt_v
use Rattle.es_tree.specs.declared.cycle.Target.TheVariants as target_v
use Rattle.es_tree.specs.declared.program.Export.TheVariants as export_v
use Rattle.es_tree.specs.declared.program.ProgramItem.TheVariants as program_item_v
use Rattle.es_tree.specs.declared.cycle.Cond.{roll-Cond}
use Rattle.es_tree.specs.declared.cycle.Decl.{roll-Decl}
use Rattle.es_tree.specs.declared.cycle.Func.{roll-Func}
use Rattle.es_tree.specs.declared.cycle.LHS.{roll-LHS}
use Rattle.es_tree.specs.declared.cycle.Params.{roll-Params}
use Rattle.es_tree.specs.declared.program.Program.{Program}
use Rattle.es_grammar.specs.Reading.{Bytes}
use Rattle.es_grammar.specs.Lists.{separated}
use Rattle.es_grammar.specs.Parses.{Parses}
use Rattle.grammar_laws.specs.Tokens.{word, mark, number, below}

-- one statement: `(` on a new line goes on with the expression, which is a call
abbrev pub call_over_line_text : Bytes
call_over_line_text = codes "a\n(b)"

abbrev pub call_over_line_tree : Program
call_over_line_tree = record {
  goal = Script;
  items =
      (program_item_v.Item (item_v.Stmt (stmt_v.Expr (record {
        list = separated (assign_v.Cond (roll-Cond (record {
          test = (record {
            first =
                (operand_v.LHS (roll-LHS (record {
                  base = (base_v.Primary (primary_v.Name (word 0 1)));
                  suffixes = ((suffix_v.Args (record {
                    left =
                        (below (mark 2 3));
                    list = (separated (record {
                      spread = None;
                      value = (assign_v.Cond (roll-Cond (record {
                        test = (record {
                          first =
                              (operand_v.LHS (roll-LHS (record { base = (base_v.Primary (primary_v.Name (word 3 4))); suffixes = [] })));
                          more = [];
                        });
                        arms = None;
                      })));
                    }) None ∷ []);
                    right = (mark 4 5);
                  })) ∷ []);
                })));
            more = [];
          });
          arms = None;
        }))) None ∷ [];
      }) None))) ∷ [];
}

abbrev pub CallOverLine : Type 0
CallOverLine = Parses call_over_line_text call_over_line_tree

-- two statements in the body: what `return` gives stands on its line
abbrev pub return_over_line_text : Bytes
return_over_line_text = codes "function f() { return\n1; }"

abbrev pub return_over_line_tree : Program
return_over_line_tree = record {
  goal = Script;
  items =
      (program_item_v.Item (item_v.Func (roll-Func (record {
        is_async = None;
        word = (word 0 8);
        star = None;
        name = (Some (word 9 10));
        left
            = (mark 10 11);
        params = roll-Params (record { list = []; rest = None });
        right = (mark 11 12);
        body = (record {
          left = (mark 13 14);
          items = ((item_v.Stmt (stmt_v.Return (word 15 21) None None)) ∷ ((item_v.Stmt (stmt_v.Expr (record {
            list = separated (assign_v.Cond
                (roll-Cond (record {
                  test = (record {
                    first = (operand_v.LHS (roll-LHS (record {
                      base = (base_v.Primary (primary_v.Literal (below
                          (number 22 23))));
                      suffixes = [];
                    })));
                    more = [];
                  });
                  arms = None;
                }))) None ∷ [];
          }) (Some (mark 23 24)))) ∷ []));
          right = (mark 25 26);
        });
      })))) ∷ [];
}

abbrev pub ReturnOverLine : Type 0
ReturnOverLine = Parses return_over_line_text return_over_line_tree

-- `await` is an operator at the top of a module
abbrev pub await_call_text : Bytes
await_call_text = codes "await f();"

abbrev pub await_call_tree : Program
await_call_tree = record {
  goal = Module;
  items =
      (program_item_v.Item (item_v.Stmt (stmt_v.Expr (record {
        list = separated (assign_v.Cond (roll-Cond (record {
          test = (record {
            first =
                (operand_v.Await (word 0 5) (operand_v.LHS (roll-LHS (record {
                  base = (base_v.Primary (primary_v.Name (word 6 7)));
                  suffixes =
                      ((suffix_v.Args (record { left = (mark 7 8); list = []; right = (mark 8 9) })) ∷ []);
                }))));
            more = [];
          });
          arms = None;
        }))) None ∷ [];
      }) (Some (mark 9 10))))) ∷ [];
}

abbrev pub AwaitCall : Type 0
AwaitCall = Parses await_call_text await_call_tree

-- two items: a function that is exported as `default`, with no name and no semicolon, and a call
abbrev pub default_function_text : Bytes
default_function_text = codes "export default function () {} f();"

abbrev pub default_function_tree : Program
default_function_tree = record {
  goal = Module;
  items =
      (program_item_v.Export (export_v.DefaultFunc (word 0 6) (word 7 14) (roll-Func (record {
        is_async = None;
        word = (word 15 23);
        star =
            None;
        name = None;
        left = (mark 24 25);
        params = roll-Params (record { list = []; rest = None });
        right = (mark 25 26);
        body = (record
            { left = (mark 27 28); items = []; right = (mark 28 29) });
      })))) ∷ ((program_item_v.Item (item_v.Stmt (stmt_v.Expr (record {
        list =
            separated (assign_v.Cond (roll-Cond (record {
              test = (record {
                first = (operand_v.LHS (roll-LHS (record {
                  base = (base_v.Primary
                      (primary_v.Name (word 30 31)));
                  suffixes = ((suffix_v.Args (record { left = (mark 31 32); list = []; right = (mark 32 33) })) ∷ []);
                })));
                more = [];
              });
              arms = None;
            }))) None ∷ [];
      }) (Some (mark 33 34))))) ∷ []);
}

abbrev pub DefaultFunction : Type 0
DefaultFunction = Parses default_function_text default_function_tree

-- a variable without initialiser
abbrev pub declared_variable_text : Bytes
declared_variable_text = codes "var x;"

abbrev pub declared_variable_tree : Program
declared_variable_tree = record {
  goal = Script;
  items =
      (program_item_v.Item (item_v.Stmt (stmt_v.Var (record {
        word = (word 0 3);
        decls = separated (roll-Decl (record {
          bind = (bind_v.Name
              (word 4 5));
          initial = None;
        })) None ∷ [];
        semi = (Some (mark 5 6));
      })))) ∷ [];
}

abbrev pub DeclaredVariable : Type 0
DeclaredVariable = Parses declared_variable_text declared_variable_tree

-- an object with a member
abbrev pub object_in_parentheses_text : Bytes
object_in_parentheses_text = codes "({ a: 1 });"

abbrev pub object_in_parentheses_tree : Program
object_in_parentheses_tree = record {
  goal = Script;
  items =
      (program_item_v.Item (item_v.Stmt (stmt_v.Expr (record {
        list = separated (assign_v.Cond (roll-Cond (record {
          test = (record {
            first =
                (operand_v.LHS (roll-LHS (record {
                  base = (base_v.Primary (primary_v.Paren (mark 0 1) (record {
                    list = separated (assign_v.Cond
                        (roll-Cond (record {
                          test = (record {
                            first = (operand_v.LHS (roll-LHS (record {
                              base = (base_v.Primary (primary_v.Object (mark 1 2)
                                  (separated (member_v.Pair (key.IdName (word 3 4)) (mark 4 5) (assign_v.Cond (roll-Cond (record {
                                    test = (record {
                                      first =
                                          (operand_v.LHS (roll-LHS (record { base = (base_v.Primary (primary_v.Literal (number 6 7))); suffixes = [] })));
                                      more = [];
                                    });
                                    arms =
                                        None;
                                  })))) None ∷ []) (mark 8 9)));
                              suffixes = [];
                            })));
                            more = [];
                          });
                          arms = None;
                        }))) None ∷ [];
                  }) (mark 9 10)));
                  suffixes = [];
                })));
            more = [];
          });
          arms = None;
        }))) None ∷ [];
      }) (Some (mark 10 11))))) ∷ [];
}

abbrev pub ObjectInParentheses : Type 0
ObjectInParentheses = Parses object_in_parentheses_text object_in_parentheses_tree

-- a member is assigned to
abbrev pub member_assigned_text : Bytes
member_assigned_text = codes "a.b = 1"

abbrev pub member_assigned_tree : Program
member_assigned_tree = record {
  goal = Script;
  items =
      (program_item_v.Item (item_v.Stmt (stmt_v.Expr (record {
        list = separated (assign_v.Set (target_v.Member (roll-LHS (record {
          base =
              (base_v.Primary (primary_v.Name (word 0 1)));
          suffixes = ((suffix_v.Dot (mark 1 2) (word 2 3)) ∷ []);
        }))) (mark 4 5) (assign_v.Cond
            (roll-Cond (record {
              test = (record {
                first = (operand_v.LHS (roll-LHS (record {
                  base = (base_v.Primary (primary_v.Literal (number 6
                      7)));
                  suffixes = [];
                })));
                more = [];
              });
              arms = None;
            })))) None ∷ [];
      }) None))) ∷ [];
}

abbrev pub MemberAssigned : Type 0
MemberAssigned = Parses member_assigned_text member_assigned_tree

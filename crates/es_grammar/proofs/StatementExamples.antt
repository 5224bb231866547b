-- Texts of statements and declarations, and their trees.
use Rattle.std.proofs.Common.{[], ◌∷◌, Some, None, refl}
use Rattle.std.specs.Prelude.{codes}
use Rattle.es_tree.specs.declared.tokens.Goal.TheVariants.{Operand, Operator}
use Rattle.es_tree.specs.declared.tokens.ProgramGoal.TheVariants.{Script, Module}
use Rattle.es_tree.specs.declared.parts.KeyOf.TheVariants as key
use Rattle.es_tree.specs.declared.parts.SuffixOf.TheVariants as suffix_v
use Rattle.es_tree.specs.declared.cycle.Assign.TheVariants as assign_v
use Rattle.es_tree.specs.declared.cycle.Base.TheVariants as base_v
use Rattle.es_tree.specs.declared.cycle.Bind.TheVariants as bind_v
use Rattle.es_tree.specs.declared.cycle.Class.{roll-Class}
use Rattle.es_tree.specs.declared.cycle.Cond.{roll-Cond}
use Rattle.es_tree.specs.declared.cycle.Decl.{roll-Decl}
use Rattle.es_tree.specs.declared.cycle.Element.TheVariants as element_v
use Rattle.es_tree.specs.declared.cycle.For.TheVariants as for_v
use Rattle.es_tree.specs.declared.cycle.Head.TheVariants as head_v
use Rattle.es_tree.specs.declared.cycle.Item.TheVariants as item_v
use Rattle.es_tree.specs.declared.cycle.LHS.{roll-LHS}
use Rattle.es_tree.specs.declared.cycle.Method.TheVariants as method_v
use Rattle.es_tree.specs.declared.cycle.Operand.TheVariants as operand_v
use Rattle.es_tree.specs.declared.cycle.Params.{roll-Params}
use Rattle.es_tree.specs.declared.cycle.Primary.TheVariants as primary_v
use Rattle.es_tree.specs.declared.cycle.Stmt.TheVariants as stmt_v
use Rattle.es_tree.specs.declared.cycle.Target.TheVariants as target_v
use Rattle.es_tree.specs.declared.program.Clause.TheVariants as clause_v
use Rattle.es_tree.specs.declared.program.Export.TheVariants as export_v
use Rattle.es_tree.specs.declared.program.Import.TheVariants as import_v
use Rattle.es_tree.specs.declared.program.ImportName.TheVariants as import_name_v
use Rattle.es_tree.specs.declared.program.Program.{Program}
use Rattle.es_tree.specs.declared.program.ProgramItem.TheVariants as program_item_v
use Rattle.es_grammar.specs.Reading.{Bytes, IsAt}
use Rattle.es_grammar.specs.Lists.{Chain, SomeAt, ListAt, EndedListAt, separated}
use Rattle.es_grammar.specs.Semicolons.{SemiAt, FreeSemiAt}
use Rattle.es_grammar.specs.Functions.{InitializerAt, BindAt, DeclAt, KeyAt, ElementKeyAt, ParamsAt, ClosedItemAt, BodyAt, AsyncAt, StarAt, OptionalNameAt, MethodAt, StaticAt, ElementAt, HeritageAt, ClassAt}
use Rattle.es_grammar.specs.Expressions.{ExprAt, ClosedExprAt, ArgumentAt, ArgsAt, SuffixAt, PrimaryAt, BaseAt, LHSAt}
use Rattle.es_grammar.specs.Targets.{SimpleTargetAt}
use Rattle.es_grammar.specs.Operators.{OperandAt, OperatorAt, ListedAt, JoinedAt, BinaryAt, CondAt, AssignAt}
use Rattle.es_grammar.specs.Statements.{DeclaredAt, LexicalAt, LexAt, HeadAt, ForAwaitAt, ForAt, ElseAt, StmtAt, ItemAt}
use Rattle.es_grammar.specs.Modules.{ImportNameAt, NamedAt, ClauseAt, AttributeAt, WithAt, OptionalWithAt, ImportAt, RenamedAt, LocalNameAt, NamesAt, ExportAt, ScriptItemAt, ModuleItemAt}
use Rattle.es_grammar.specs.Parses.{Parses}
use Rattle.es_grammar.proofs.Computing.{lexing, spelling}
use Rattle.es_grammar.proofs.Witnesses.{word, mark, number, string, end_at, below, kinded, marked, worded, named, one_marked, one_worded, item_up, stmt_up, assign_up, no_mark, no_word, no_declaration, closed_item, fits_lhs, fits_postfix}

-- the semicolon behind `do .. while (..)` may be left out on the same line
abbrev loop_text : Bytes
loop_text = codes "do ; while (0) f();"

abbrev loop_tree : Program
loop_tree = record {
  goal = Script;
  items =
      (program_item_v.Item (item_v.Stmt (stmt_v.Do (word 0 2) (stmt_v.Empty (mark 3 4)) (word 5 10) (mark 11 12) (record {
        list = separated
            (assign_v.Cond (roll-Cond (record {
              test = (record {
                first = (operand_v.LHS (roll-LHS (record {
                  base = (base_v.Primary
                      (primary_v.Literal (number 12 13)));
                  suffixes = [];
                })));
                more = [];
              });
              arms = None;
            }))) None ∷ [];
      }) (mark 13 14) None))) ∷
      ((program_item_v.Item (item_v.Stmt (stmt_v.Expr (record {
        list = separated (assign_v.Cond (roll-Cond (record {
          test = (record {
            first
                = (operand_v.LHS (roll-LHS (record {
                  base = (base_v.Primary (primary_v.Name (word 15 16)));
                  suffixes = ((suffix_v.Args (record {
                    left
                        = (mark 16 17);
                    list = [];
                    right = (mark 17 18);
                  })) ∷ []);
                })));
            more = [];
          });
          arms = None;
        }))) None ∷ [];
      }) (Some (mark 18 19))))) ∷
      []);
}

loop_0 : IsAt loop_text Operand 0 (word 0 2)
unfolding lexing
loop_0 = refl

loop_3 : IsAt loop_text Operand 2 (mark 3 4)
unfolding lexing
loop_3 = refl

loop_5 : IsAt loop_text Operand 4 (word 5 10)
unfolding lexing
loop_5 = refl

loop_11 : IsAt loop_text Operand 10 (mark 11 12)
unfolding lexing
loop_11 = refl

loop_12 : IsAt loop_text Operand 12 (number 12 13)
unfolding lexing
loop_12 = refl

loop_13_operator : IsAt loop_text Operator 13 (mark 13 14)
unfolding lexing
loop_13_operator = refl

loop_15 : IsAt loop_text Operand 14 (word 15 16)
unfolding lexing
loop_15 = refl

loop_15_operator : IsAt loop_text Operator 14 (word 15 16)
unfolding lexing
loop_15_operator = refl

loop_16_operator : IsAt loop_text Operator 16 (mark 16 17)
unfolding lexing
loop_16_operator = refl

loop_17_operator : IsAt loop_text Operator 17 (mark 17 18)
unfolding lexing
loop_17_operator = refl

loop_18_operator : IsAt loop_text Operator 18 (mark 18 19)
unfolding lexing
loop_18_operator = refl

loop_19 : IsAt loop_text Operand 19 (end_at 19)
unfolding lexing
loop_19 = refl

loop_parses : Parses loop_text loop_tree
unfolding spelling
loop_parses = record {
  last = 19;
  items =
      Chain.more _ _ (ScriptItemAt.item _ (ClosedItemAt.closed _ (item_up 255 (ItemAt.stmt _ (StmtAt.do_while (word 0 2) _ (word 5 10) (mark
      11 12) _ (mark 13 14) _ (worded loop_0 refl refl) (stmt_up 254 (StmtAt.empty (mark 3 4) (marked loop_3 refl refl))) (worded loop_5
      refl refl) (marked loop_11 refl refl) (ClosedExprAt.closed _ (ExprAt.expr _ (EndedListAt.last _ (assign_up 254 (AssignAt.cond _
      (CondAt.test _ (BinaryAt.binary _ _ (ListedAt.operand _ (OperandAt.lhs _ (LHSAt.base _ _ (BaseAt.primary _ (PrimaryAt.number (number
      12 13) (kinded loop_12 refl))) Chain.none refl))) JoinedAt.none (fits_lhs _) tt refl)))))) (record {
        next = (mark 13 14);
        read =
            loop_13_operator;
        closed = refl;
      })) (marked loop_13_operator refl refl) (FreeSemiAt.left_out (no_mark (word 15 16) loop_15_operator
      refl))))) (closed_item (word 15 16) loop_15 refl refl refl refl))) (Chain.more _ _ (ScriptItemAt.item _ (ClosedItemAt.closed _
      (item_up 255 (ItemAt.stmt _ (StmtAt.expr _ _ (no_mark (word 15 16) loop_15 refl) (no_declaration (word 15 16) loop_15 refl refl refl)
      (ExprAt.expr _ (EndedListAt.last _ (assign_up 254 (AssignAt.cond _ (CondAt.test _ (BinaryAt.binary _ _ (ListedAt.operand _
      (OperandAt.lhs _ (LHSAt.base _ _ (BaseAt.primary _ (PrimaryAt.name (word 15 16) (named loop_15 refl refl))) (Chain.more _ _
      (SuffixAt.args _ (ArgsAt.args (mark 16 17) _ (mark 17 18) (marked loop_16_operator refl refl) ListAt.none (marked loop_17_operator
      refl refl))) Chain.none) refl))) JoinedAt.none (fits_lhs _) tt refl)))))) (record {
        next = (mark 18 19);
        read = loop_18_operator;
        closed = refl;
      }) (SemiAt.written (mark 18 19) (marked loop_18_operator refl refl))))) (closed_item (end_at 19) loop_19 refl refl refl
      refl))) Chain.none);
  end = end_at 19;
  is_end = kinded loop_19 refl;
}

-- `else` belongs to the nearest `if`
abbrev nested_text : Bytes
nested_text = codes "if (a) if (b) ; else ;"

abbrev nested_tree : Program
nested_tree = record {
  goal = Script;
  items =
      (program_item_v.Item (item_v.Stmt (stmt_v.If (word 0 2) (mark 3 4) (record {
        list = separated (assign_v.Cond (roll-Cond (record {
          test =
              (record {
                first = (operand_v.LHS (roll-LHS (record { base = (base_v.Primary (primary_v.Name (word 4 5))); suffixes = [] })));
                more =
                    [];
              });
          arms = None;
        }))) None ∷ [];
      }) (mark 5 6) (stmt_v.If (word 7 9) (mark 10 11) (record {
        list = separated (assign_v.Cond
            (roll-Cond (record {
              test = (record {
                first = (operand_v.LHS (roll-LHS (record {
                  base = (base_v.Primary (primary_v.Name (word 11
                      12)));
                  suffixes = [];
                })));
                more = [];
              });
              arms = None;
            }))) None ∷ [];
      }) (mark 12 13) (stmt_v.Empty (mark 14 15)) (Some (record {
        word =
            (word 16 20);
        stmt = (stmt_v.Empty (mark 21 22));
      }))) None))) ∷ [];
}

nested_0 : IsAt nested_text Operand 0 (word 0 2)
unfolding lexing
nested_0 = refl

nested_3 : IsAt nested_text Operand 2 (mark 3 4)
unfolding lexing
nested_3 = refl

nested_4 : IsAt nested_text Operand 4 (word 4 5)
unfolding lexing
nested_4 = refl

nested_5_operator : IsAt nested_text Operator 5 (mark 5 6)
unfolding lexing
nested_5_operator = refl

nested_7 : IsAt nested_text Operand 6 (word 7 9)
unfolding lexing
nested_7 = refl

nested_10 : IsAt nested_text Operand 9 (mark 10 11)
unfolding lexing
nested_10 = refl

nested_11 : IsAt nested_text Operand 11 (word 11 12)
unfolding lexing
nested_11 = refl

nested_12_operator : IsAt nested_text Operator 12 (mark 12 13)
unfolding lexing
nested_12_operator = refl

nested_14 : IsAt nested_text Operand 13 (mark 14 15)
unfolding lexing
nested_14 = refl

nested_16 : IsAt nested_text Operand 15 (word 16 20)
unfolding lexing
nested_16 = refl

nested_21 : IsAt nested_text Operand 20 (mark 21 22)
unfolding lexing
nested_21 = refl

nested_22 : IsAt nested_text Operand 22 (end_at 22)
unfolding lexing
nested_22 = refl

nested_parses : Parses nested_text nested_tree
unfolding spelling
nested_parses = record {
  last = 22;
  items =
      Chain.more _ _ (ScriptItemAt.item _ (ClosedItemAt.closed _ (item_up 255 (ItemAt.stmt _ (StmtAt.if (word 0 2) (mark 3 4) _ (mark 5 6) _ _
      (worded nested_0 refl refl) (marked nested_3 refl refl) (ClosedExprAt.closed _ (ExprAt.expr _ (EndedListAt.last _ (assign_up 254
      (AssignAt.cond _ (CondAt.test _ (BinaryAt.binary _ _ (ListedAt.operand _ (OperandAt.lhs _ (LHSAt.base _ _ (BaseAt.primary _
      (PrimaryAt.name (word 4 5) (named nested_4 refl refl))) Chain.none refl))) JoinedAt.none (fits_lhs _) tt refl)))))) (record {
        next =
            (mark 5 6);
        read = nested_5_operator;
        closed = refl;
      })) (marked nested_5_operator refl refl) (stmt_up 254 (StmtAt.if (word 7 9) (mark
      10 11) _ (mark 12 13) _ _ (worded nested_7 refl refl) (marked nested_10 refl refl) (ClosedExprAt.closed _ (ExprAt.expr _
      (EndedListAt.last _ (assign_up 253 (AssignAt.cond _ (CondAt.test _ (BinaryAt.binary _ _ (ListedAt.operand _ (OperandAt.lhs _
      (LHSAt.base _ _ (BaseAt.primary _ (PrimaryAt.name (word 11 12) (named nested_11 refl refl))) Chain.none refl))) JoinedAt.none
      (fits_lhs _) tt refl)))))) (record { next = (mark 12 13); read = nested_12_operator; closed = refl })) (marked nested_12_operator refl
      refl) (stmt_up 253 (StmtAt.empty (mark 14 15) (marked nested_14 refl refl))) (ElseAt.word (word 16 20) _ (worded nested_16 refl refl)
      (stmt_up 253 (StmtAt.empty (mark 21 22) (marked nested_21 refl refl)))))) (ElseAt.none (no_word (end_at 22) nested_22 refl)))))
      (closed_item (end_at 22) nested_22 refl refl refl refl))) Chain.none;
  end = end_at 22;
  is_end = kinded nested_22 refl;
}

-- a loop over the values of an iterable
abbrev each_text : Bytes
each_text = codes "for (const x of y) f(x)"

abbrev each_tree : Program
each_tree = record {
  goal = Script;
  items =
      (program_item_v.Item (item_v.Stmt (stmt_v.For (for_v.Of (word 0 3) None (mark 4 5) (head_v.Bind (word 5 10) (bind_v.Name (word 11 12)))
      (word 13 15) (assign_v.Cond (roll-Cond (record {
        test = (record {
          first = (operand_v.LHS (roll-LHS (record {
            base = (base_v.Primary
                (primary_v.Name (word 16 17)));
            suffixes = [];
          })));
          more = [];
        });
        arms = None;
      }))) (mark 17 18) (stmt_v.Expr (record {
        list =
            separated (assign_v.Cond (roll-Cond (record {
              test = (record {
                first = (operand_v.LHS (roll-LHS (record {
                  base = (base_v.Primary
                      (primary_v.Name (word 19 20)));
                  suffixes = ((suffix_v.Args (record {
                    left = (mark 20 21);
                    list = (separated (record {
                      spread = None;
                      value = (assign_v.Cond (roll-Cond (record {
                        test = (record {
                          first = (operand_v.LHS (roll-LHS (record {
                            base = (base_v.Primary
                                (primary_v.Name (word 21 22)));
                            suffixes = [];
                          })));
                          more = [];
                        });
                        arms = None;
                      })));
                    }) None ∷ []);
                    right = (mark 22 23);
                  })) ∷ []);
                })));
                more = [];
              });
              arms = None;
            }))) None ∷ [];
      }) None))))) ∷ [];
}

each_0 : IsAt each_text Operand 0 (word 0 3)
unfolding lexing
each_0 = refl

each_4 : IsAt each_text Operand 3 (mark 4 5)
unfolding lexing
each_4 = refl

each_5 : IsAt each_text Operand 5 (word 5 10)
unfolding lexing
each_5 = refl

each_11 : IsAt each_text Operand 10 (word 11 12)
unfolding lexing
each_11 = refl

each_13_operator : IsAt each_text Operator 12 (word 13 15)
unfolding lexing
each_13_operator = refl

each_16 : IsAt each_text Operand 15 (word 16 17)
unfolding lexing
each_16 = refl

each_17_operator : IsAt each_text Operator 17 (mark 17 18)
unfolding lexing
each_17_operator = refl

each_19 : IsAt each_text Operand 18 (word 19 20)
unfolding lexing
each_19 = refl

each_20_operator : IsAt each_text Operator 20 (mark 20 21)
unfolding lexing
each_20_operator = refl

each_21 : IsAt each_text Operand 21 (word 21 22)
unfolding lexing
each_21 = refl

each_22_operator : IsAt each_text Operator 22 (mark 22 23)
unfolding lexing
each_22_operator = refl

each_23 : IsAt each_text Operand 23 (end_at 23)
unfolding lexing
each_23 = refl

each_23_operator : IsAt each_text Operator 23 (end_at 23)
unfolding lexing
each_23_operator = refl

each_parses : Parses each_text each_tree
unfolding spelling
each_parses = record {
  last = 23;
  items =
      Chain.more _ _ (ScriptItemAt.item _ (ClosedItemAt.closed _ (item_up 255 (ItemAt.stmt _ (StmtAt.for _ (ForAt.of_iterable (word 0 3) None
      (mark 4 5) _ (word 13 15) _ (mark 17 18) _ (worded each_0 refl refl) ForAwaitAt.none (marked each_4 refl refl) (HeadAt.bind (word 5
      10) _ (one_worded each_5 refl refl) (BindAt.name (word 11 12) (named each_11 refl refl))) (worded each_13_operator refl refl)
      (assign_up 254 (AssignAt.cond _ (CondAt.test _ (BinaryAt.binary _ _ (ListedAt.operand _ (OperandAt.lhs _ (LHSAt.base _ _
      (BaseAt.primary _ (PrimaryAt.name (word 16 17) (named each_16 refl refl))) Chain.none refl))) JoinedAt.none (fits_lhs _) tt refl))))
      (marked each_17_operator refl refl) (stmt_up 254 (StmtAt.expr _ _ (no_mark (word 19 20) each_19 refl) (no_declaration (word 19 20)
      each_19 refl refl refl) (ExprAt.expr _ (EndedListAt.last _ (assign_up 253 (AssignAt.cond _ (CondAt.test _ (BinaryAt.binary _ _
      (ListedAt.operand _ (OperandAt.lhs _ (LHSAt.base _ _ (BaseAt.primary _ (PrimaryAt.name (word 19 20) (named each_19 refl refl)))
      (Chain.more _ _ (SuffixAt.args _ (ArgsAt.args (mark 20 21) _ (mark 22 23) (marked each_20_operator refl refl) (ListAt.some _
      (SomeAt.last _ (ArgumentAt.plain _ (assign_up 252 (AssignAt.cond _ (CondAt.test _ (BinaryAt.binary _ _ (ListedAt.operand _
      (OperandAt.lhs _ (LHSAt.base _ _ (BaseAt.primary _ (PrimaryAt.name (word 21 22) (named each_21 refl refl))) Chain.none refl)))
      JoinedAt.none (fits_lhs _) tt refl))))))) (marked each_22_operator refl refl))) Chain.none) refl))) JoinedAt.none (fits_lhs _) tt
      refl)))))) (record { next = (end_at 23); read = each_23_operator; closed = refl }) (SemiAt.left_out (end_at 23) each_23_operator
      (no_mark (end_at 23) each_23_operator refl (end_at 23)) refl))))))) (closed_item (end_at 23) each_23 refl refl refl refl)))
      Chain.none;
  end = end_at 23;
  is_end = kinded each_23 refl;
}

-- a static generator and a getter over two lines, and a field that is called `get`
abbrev members_text : Bytes
members_text = codes "class A { static\n*x(){} get\ny(){} get\n}"

abbrev members_tree : Program
members_tree = record {
  goal = Script;
  items =
      (program_item_v.Item (item_v.Class (roll-Class (record {
        word = (word 0 5);
        name = Some (word 6 7);
        extends = None;
        left = (mark 8 9);
        elements = ((element_v.Method (Some (word 10 16)) (method_v.Method None (Some (below (mark 17 18))) (key.IdName (word 18 19)) (mark 19
            20) (roll-Params (record { list = []; rest = None })) (mark 20 21) (record {
              left = (mark 21 22);
              items = [];
              right = (mark 22 23);
            }))) ∷ ((element_v.Method None (method_v.Get (word 24 27) (key.IdName (below (word 28 29))) (mark 29 30) (mark 30 31) (record {
              left =
                  (mark 31 32);
              items = [];
              right = (mark 32 33);
            }))) ∷ ((element_v.Field None (key.IdName (word 34 37)) None None) ∷ [])));
        right =
            (below (mark 38 39));
      })))) ∷ [];
}

members_0 : IsAt members_text Operand 0 (word 0 5)
unfolding lexing
members_0 = refl

members_6 : IsAt members_text Operand 5 (word 6 7)
unfolding lexing
members_6 = refl

members_8_operator : IsAt members_text Operator 7 (mark 8 9)
unfolding lexing
members_8_operator = refl

members_10 : IsAt members_text Operand 9 (word 10 16)
unfolding lexing
members_10 = refl

members_17_operator : IsAt members_text Operator 16 (below (mark 17 18))
unfolding lexing
members_17_operator = refl

members_18 : IsAt members_text Operand 18 (word 18 19)
unfolding lexing
members_18 = refl

members_19_operator : IsAt members_text Operator 19 (mark 19 20)
unfolding lexing
members_19_operator = refl

members_20_operator : IsAt members_text Operator 20 (mark 20 21)
unfolding lexing
members_20_operator = refl

members_21 : IsAt members_text Operand 21 (mark 21 22)
unfolding lexing
members_21 = refl

members_22 : IsAt members_text Operand 22 (mark 22 23)
unfolding lexing
members_22 = refl

members_24 : IsAt members_text Operand 23 (word 24 27)
unfolding lexing
members_24 = refl

members_28 : IsAt members_text Operand 27 (below (word 28 29))
unfolding lexing
members_28 = refl

members_29_operator : IsAt members_text Operator 29 (mark 29 30)
unfolding lexing
members_29_operator = refl

members_30 : IsAt members_text Operand 30 (mark 30 31)
unfolding lexing
members_30 = refl

members_31 : IsAt members_text Operand 31 (mark 31 32)
unfolding lexing
members_31 = refl

members_32 : IsAt members_text Operand 32 (mark 32 33)
unfolding lexing
members_32 = refl

members_34 : IsAt members_text Operand 33 (word 34 37)
unfolding lexing
members_34 = refl

members_38 : IsAt members_text Operand 37 (below (mark 38 39))
unfolding lexing
members_38 = refl

members_38_operator : IsAt members_text Operator 37 (below (mark 38 39))
unfolding lexing
members_38_operator = refl

members_39 : IsAt members_text Operand 39 (end_at 39)
unfolding lexing
members_39 = refl

members_parses : Parses members_text members_tree
unfolding spelling
members_parses = record {
  last = 39;
  items =
      Chain.more _ _ (ScriptItemAt.item _ (ClosedItemAt.closed _ (item_up 255 (ItemAt.class _ (ClassAt.class (word 0 5) _ None (mark 8 9) _
      (below (mark 38 39)) (worded members_0 refl refl) (OptionalNameAt.name (word 6 7) (named members_6 refl refl)) (λ h. refl)
      HeritageAt.none (marked members_8_operator refl refl) (Chain.more _ _ (ElementAt.method (Some (word 10 16)) _ (StaticAt.word (word 10
      16) (worded members_10 refl refl)) (MethodAt.method None (Some (below (mark 17 18))) _ (mark 19 20) _ (mark 20 21) _ AsyncAt.none
      (StarAt.star (below (mark 17 18)) (marked members_17_operator refl refl)) (ElementKeyAt.public _ (KeyAt.id_name (word 18 19) (kinded
      members_18 refl))) (marked members_19_operator refl refl) (ParamsAt.list [] ListAt.none) (marked members_20_operator refl refl)
      (BodyAt.body (mark 21 22) _ (mark 22 23) (marked members_21 refl refl) Chain.none (marked members_22 refl refl)))) (Chain.more _ _
      (ElementAt.method None _ StaticAt.none (MethodAt.get (word 24 27) _ (mark 29 30) (mark 30 31) _ (worded members_24 refl refl)
      (ElementKeyAt.public _ (KeyAt.id_name (below (word 28 29)) (kinded members_28 refl))) (marked members_29_operator refl refl) (marked
      members_30 refl refl) (BodyAt.body (mark 31 32) _ (mark 32 33) (marked members_31 refl refl) Chain.none (marked members_32 refl
      refl)))) (Chain.more _ _ (ElementAt.field None _ None StaticAt.none (ElementKeyAt.public _ (KeyAt.id_name (word 34 37) (kinded
      members_34 refl))) (SemiAt.left_out (below (mark 38 39)) members_38_operator (no_mark (below (mark 38 39)) members_38_operator refl
      (below (mark 38 39))) refl)) Chain.none))) (marked members_38 refl refl)))) (closed_item (end_at 39) members_39 refl refl refl refl)))
      Chain.none;
  end = end_at 39;
  is_end = kinded members_39 refl;
}

-- an import and an export
abbrev module_text : Bytes
module_text = codes "import a, { b as c } from \"m\"\nexport { a, c as d, };"

abbrev module_tree : Program
module_tree = record {
  goal = Module;
  items =
      (program_item_v.Import (import_v.From (word 0 6) (clause_v.NameNamed (word 7 8) (mark 8 9) (record {
        left = (mark 10 11);
        list =
            (separated (import_name_v.Renamed (word 12 13) (word 14 16) (word 17 18)) None ∷ []);
        right = (mark 19 20);
      })) (word 21 25) (string 26
      29) None None)) ∷ ((program_item_v.Export (export_v.Names (below (word 30 36)) (record {
        left = (mark 37 38);
        list = (separated (record {
          name = (word 39 40);
          renamed = None;
        }) (Some (mark 40 41)) ∷ (separated (record {
          name = (word 42 43);
          renamed = Some (record {
            word =
                (word 44 46);
            name = (word 47 48);
          });
        }) (Some (mark 48 49)) ∷ []));
        right = (mark 50 51);
      }) (Some (mark 51 52)))) ∷ []);
}

module_0 : IsAt module_text Operand 0 (word 0 6)
unfolding lexing
module_0 = refl

module_7 : IsAt module_text Operand 6 (word 7 8)
unfolding lexing
module_7 = refl

module_8_operator : IsAt module_text Operator 8 (mark 8 9)
unfolding lexing
module_8_operator = refl

module_10 : IsAt module_text Operand 9 (mark 10 11)
unfolding lexing
module_10 = refl

module_12 : IsAt module_text Operand 11 (word 12 13)
unfolding lexing
module_12 = refl

module_14 : IsAt module_text Operand 13 (word 14 16)
unfolding lexing
module_14 = refl

module_17 : IsAt module_text Operand 16 (word 17 18)
unfolding lexing
module_17 = refl

module_19_operator : IsAt module_text Operator 18 (mark 19 20)
unfolding lexing
module_19_operator = refl

module_21_operator : IsAt module_text Operator 20 (word 21 25)
unfolding lexing
module_21_operator = refl

module_26 : IsAt module_text Operand 25 (string 26 29)
unfolding lexing
module_26 = refl

module_30 : IsAt module_text Operand 29 (below (word 30 36))
unfolding lexing
module_30 = refl

module_30_operator : IsAt module_text Operator 29 (below (word 30 36))
unfolding lexing
module_30_operator = refl

module_37 : IsAt module_text Operand 36 (mark 37 38)
unfolding lexing
module_37 = refl

module_39 : IsAt module_text Operand 38 (word 39 40)
unfolding lexing
module_39 = refl

module_40_operator : IsAt module_text Operator 40 (mark 40 41)
unfolding lexing
module_40_operator = refl

module_42 : IsAt module_text Operand 41 (word 42 43)
unfolding lexing
module_42 = refl

module_44_operator : IsAt module_text Operator 43 (word 44 46)
unfolding lexing
module_44_operator = refl

module_47 : IsAt module_text Operand 46 (word 47 48)
unfolding lexing
module_47 = refl

module_48_operator : IsAt module_text Operator 48 (mark 48 49)
unfolding lexing
module_48_operator = refl

module_50_operator : IsAt module_text Operator 49 (mark 50 51)
unfolding lexing
module_50_operator = refl

module_51_operator : IsAt module_text Operator 51 (mark 51 52)
unfolding lexing
module_51_operator = refl

module_52 : IsAt module_text Operand 52 (end_at 52)
unfolding lexing
module_52 = refl

module_parses : Parses module_text module_tree
unfolding spelling
module_parses = record {
  last = 52;
  items =
      Chain.more _ _ (ModuleItemAt.import_from _ (ImportAt.from (word 0 6) _ (word 21 25) (string 26 29) _ _ (worded module_0 refl refl)
      (ClauseAt.name_named (word 7 8) (mark 8 9) _ (named module_7 refl refl) (marked module_8_operator refl refl) (NamedAt.named (mark 10
      11) _ (mark 19 20) (marked module_10 refl refl) (ListAt.some _ (SomeAt.last _ (ImportNameAt.renamed (word 12 13) (word 14 16) (word 17
      18) (kinded module_12 refl) (worded module_14 refl refl) (named module_17 refl refl)))) (marked module_19_operator refl refl)))
      (worded module_21_operator refl refl) (kinded module_26 refl) OptionalWithAt.none (SemiAt.left_out (below (word 30 36)) module_30_operator (no_mark (below
      (word 30 36)) module_30_operator refl (below (word 30 36))) refl))) (Chain.more _ _ (ModuleItemAt.export _ (ExportAt.names (below
      (word 30 36)) _ _ (worded module_30 refl refl) (NamesAt.names (mark 37 38) _ (mark 50 51) (marked module_37 refl refl) (ListAt.some _
      (SomeAt.more _ (mark 40 41) _ (LocalNameAt.name (word 39 40) _ (named module_39 refl refl) RenamedAt.none) (marked module_40_operator
      refl refl) (SomeAt.ended _ (mark 48 49) (LocalNameAt.name (word 42 43) _ (named module_42 refl refl) (RenamedAt.renamed (word 44 46)
      (word 47 48) (worded module_44_operator refl refl) (kinded module_47 refl))) (marked module_48_operator refl refl)))) (marked
      module_50_operator refl refl)) (SemiAt.written (mark 51 52) (marked module_51_operator refl refl)))) Chain.none);
  end = end_at 52;
  is_end = kinded module_52 refl;
}

-- attributes on the next line
abbrev attributes_text : Bytes
attributes_text = codes "import \"m\"\nwith { type: \"json\", };"

abbrev attributes_tree : Program
attributes_tree = record {
  goal = Module;
  items =
      (program_item_v.Import (import_v.Bare (word 0 6) (string 7 10) (Some (record {
        word = below (word 11 15);
        left = (mark 16 17);
        list = separated (record {
          key = (word 18 22);
          colon = (mark 22 23);
          value = (string 24 30);
        }) (Some (mark 30 31)) ∷ [];
        right = (mark 32 33);
      })) (Some (mark 33 34)))) ∷ [];
}

attributes_0 : IsAt attributes_text Operand 0 (word 0 6)
unfolding lexing
attributes_0 = refl

attributes_7 : IsAt attributes_text Operand 6 (string 7 10)
unfolding lexing
attributes_7 = refl

attributes_11_operator : IsAt attributes_text Operator 10 (below (word 11 15))
unfolding lexing
attributes_11_operator = refl

attributes_16 : IsAt attributes_text Operand 15 (mark 16 17)
unfolding lexing
attributes_16 = refl

attributes_18 : IsAt attributes_text Operand 17 (word 18 22)
unfolding lexing
attributes_18 = refl

attributes_22_operator : IsAt attributes_text Operator 22 (mark 22 23)
unfolding lexing
attributes_22_operator = refl

attributes_24 : IsAt attributes_text Operand 23 (string 24 30)
unfolding lexing
attributes_24 = refl

attributes_30_operator : IsAt attributes_text Operator 30 (mark 30 31)
unfolding lexing
attributes_30_operator = refl

attributes_32_operator : IsAt attributes_text Operator 31 (mark 32 33)
unfolding lexing
attributes_32_operator = refl

attributes_33_operator : IsAt attributes_text Operator 33 (mark 33 34)
unfolding lexing
attributes_33_operator = refl

attributes_34 : IsAt attributes_text Operand 34 (end_at 34)
unfolding lexing
attributes_34 = refl

attributes_parses : Parses attributes_text attributes_tree
unfolding spelling
attributes_parses = record {
  last = 34;
  items =
      Chain.more _ _ (ModuleItemAt.import_from _ (ImportAt.bare (word 0 6) (string 7 10) _ _ (worded attributes_0 refl refl)
      (kinded attributes_7 refl) (OptionalWithAt.some _ (WithAt.with (below (word 11 15)) (mark 16 17) _ (mark 32 33)
      (worded attributes_11_operator refl refl) (marked attributes_16 refl refl) (ListAt.some _ (SomeAt.ended _ (mark 30 31)
      (AttributeAt.word (word 18 22) (mark 22 23) (string 24 30) (kinded attributes_18 refl) (marked attributes_22_operator refl refl)
      (kinded attributes_24 refl)) (marked attributes_30_operator refl refl))) (marked attributes_32_operator refl refl)))
      (SemiAt.written (mark 33 34) (marked attributes_33_operator refl refl)))) Chain.none;
  end = end_at 34;
  is_end = kinded attributes_34 refl;
}

-- a division, a block, and no semicolon before `}`
abbrev lexical_text : Bytes
lexical_text = codes "let x = y / 2; { x-- }"

abbrev lexical_tree : Program
lexical_tree = record {
  goal = Script;
  items =
      (program_item_v.Item (item_v.Lex (record {
        word = (word 0 3);
        decls = separated (roll-Decl (record {
          bind = (bind_v.Name (word 4 5));
          initial = Some (record {
            equals = (mark 6 7);
            value = (assign_v.Cond (roll-Cond (record {
              test = (record {
                first = (operand_v.LHS
                    (roll-LHS (record { base = (base_v.Primary (primary_v.Name (word 8 9))); suffixes = [] })));
                more = (record {
                  op = (mark 10 11);
                  operand = (operand_v.LHS (roll-LHS (record { base = (base_v.Primary (primary_v.Literal (number 12 13))); suffixes = [] })));
                } ∷ []);
              });
              arms = None;
            })));
          });
        })) None ∷ [];
        semi = (Some (mark 13 14));
      }))) ∷ ((program_item_v.Item (item_v.Stmt (stmt_v.Block (record {
        left = (mark 15 16);
        items = ((item_v.Stmt (stmt_v.Expr (record {
          list = separated (assign_v.Cond (roll-Cond (record {
            test = (record
                { first = (operand_v.Postfix (target_v.Name (word 17 18)) (mark 18 20)); more = [] });
            arms = None;
          }))) None ∷ [];
        }) None)) ∷ []);
        right = (mark 21 22);
      })))) ∷ []);
}

lexical_0 : IsAt lexical_text Operand 0 (word 0 3)
unfolding lexing
lexical_0 = refl

lexical_4 : IsAt lexical_text Operand 3 (word 4 5)
unfolding lexing
lexical_4 = refl

lexical_6_operator : IsAt lexical_text Operator 5 (mark 6 7)
unfolding lexing
lexical_6_operator = refl

lexical_8 : IsAt lexical_text Operand 7 (word 8 9)
unfolding lexing
lexical_8 = refl

lexical_10_operator : IsAt lexical_text Operator 9 (mark 10 11)
unfolding lexing
lexical_10_operator = refl

lexical_12 : IsAt lexical_text Operand 11 (number 12 13)
unfolding lexing
lexical_12 = refl

lexical_13_operator : IsAt lexical_text Operator 13 (mark 13 14)
unfolding lexing
lexical_13_operator = refl

lexical_15 : IsAt lexical_text Operand 14 (mark 15 16)
unfolding lexing
lexical_15 = refl

lexical_17 : IsAt lexical_text Operand 16 (word 17 18)
unfolding lexing
lexical_17 = refl

lexical_18_operator : IsAt lexical_text Operator 18 (mark 18 20)
unfolding lexing
lexical_18_operator = refl

lexical_21 : IsAt lexical_text Operand 20 (mark 21 22)
unfolding lexing
lexical_21 = refl

lexical_21_operator : IsAt lexical_text Operator 20 (mark 21 22)
unfolding lexing
lexical_21_operator = refl

lexical_22 : IsAt lexical_text Operand 22 (end_at 22)
unfolding lexing
lexical_22 = refl

lexical_parses : Parses lexical_text lexical_tree
unfolding spelling
lexical_parses = record {
  last = 22;
  items =
      Chain.more _ _ (ScriptItemAt.item _ (ClosedItemAt.closed _ (item_up 255 (ItemAt.lex _ (LexAt.lex (word 0 3) _ _ (LexicalAt.let_word
      (word 0 3) (worded lexical_0 refl refl)) (EndedListAt.last _ (DeclaredAt.initialised _ _ (DeclAt.initialised _ _ (BindAt.name (word 4
      5) (named lexical_4 refl refl)) (InitializerAt.initializer (mark 6 7) _ (marked lexical_6_operator refl refl) (assign_up 254
      (AssignAt.cond _ (CondAt.test _ (BinaryAt.binary _ _ (ListedAt.operand _ (OperandAt.lhs _ (LHSAt.base _ _ (BaseAt.primary _
      (PrimaryAt.name (word 8 9) (named lexical_8 refl refl))) Chain.none refl))) (JoinedAt.more (mark 10 11) _ _ (OperatorAt.mark (mark 10
      11) (one_marked lexical_10_operator refl refl)) (ListedAt.operand _ (OperandAt.lhs _ (LHSAt.base _ _ (BaseAt.primary _
      (PrimaryAt.number (number 12 13) (kinded lexical_12 refl))) Chain.none refl))) JoinedAt.none) (fits_lhs _) ((fits_lhs _), tt)
      refl)))))))) (SemiAt.written (mark 13 14) (marked lexical_13_operator refl refl))))) (closed_item (mark 15 16) lexical_15 refl refl
      refl refl))) (Chain.more _ _ (ScriptItemAt.item _ (ClosedItemAt.closed _ (item_up 255 (ItemAt.stmt _ (StmtAt.block _ (BodyAt.body
      (mark 15 16) _ (mark 21 22) (marked lexical_15 refl refl) (Chain.more _ _ (ClosedItemAt.closed _ (item_up 254 (ItemAt.stmt _
      (StmtAt.expr _ _ (no_mark (word 17 18) lexical_17 refl) (no_declaration (word 17 18) lexical_17 refl refl refl) (ExprAt.expr _
      (EndedListAt.last _ (assign_up 253 (AssignAt.cond _ (CondAt.test _ (BinaryAt.binary _ _ (ListedAt.operand _ (OperandAt.postfix_of _
      (mark 18 20) (SimpleTargetAt.name (word 17 18) (named lexical_17 refl refl)) (one_marked lexical_18_operator refl refl) refl))
      JoinedAt.none (fits_postfix _ _) tt refl)))))) (record { next = (mark 21 22); read = lexical_21_operator; closed = refl })
      (SemiAt.left_out (mark 21 22) lexical_21_operator (no_mark (mark 21 22) lexical_21_operator refl (mark 21 22)) refl)))) (closed_item
      (mark 21 22) lexical_21 refl refl refl refl)) Chain.none) (marked lexical_21 refl refl))))) (closed_item (end_at 22) lexical_22 refl
      refl refl refl))) Chain.none);
  end = end_at 22;
  is_end = kinded lexical_22 refl;
}

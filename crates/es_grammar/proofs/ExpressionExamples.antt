-- Texts of expressions, and their trees.
use Rattle.std.proofs.Common.{[], ◌∷◌, Some, None, refl}
use Rattle.std.specs.Prelude.{codes}
use Rattle.es_tree.specs.declared.tokens.Goal.TheVariants.{Operand, Operator, Template}
use Rattle.es_tree.specs.declared.tokens.ProgramGoal.TheVariants.{Script}
use Rattle.es_tree.specs.declared.parts.ArrowParams.TheVariants as arrow_params
use Rattle.es_tree.specs.declared.parts.SuffixOf.TheVariants as suffix_v
use Rattle.es_tree.specs.declared.cycle.Arrow.TheVariants as arrow_v
use Rattle.es_tree.specs.declared.cycle.Assign.TheVariants as assign_v
use Rattle.es_tree.specs.declared.cycle.Base.TheVariants as base_v
use Rattle.es_tree.specs.declared.cycle.Cond.{roll-Cond}
use Rattle.es_tree.specs.declared.cycle.Item.TheVariants as item_v
use Rattle.es_tree.specs.declared.cycle.LHS.{roll-LHS}
use Rattle.es_tree.specs.declared.cycle.Operand.TheVariants as operand_v
use Rattle.es_tree.specs.declared.cycle.Primary.TheVariants as primary_v
use Rattle.es_tree.specs.declared.cycle.Stmt.TheVariants as stmt_v
use Rattle.es_tree.specs.declared.cycle.Target.TheVariants as target_v
use Rattle.es_tree.specs.declared.program.Program.{Program}
use Rattle.es_tree.specs.declared.program.ProgramItem.TheVariants as program_item_v
use Rattle.es_grammar.specs.Reading.{Bytes, IsAt}
use Rattle.es_grammar.specs.Lists.{Chain, SomeAt, ListAt, ElementsAt, EndedListAt, separated}
use Rattle.es_grammar.specs.Semicolons.{SemiAt}
use Rattle.es_grammar.specs.Functions.{ClosedItemAt, BodyAt, AsyncAt, ArrowParamsAt, ArrowAt}
use Rattle.es_grammar.specs.Expressions.{ExprAt, ClosedExprAt, PiecesAt, TemplateAt, ArgumentAt, ArgsAt, SuffixAt, PrimaryAt, BaseAt, LHSAt, CalleeAt, NewAt}
use Rattle.es_grammar.specs.Targets.{ChainedMarkAt, ParenthesisedAt, TargetNameAt, SimpleTargetAt, TargetAt}
use Rattle.es_grammar.specs.Operators.{OperandAt, PrefixedAt, OperatorAt, ListedAt, JoinedAt, BinaryAt, CondAt, AssignAt}
use Rattle.es_grammar.specs.Statements.{StmtAt, ItemAt}
use Rattle.es_grammar.specs.Modules.{ScriptItemAt}
use Rattle.es_grammar.specs.Parses.{Parses}
use Rattle.es_grammar.proofs.Computing.{lexing, spelling}
use Rattle.es_grammar.proofs.Witnesses.{word, mark, number, piece, regex, end_at, below, kinded, marked, worded, named, one_marked, item_up, assign_up, new_up, prefixed_up, no_mark, no_kind, no_declaration, closed_item, fits_lhs, fits_update}

-- no semicolon at the end of the text
abbrev a_text : Bytes
a_text = codes "a"

abbrev a_tree : Program
a_tree = record {
  goal = Script;
  items =
      (program_item_v.Item (item_v.Stmt (stmt_v.Expr (record {
        list = separated (assign_v.Cond (roll-Cond (record {
          test = (record {
            first =
                (operand_v.LHS (roll-LHS (record { base = (base_v.Primary (primary_v.Name (word 0 1))); suffixes = [] })));
            more = [];
          });
          arms = None;
        }))) None ∷ [];
      }) None))) ∷ [];
}

a_0 : IsAt a_text Operand 0 (word 0 1)
unfolding lexing
a_0 = refl

a_1 : IsAt a_text Operand 1 (end_at 1)
unfolding lexing
a_1 = refl

a_1_operator : IsAt a_text Operator 1 (end_at 1)
unfolding lexing
a_1_operator = refl

a_parses : Parses a_text a_tree
unfolding spelling
a_parses = record {
  last = 1;
  items =
      Chain.more _ _ (ScriptItemAt.item _ (ClosedItemAt.closed _ (item_up 255 (ItemAt.stmt _ (StmtAt.expr _ _ (no_mark (word 0 1) a_0 refl)
      (no_declaration (word 0 1) a_0 refl refl refl) (ExprAt.expr _ (EndedListAt.last _ (assign_up 254 (AssignAt.cond _ (CondAt.test _
      (BinaryAt.binary _ _ (ListedAt.operand _ (OperandAt.lhs _ (LHSAt.base _ _ (BaseAt.primary _ (PrimaryAt.name (word 0 1) (named a_0 refl
      refl))) Chain.none refl))) JoinedAt.none (fits_lhs _) tt refl)))))) (record { next = (end_at 1); read = a_1_operator; closed = refl })
      (SemiAt.left_out (end_at 1) a_1_operator (no_mark (end_at 1) a_1_operator refl (end_at 1)) refl)))) (closed_item (end_at 1) a_1 refl
      refl refl refl))) Chain.none;
  end = end_at 1;
  is_end = kinded a_1 refl;
}

-- a call
abbrev call_text : Bytes
call_text = codes "f(1);"

abbrev call_tree : Program
call_tree = record {
  goal = Script;
  items =
      (program_item_v.Item (item_v.Stmt (stmt_v.Expr (record {
        list = separated (assign_v.Cond (roll-Cond (record {
          test = (record {
            first =
                (operand_v.LHS (roll-LHS (record {
                  base = (base_v.Primary (primary_v.Name (word 0 1)));
                  suffixes = ((suffix_v.Args (record {
                    left =
                        (mark 1 2);
                    list = (separated (record {
                      spread = None;
                      value = (assign_v.Cond (roll-Cond (record {
                        test = (record {
                          first =
                              (operand_v.LHS (roll-LHS (record { base = (base_v.Primary (primary_v.Literal (number 2 3))); suffixes = [] })));
                          more = [];
                        });
                        arms =
                            None;
                      })));
                    }) None ∷ []);
                    right = (mark 3 4);
                  })) ∷ []);
                })));
            more = [];
          });
          arms = None;
        }))) None ∷ [];
      }) (Some (mark 4 5))))) ∷ [];
}

call_0 : IsAt call_text Operand 0 (word 0 1)
unfolding lexing
call_0 = refl

call_1_operator : IsAt call_text Operator 1 (mark 1 2)
unfolding lexing
call_1_operator = refl

call_2 : IsAt call_text Operand 2 (number 2 3)
unfolding lexing
call_2 = refl

call_3_operator : IsAt call_text Operator 3 (mark 3 4)
unfolding lexing
call_3_operator = refl

call_4_operator : IsAt call_text Operator 4 (mark 4 5)
unfolding lexing
call_4_operator = refl

call_5 : IsAt call_text Operand 5 (end_at 5)
unfolding lexing
call_5 = refl

call_parses : Parses call_text call_tree
unfolding spelling
call_parses = record {
  last = 5;
  items =
      Chain.more _ _ (ScriptItemAt.item _ (ClosedItemAt.closed _ (item_up 255 (ItemAt.stmt _ (StmtAt.expr _ _ (no_mark (word 0 1) call_0 refl)
      (no_declaration (word 0 1) call_0 refl refl refl) (ExprAt.expr _ (EndedListAt.last _ (assign_up 254 (AssignAt.cond _ (CondAt.test _
      (BinaryAt.binary _ _ (ListedAt.operand _ (OperandAt.lhs _ (LHSAt.base _ _ (BaseAt.primary _ (PrimaryAt.name (word 0 1) (named call_0
      refl refl))) (Chain.more _ _ (SuffixAt.args _ (ArgsAt.args (mark 1 2) _ (mark 3 4) (marked call_1_operator refl refl) (ListAt.some _
      (SomeAt.last _ (ArgumentAt.plain _ (assign_up 253 (AssignAt.cond _ (CondAt.test _ (BinaryAt.binary _ _ (ListedAt.operand _
      (OperandAt.lhs _ (LHSAt.base _ _ (BaseAt.primary _ (PrimaryAt.number (number 2 3) (kinded call_2 refl))) Chain.none refl)))
      JoinedAt.none (fits_lhs _) tt refl))))))) (marked call_3_operator refl refl))) Chain.none) refl))) JoinedAt.none (fits_lhs _) tt
      refl)))))) (record { next = (mark 4 5); read = call_4_operator; closed = refl }) (SemiAt.written (mark 4 5) (marked call_4_operator
      refl refl))))) (closed_item (end_at 5) call_5 refl refl refl refl))) Chain.none;
  end = end_at 5;
  is_end = kinded call_5 refl;
}

-- two statements: `++` behind a line's end belongs to what follows
abbrev two_text : Bytes
two_text = codes "a\n++b"

abbrev two_tree : Program
two_tree = record {
  goal = Script;
  items =
      (program_item_v.Item (item_v.Stmt (stmt_v.Expr (record {
        list = separated (assign_v.Cond (roll-Cond (record {
          test = (record {
            first =
                (operand_v.LHS (roll-LHS (record { base = (base_v.Primary (primary_v.Name (word 0 1))); suffixes = [] })));
            more = [];
          });
          arms = None;
        }))) None ∷ [];
      }) None))) ∷ ((program_item_v.Item (item_v.Stmt (stmt_v.Expr (record {
        list = separated (assign_v.Cond (roll-Cond
            (record { test = (record { first = (operand_v.Update (below (mark 2 4)) (target_v.Name (word 4 5))); more = [] }); arms = None })))
            None ∷ [];
      }) None))) ∷ []);
}

two_0 : IsAt two_text Operand 0 (word 0 1)
unfolding lexing
two_0 = refl

two_2 : IsAt two_text Operand 1 (below (mark 2 4))
unfolding lexing
two_2 = refl

two_2_operator : IsAt two_text Operator 1 (below (mark 2 4))
unfolding lexing
two_2_operator = refl

two_4 : IsAt two_text Operand 4 (word 4 5)
unfolding lexing
two_4 = refl

two_5 : IsAt two_text Operand 5 (end_at 5)
unfolding lexing
two_5 = refl

two_5_operator : IsAt two_text Operator 5 (end_at 5)
unfolding lexing
two_5_operator = refl

two_parses : Parses two_text two_tree
unfolding spelling
two_parses = record {
  last = 5;
  items =
      Chain.more _ _ (ScriptItemAt.item _ (ClosedItemAt.closed _ (item_up 255 (ItemAt.stmt _ (StmtAt.expr _ _ (no_mark (word 0 1) two_0 refl)
      (no_declaration (word 0 1) two_0 refl refl refl) (ExprAt.expr _ (EndedListAt.last _ (assign_up 254 (AssignAt.cond _ (CondAt.test _
      (BinaryAt.binary _ _ (ListedAt.operand _ (OperandAt.lhs _ (LHSAt.base _ _ (BaseAt.primary _ (PrimaryAt.name (word 0 1) (named two_0
      refl refl))) Chain.none refl))) JoinedAt.none (fits_lhs _) tt refl)))))) (record {
        next = (below (mark 2 4));
        read = two_2_operator;
        closed = refl;
      }) (SemiAt.left_out (below (mark 2 4)) two_2_operator (no_mark (below (mark 2 4)) two_2_operator refl (below (mark 2
      4))) refl)))) (closed_item (below (mark 2 4)) two_2 refl refl refl refl))) (Chain.more _ _ (ScriptItemAt.item _ (ClosedItemAt.closed _
      (item_up 255 (ItemAt.stmt _ (StmtAt.expr _ _ (no_mark (below (mark 2 4)) two_2 refl) (no_declaration (below (mark 2 4)) two_2 refl
      refl refl) (ExprAt.expr _ (EndedListAt.last _ (assign_up 254 (AssignAt.cond _ (CondAt.test _ (BinaryAt.binary _ _ (ListedAt.operand _
      (OperandAt.prefixed _ (prefixed_up 253 (PrefixedAt.update (below (mark 2 4)) _ (one_marked two_2 refl refl) (SimpleTargetAt.name (word
      4 5) (named two_4 refl refl)))))) JoinedAt.none (fits_update _ _) tt refl)))))) (record {
        next = (end_at 5);
        read = two_5_operator;
        closed = refl;
      }) (SemiAt.left_out (end_at 5) two_5_operator (no_mark (end_at 5) two_5_operator refl (end_at 5)) refl)))) (closed_item
      (end_at 5) two_5 refl refl refl refl))) Chain.none);
  end = end_at 5;
  is_end = kinded two_5 refl;
}

-- two statements: an arrow function with a block goes on with a comma alone
abbrev arrow_text : Bytes
arrow_text = codes "x => {}\n(1)"

abbrev arrow_tree : Program
arrow_tree = record {
  goal = Script;
  items =
      (program_item_v.Item (item_v.Stmt (stmt_v.Expr (record {
        list = separated (assign_v.Arrow (arrow_v.Block None (arrow_params.Name (word 0
            1)) (mark 2 4) (record { left = (mark 5 6); items = []; right = (mark 6 7) }))) None ∷ [];
      }) None))) ∷ ((program_item_v.Item
      (item_v.Stmt (stmt_v.Expr (record {
        list = separated (assign_v.Cond (roll-Cond (record {
          test = (record {
            first = (operand_v.LHS
                (roll-LHS (record {
                  base = (base_v.Primary (primary_v.Paren (below (mark 8 9)) (record {
                    list = separated (assign_v.Cond (roll-Cond
                        (record {
                          test = (record {
                            first = (operand_v.LHS (roll-LHS (record {
                              base = (base_v.Primary (primary_v.Literal (number 9 10)));
                              suffixes = [];
                            })));
                            more = [];
                          });
                          arms = None;
                        }))) None ∷ [];
                  }) (mark 10 11)));
                  suffixes = [];
                })));
            more = [];
          });
          arms = None;
        })))
            None ∷ [];
      }) None))) ∷ []);
}

arrow_0 : IsAt arrow_text Operand 0 (word 0 1)
unfolding lexing
arrow_0 = refl

arrow_2_operator : IsAt arrow_text Operator 1 (mark 2 4)
unfolding lexing
arrow_2_operator = refl

arrow_5 : IsAt arrow_text Operand 4 (mark 5 6)
unfolding lexing
arrow_5 = refl

arrow_6 : IsAt arrow_text Operand 6 (mark 6 7)
unfolding lexing
arrow_6 = refl

arrow_8 : IsAt arrow_text Operand 7 (below (mark 8 9))
unfolding lexing
arrow_8 = refl

arrow_8_operator : IsAt arrow_text Operator 7 (below (mark 8 9))
unfolding lexing
arrow_8_operator = refl

arrow_9 : IsAt arrow_text Operand 9 (number 9 10)
unfolding lexing
arrow_9 = refl

arrow_10_operator : IsAt arrow_text Operator 10 (mark 10 11)
unfolding lexing
arrow_10_operator = refl

arrow_11 : IsAt arrow_text Operand 11 (end_at 11)
unfolding lexing
arrow_11 = refl

arrow_11_operator : IsAt arrow_text Operator 11 (end_at 11)
unfolding lexing
arrow_11_operator = refl

arrow_parses : Parses arrow_text arrow_tree
unfolding spelling
arrow_parses = record {
  last = 11;
  items =
      Chain.more _ _ (ScriptItemAt.item _ (ClosedItemAt.closed _ (item_up 255 (ItemAt.stmt _ (StmtAt.expr _ _ (no_mark (word 0 1) arrow_0
      refl) (no_declaration (word 0 1) arrow_0 refl refl refl) (ExprAt.expr _ (EndedListAt.last _ (assign_up 254 (AssignAt.arrow _
      (ArrowAt.block None _ (mark 2 4) _ AsyncAt.none (ArrowParamsAt.name (word 0 1) (named arrow_0 refl refl)) (marked arrow_2_operator
      refl refl) refl (BodyAt.body (mark 5 6) _ (mark 6 7) (marked arrow_5 refl refl) Chain.none (marked arrow_6 refl refl))))))) (record {
        next = (below (mark 8 9));
        read = arrow_8_operator;
        closed = refl;
      }) (SemiAt.left_out (below (mark 8 9)) arrow_8_operator (no_mark
      (below (mark 8 9)) arrow_8_operator refl (below (mark 8 9))) refl)))) (closed_item (below (mark 8 9)) arrow_8 refl refl refl refl)))
      (Chain.more _ _ (ScriptItemAt.item _ (ClosedItemAt.closed _ (item_up 255 (ItemAt.stmt _ (StmtAt.expr _ _ (no_mark (below (mark 8 9))
      arrow_8 refl) (no_declaration (below (mark 8 9)) arrow_8 refl refl refl) (ExprAt.expr _ (EndedListAt.last _ (assign_up 254
      (AssignAt.cond _ (CondAt.test _ (BinaryAt.binary _ _ (ListedAt.operand _ (OperandAt.lhs _ (LHSAt.base _ _ (BaseAt.primary _
      (PrimaryAt.paren (below (mark 8 9)) _ (mark 10 11) (marked arrow_8 refl refl) (ClosedExprAt.closed _ (ExprAt.expr _ (EndedListAt.last
      _ (assign_up 253 (AssignAt.cond _ (CondAt.test _ (BinaryAt.binary _ _ (ListedAt.operand _ (OperandAt.lhs _ (LHSAt.base _ _
      (BaseAt.primary _ (PrimaryAt.number (number 9 10) (kinded arrow_9 refl))) Chain.none refl))) JoinedAt.none (fits_lhs _) tt refl))))))
      (record { next = (mark 10 11); read = arrow_10_operator; closed = refl })) (marked arrow_10_operator refl refl))) Chain.none refl)))
      JoinedAt.none (fits_lhs _) tt refl)))))) (record { next = (end_at 11); read = arrow_11_operator; closed = refl }) (SemiAt.left_out
      (end_at 11) arrow_11_operator (no_mark (end_at 11) arrow_11_operator refl (end_at 11)) refl)))) (closed_item (end_at 11) arrow_11 refl
      refl refl refl))) Chain.none);
  end = end_at 11;
  is_end = kinded arrow_11 refl;
}

-- a template with an expression
abbrev template_text : Bytes
template_text = codes "`${a}b`"

abbrev template_tree : Program
template_tree = record {
  goal = Script;
  items =
      (program_item_v.Item (item_v.Stmt (stmt_v.Expr (record {
        list = separated (assign_v.Cond (roll-Cond (record {
          test = (record {
            first =
                (operand_v.LHS (roll-LHS (record {
                  base = (base_v.Primary (primary_v.Template (record {
                    head = (piece 0 3);
                    more = (record {
                      expr =
                          (record {
                            list = separated (assign_v.Cond (roll-Cond (record {
                              test = (record {
                                first = (operand_v.LHS (roll-LHS (record {
                                  base =
                                      (base_v.Primary (primary_v.Name (word 3 4)));
                                  suffixes = [];
                                })));
                                more = [];
                              });
                              arms = None;
                            }))) None ∷ [];
                          });
                      next = (piece 4 7);
                    } ∷
                        []);
                  })));
                  suffixes = [];
                })));
            more = [];
          });
          arms = None;
        }))) None ∷ [];
      }) None))) ∷ [];
}

template_0 : IsAt template_text Operand 0 (piece 0 3)
unfolding lexing
template_0 = refl

template_3 : IsAt template_text Operand 3 (word 3 4)
unfolding lexing
template_3 = refl

template_4_operator : IsAt template_text Operator 4 (mark 4 5)
unfolding lexing
template_4_operator = refl

template_4_template : IsAt template_text Template 4 (piece 4 7)
unfolding lexing
template_4_template = refl

template_7 : IsAt template_text Operand 7 (end_at 7)
unfolding lexing
template_7 = refl

template_7_operator : IsAt template_text Operator 7 (end_at 7)
unfolding lexing
template_7_operator = refl

template_parses : Parses template_text template_tree
unfolding spelling
template_parses = record {
  last = 7;
  items =
      Chain.more _ _ (ScriptItemAt.item _ (ClosedItemAt.closed _ (item_up 255 (ItemAt.stmt _ (StmtAt.expr _ _ (no_mark (piece 0 3) template_0
      refl) (no_declaration (piece 0 3) template_0 refl refl refl) (ExprAt.expr _ (EndedListAt.last _ (assign_up 254 (AssignAt.cond _
      (CondAt.test _ (BinaryAt.binary _ _ (ListedAt.operand _ (OperandAt.lhs _ (LHSAt.base _ _ (BaseAt.primary _ (PrimaryAt.template _
      (TemplateAt.pieces (piece 0 3) _ (kinded template_0 refl) refl (PiecesAt.last _ (piece 4 7) (ClosedExprAt.closed _ (ExprAt.expr _
      (EndedListAt.last _ (assign_up 253 (AssignAt.cond _ (CondAt.test _ (BinaryAt.binary _ _ (ListedAt.operand _ (OperandAt.lhs _
      (LHSAt.base _ _ (BaseAt.primary _ (PrimaryAt.name (word 3 4) (named template_3 refl refl))) Chain.none refl))) JoinedAt.none (fits_lhs
      _) tt refl)))))) (record { next = (mark 4 5); read = template_4_operator; closed = refl })) (record {
        is = (kinded template_4_template
            refl);
        goes_on = refl;
      }) refl)))) Chain.none refl))) JoinedAt.none (fits_lhs _) tt refl)))))) (record {
        next = (end_at 7);
        read =
            template_7_operator;
        closed = refl;
      }) (SemiAt.left_out (end_at 7) template_7_operator (no_mark (end_at 7) template_7_operator refl
      (end_at 7)) refl)))) (closed_item (end_at 7) template_7 refl refl refl refl))) Chain.none;
  end = end_at 7;
  is_end = kinded template_7 refl;
}

-- each `new` takes the arguments that follow, the inner one first
abbrev news_text : Bytes
news_text = codes "new new a()()"

abbrev news_tree : Program
news_tree = record {
  goal = Script;
  items =
      (program_item_v.Item (item_v.Stmt (stmt_v.Expr (record {
        list = separated (assign_v.Cond (roll-Cond (record {
          test = (record {
            first =
                (operand_v.LHS (roll-LHS (record {
                  base = (base_v.New (word 0 3) (roll-LHS (record {
                    base = (base_v.New (word 4 7) (roll-LHS (record {
                      base = (base_v.Primary (primary_v.Name (word 8 9)));
                      suffixes = [];
                    })) (Some (record {
                      left = (mark 9 10);
                      list = [];
                      right = (mark 10
                          11);
                    })));
                    suffixes = [];
                  })) (Some (record { left = (mark 11 12); list = []; right = (mark 12 13) })));
                  suffixes = [];
                })));
            more = [];
          });
          arms = None;
        }))) None ∷ [];
      }) None))) ∷ [];
}

news_0 : IsAt news_text Operand 0 (word 0 3)
unfolding lexing
news_0 = refl

news_4 : IsAt news_text Operand 3 (word 4 7)
unfolding lexing
news_4 = refl

news_8 : IsAt news_text Operand 7 (word 8 9)
unfolding lexing
news_8 = refl

news_9_operator : IsAt news_text Operator 9 (mark 9 10)
unfolding lexing
news_9_operator = refl

news_10_operator : IsAt news_text Operator 10 (mark 10 11)
unfolding lexing
news_10_operator = refl

news_11_operator : IsAt news_text Operator 11 (mark 11 12)
unfolding lexing
news_11_operator = refl

news_12_operator : IsAt news_text Operator 12 (mark 12 13)
unfolding lexing
news_12_operator = refl

news_13 : IsAt news_text Operand 13 (end_at 13)
unfolding lexing
news_13 = refl

news_13_operator : IsAt news_text Operator 13 (end_at 13)
unfolding lexing
news_13_operator = refl

news_parses : Parses news_text news_tree
unfolding spelling
news_parses = record {
  last = 13;
  items =
      Chain.more _ _ (ScriptItemAt.item _ (ClosedItemAt.closed _ (item_up 255 (ItemAt.stmt _ (StmtAt.expr _ _ (no_mark (word 0 3) news_0 refl)
      (no_declaration (word 0 3) news_0 refl refl refl) (ExprAt.expr _ (EndedListAt.last _ (assign_up 254 (AssignAt.cond _ (CondAt.test _
      (BinaryAt.binary _ _ (ListedAt.operand _ (OperandAt.lhs _ (LHSAt.base _ _ (BaseAt.new _ (new_up 253 (NewAt.with_args (word 0 3) _ _
      (worded news_0 refl refl) (CalleeAt.base _ _ (BaseAt.new _ (new_up 252 (NewAt.with_args (word 4 7) _ _ (worded news_4 refl refl)
      (CalleeAt.base _ _ (BaseAt.primary _ (PrimaryAt.name (word 8 9) (named news_8 refl refl))) Chain.none refl (record {
        no_dot = no_mark
            (mark 9 10) news_9_operator refl;
        no_index = no_mark (mark 9 10) news_9_operator refl;
        no_template = no_kind (mark 9 10)
            news_9_operator refl;
      })) (ArgsAt.args (mark 9 10) _ (mark 10 11) (marked news_9_operator refl refl) ListAt.none (marked
      news_10_operator refl refl))))) Chain.none refl (record {
        no_dot = no_mark (mark 11 12) news_11_operator refl;
        no_index = no_mark
            (mark 11 12) news_11_operator refl;
        no_template = no_kind (mark 11 12) news_11_operator refl;
      })) (ArgsAt.args (mark 11 12) _ (mark 12
      13) (marked news_11_operator refl refl) ListAt.none (marked news_12_operator refl refl))))) Chain.none refl))) JoinedAt.none (fits_lhs
      _) tt refl)))))) (record { next = (end_at 13); read = news_13_operator; closed = refl }) (SemiAt.left_out (end_at 13) news_13_operator
      (no_mark (end_at 13) news_13_operator refl (end_at 13)) refl)))) (closed_item (end_at 13) news_13 refl refl refl refl))) Chain.none;
  end = end_at 13;
  is_end = kinded news_13 refl;
}

-- an array that begins with a hole
abbrev hole_text : Bytes
hole_text = codes "[, a,];"

abbrev hole_tree : Program
hole_tree = record {
  goal = Script;
  items =
      (program_item_v.Item (item_v.Stmt (stmt_v.Expr (record {
        list = separated (assign_v.Cond (roll-Cond (record {
          test = (record {
            first =
                (operand_v.LHS (roll-LHS (record {
                  base = (base_v.Primary (primary_v.Array (mark 0 1) (separated None (Some (mark 1 2)) ∷ (separated
                      (Some (record {
                        spread = None;
                        value = (assign_v.Cond (roll-Cond (record {
                          test = (record {
                            first = (operand_v.LHS (roll-LHS (record {
                              base = (base_v.Primary (primary_v.Name (word 3 4)));
                              suffixes = [];
                            })));
                            more = [];
                          });
                          arms = None;
                        })));
                      })) (Some (mark 4 5)) ∷ []))
                      (mark 5 6)));
                  suffixes = [];
                })));
            more = [];
          });
          arms = None;
        }))) None ∷ [];
      }) (Some (mark 6 7))))) ∷ [];
}

hole_0 : IsAt hole_text Operand 0 (mark 0 1)
unfolding lexing
hole_0 = refl

hole_1_operator : IsAt hole_text Operator 1 (mark 1 2)
unfolding lexing
hole_1_operator = refl

hole_3 : IsAt hole_text Operand 2 (word 3 4)
unfolding lexing
hole_3 = refl

hole_4_operator : IsAt hole_text Operator 4 (mark 4 5)
unfolding lexing
hole_4_operator = refl

hole_5_operator : IsAt hole_text Operator 5 (mark 5 6)
unfolding lexing
hole_5_operator = refl

hole_6_operator : IsAt hole_text Operator 6 (mark 6 7)
unfolding lexing
hole_6_operator = refl

hole_7 : IsAt hole_text Operand 7 (end_at 7)
unfolding lexing
hole_7 = refl

hole_parses : Parses hole_text hole_tree
unfolding spelling
hole_parses = record {
  last = 7;
  items =
      Chain.more _ _ (ScriptItemAt.item _ (ClosedItemAt.closed _ (item_up 255 (ItemAt.stmt _ (StmtAt.expr _ _ (no_mark (mark 0 1) hole_0 refl)
      (no_declaration (mark 0 1) hole_0 refl refl refl) (ExprAt.expr _ (EndedListAt.last _ (assign_up 254 (AssignAt.cond _ (CondAt.test _
      (BinaryAt.binary _ _ (ListedAt.operand _ (OperandAt.lhs _ (LHSAt.base _ _ (BaseAt.primary _ (PrimaryAt.array (mark 0 1) _ (mark 5 6)
      (marked hole_0 refl refl) (ElementsAt.hole (mark 1 2) _ (marked hole_1_operator refl refl) (ElementsAt.more _ (mark 4 5) _
      (ArgumentAt.plain _ (assign_up 253 (AssignAt.cond _ (CondAt.test _ (BinaryAt.binary _ _ (ListedAt.operand _ (OperandAt.lhs _
      (LHSAt.base _ _ (BaseAt.primary _ (PrimaryAt.name (word 3 4) (named hole_3 refl refl))) Chain.none refl))) JoinedAt.none (fits_lhs _)
      tt refl))))) (marked hole_4_operator refl refl) ElementsAt.none)) (marked hole_5_operator refl refl))) Chain.none refl)))
      JoinedAt.none (fits_lhs _) tt refl)))))) (record { next = (mark 6 7); read = hole_6_operator; closed = refl }) (SemiAt.written (mark 6
      7) (marked hole_6_operator refl refl))))) (closed_item (end_at 7) hole_7 refl refl refl refl))) Chain.none;
  end = end_at 7;
  is_end = kinded hole_7 refl;
}

-- one statement: an operator on a new line goes on with an expression
abbrev regex_text : Bytes
regex_text = codes "a = /b/\n- c"

abbrev regex_tree : Program
regex_tree = record {
  goal = Script;
  items =
      (program_item_v.Item (item_v.Stmt (stmt_v.Expr (record {
        list = separated (assign_v.Set (target_v.Name (word 0 1)) (mark 2 3)
            (assign_v.Cond (roll-Cond (record {
              test = (record {
                first = (operand_v.LHS (roll-LHS (record {
                  base = (base_v.Primary
                      (primary_v.Regex (regex 4 7)));
                  suffixes = [];
                })));
                more = (record {
                  op = (below (mark 8 9));
                  operand = (operand_v.LHS (roll-LHS
                      (record { base = (base_v.Primary (primary_v.Name (word 10 11))); suffixes = [] })));
                } ∷ []);
              });
              arms = None;
            })))) None ∷ [];
      }) None)))
      ∷ [];
}

regex_0 : IsAt regex_text Operand 0 (word 0 1)
unfolding lexing
regex_0 = refl

regex_2_operator : IsAt regex_text Operator 1 (mark 2 3)
unfolding lexing
regex_2_operator = refl

regex_4 : IsAt regex_text Operand 3 (regex 4 7)
unfolding lexing
regex_4 = refl

regex_8_operator : IsAt regex_text Operator 7 (below (mark 8 9))
unfolding lexing
regex_8_operator = refl

regex_10 : IsAt regex_text Operand 9 (word 10 11)
unfolding lexing
regex_10 = refl

regex_11 : IsAt regex_text Operand 11 (end_at 11)
unfolding lexing
regex_11 = refl

regex_11_operator : IsAt regex_text Operator 11 (end_at 11)
unfolding lexing
regex_11_operator = refl

regex_parses : Parses regex_text regex_tree
unfolding spelling
regex_parses = record {
  last = 11;
  items =
      Chain.more _ _ (ScriptItemAt.item _ (ClosedItemAt.closed _ (item_up 255 (ItemAt.stmt _ (StmtAt.expr _ _ (no_mark (word 0 1) regex_0
      refl) (no_declaration (word 0 1) regex_0 refl refl refl) (ExprAt.expr _ (EndedListAt.last _ (assign_up 254 (AssignAt.set _ (mark 2 3)
      _ (TargetAt.simple _ (SimpleTargetAt.name (word 0 1) (named regex_0 refl refl))) (marked regex_2_operator refl refl) (assign_up 253
      (AssignAt.cond _ (CondAt.test _ (BinaryAt.binary _ _ (ListedAt.operand _ (OperandAt.lhs _ (LHSAt.base _ _ (BaseAt.primary _
      (PrimaryAt.regex (regex 4 7) (kinded regex_4 refl))) Chain.none refl))) (JoinedAt.more (below (mark 8 9)) _ _ (OperatorAt.mark (below
      (mark 8 9)) (one_marked regex_8_operator refl refl)) (ListedAt.operand _ (OperandAt.lhs _ (LHSAt.base _ _ (BaseAt.primary _
      (PrimaryAt.name (word 10 11) (named regex_10 refl refl))) Chain.none refl))) JoinedAt.none) (fits_lhs _) ((fits_lhs _), tt)
      refl)))))))) (record { next = (end_at 11); read = regex_11_operator; closed = refl }) (SemiAt.left_out (end_at 11) regex_11_operator
      (no_mark (end_at 11) regex_11_operator refl (end_at 11)) refl)))) (closed_item (end_at 11) regex_11 refl refl refl refl))) Chain.none;
  end = end_at 11;
  is_end = kinded regex_11 refl;
}

-- a target in two pairs of parentheses
abbrev paired_text : Bytes
paired_text = codes "((a)) = 1;"

abbrev paired_tree : Program
paired_tree = record {
  goal = Script;
  items =
      (program_item_v.Item (item_v.Stmt (stmt_v.Expr (record {
        list = separated (assign_v.Set (target_v.ParenName (record {
          opened = (mark 0 1) ∷ (mark 1 2) ∷ [];
          item = (word 2 3);
          closed = (mark 3 4) ∷ (mark 4 5) ∷ [];
        })) (mark 6 7)
            (assign_v.Cond (roll-Cond (record {
              test = (record {
                first = (operand_v.LHS (roll-LHS (record { base = (base_v.Primary (primary_v.Literal (number 8 9))); suffixes = [] })));
                more = [];
              });
              arms = None;
            })))) None ∷ [];
      }) (Some (mark 9 10)))))
      ∷ [];
}

paired_0 : IsAt paired_text Operand 0 (mark 0 1)
unfolding lexing
paired_0 = refl

paired_1 : IsAt paired_text Operand 1 (mark 1 2)
unfolding lexing
paired_1 = refl

paired_2 : IsAt paired_text Operand 2 (word 2 3)
unfolding lexing
paired_2 = refl

paired_3_operator : IsAt paired_text Operator 3 (mark 3 4)
unfolding lexing
paired_3_operator = refl

paired_4_operator : IsAt paired_text Operator 4 (mark 4 5)
unfolding lexing
paired_4_operator = refl

paired_6_operator : IsAt paired_text Operator 5 (mark 6 7)
unfolding lexing
paired_6_operator = refl

paired_8 : IsAt paired_text Operand 7 (number 8 9)
unfolding lexing
paired_8 = refl

paired_9_operator : IsAt paired_text Operator 9 (mark 9 10)
unfolding lexing
paired_9_operator = refl

paired_10 : IsAt paired_text Operand 10 (end_at 10)
unfolding lexing
paired_10 = refl

paired_parses : Parses paired_text paired_tree
unfolding spelling
paired_parses = record {
  last = 10;
  items =
      Chain.more _ _ (ScriptItemAt.item _ (ClosedItemAt.closed _ (item_up 255 (ItemAt.stmt _ (StmtAt.expr _ _ (no_mark (mark 0 1) paired_0
      refl) (no_declaration (mark 0 1) paired_0 refl refl refl) (ExprAt.expr _ (EndedListAt.last _ (assign_up 254 (AssignAt.set _ (mark 6 7)
      _ (TargetAt.simple _ (SimpleTargetAt.paren_name _ (ParenthesisedAt.parenthesised (mark 0 1) _ _ _ (marked paired_0 refl refl)
      (Chain.more _ _ (ChainedMarkAt.mark (mark 1 2) (marked paired_1 refl refl)) Chain.none) (TargetNameAt.name (word 2 3) (named paired_2 refl
      refl)) (Chain.more _ _ (ChainedMarkAt.mark (mark 3 4) (marked paired_3_operator refl refl)) (Chain.more _ _ (ChainedMarkAt.mark (mark 4 5)
      (marked paired_4_operator refl refl)) Chain.none)) refl))) (marked paired_6_operator refl refl) (assign_up 253
      (AssignAt.cond _ (CondAt.test _ (BinaryAt.binary _ _ (ListedAt.operand _ (OperandAt.lhs _ (LHSAt.base _ _ (BaseAt.primary _
      (PrimaryAt.number (number 8 9) (kinded paired_8 refl))) Chain.none refl))) JoinedAt.none (fits_lhs _) tt refl)))))))) (record {
        next =
            (mark 9 10);
        read = paired_9_operator;
        closed = refl;
      }) (SemiAt.written (mark 9 10) (marked paired_9_operator refl refl)))))
      (closed_item (end_at 10) paired_10 refl refl refl refl))) Chain.none;
  end = end_at 10;
  is_end = kinded paired_10 refl;
}

-- Statements and items that are read stand in the text by the grammar.
use Rattle.std.proofs.Common.{◌≡◌, ℕ, Bool, true, false, List, [], ◌∷◌, ◌++◌, Option, Some, None, refl, subst}
use Rattle.std.specs.Prelude.{codes}
use Rattle.es_tree.specs.declared.tokens.Token.{Token}
use Rattle.es_tree.specs.declared.tokens.Goal.TheVariants.{Operand, Operator}
use Rattle.es_tree.specs.declared.parts.Else.{Else}
use Rattle.es_tree.specs.declared.parts.Finally.{Finally}
use Rattle.es_tree.specs.declared.cycle.Case.{Case}
use Rattle.es_tree.specs.declared.cycle.Case.TheVariants as case_v
use Rattle.es_tree.specs.declared.cycle.Item.{Item}
use Rattle.es_tree.specs.declared.cycle.Stmt.{Stmt}
use Rattle.es_tree.specs.declared.cycle.Stmt.TheVariants as stmt_v
use Rattle.es_grammar.specs.declared.places.Context.{Context}
use Rattle.es_grammar.specs.declared.places.Stop.{Stop}
use Rattle.es_grammar.specs.Contexts.{bracketed}
use Rattle.es_grammar.specs.Reading.{Bytes, MarkAt, NameAt, WordAt}
use Rattle.es_grammar.specs.Semicolons.{stop, other}
use Rattle.es_grammar.specs.Lists.{Chain}
use Rattle.es_grammar.specs.Rules.{Rules}
use Rattle.es_grammar.specs.Functions.{ClosedItemAt}
use Rattle.es_grammar.specs.Expressions.{Expr, ExprAt}
use Rattle.es_grammar.specs.Semicolons.{IsClosed}
use Rattle.es_grammar.specs.Statements.{BeginsAsyncFunction, BeginsNoDeclaration, CaseAt, CasesAt, CatchParameterAt, ElseAt, ExprOnLineAt, FinallyAt, ItemAt, LabelAt, OptionalFinallyAt, StmtAt}
use Rattle.es_reader.specs.Basics.{token, is_mark, is_word, is_name, is_one_word, mark, word}
use Rattle.es_reader.specs.Readers.{Readers}
use Rattle.es_reader.specs.Semis.{holds, is_closed, read_semi, read_free_semi}
use Rattle.es_reader.specs.Functions.{begins_async_function, body_behind, read_bind, read_body, read_class, read_func}
use Rattle.es_reader.specs.Expressions.{read_expr, read_closed_expr}
use Rattle.es_reader.specs.Statements.{begins_declaration, begins_value, block_stmt, break_stmt, cases_behind, cases_with_default, catch_parameter, class_item, continue_stmt, debugger_stmt, declaration_item, do_stmt, else_behind, else_by, expr_stmt, finally_behind, finally_by, for_behind, for_stmt, func_item, if_stmt, is_label, item_by, jump_stmt, label_by, labelled_stmt, lex_item, name_stmt, other_stmt, plain_stmt, read_case, read_case_run, read_cases, read_catch_parameter, read_clause_items, read_condition, read_default_case, read_else, read_ended_expr, read_expr_on_line, read_item, read_label, read_lex, read_optional_finally, read_stmt, return_alone, return_stmt, return_value, some_finally, stmt_by, stmt_item, switch_stmt, throw_stmt, try_by, try_catch, try_finally, try_stmt, var_behind, var_stmt, while_stmt, with_stmt, word_stmt}
use Rattle.es_reader.specs.Soundness.{AreSound, Sound, SoundEnded}
use Rattle.es_reader.proofs.Steps.{bind_some, both, chosen, when, else, given, is_false, mark_there, marked, named, neither, no_mark, no_word, no_word_of, not_both, nothing_there, read_there, same_token, some_is, there_read, word_tells, word_there, worded}
use Rattle.es_reader.proofs.Lists.{chain_sound}
use Rattle.es_reader.proofs.Semis.{closed_sound, free_semi_sound, semi_sound}
use Rattle.es_reader.proofs.Functions.{bind_sound}
use Rattle.es_reader.proofs.Classes.{body_behind_sound, body_sound, class_sound, closed_item_sound, func_sound}
use Rattle.es_reader.proofs.Expressions.{closed_expr_sound, expr_sound}
use Rattle.es_reader.proofs.Declarations.{condition_sound, for_behind_sound, lex_sound, var_behind_sound}

clause_items_sound : {text : Bytes} {g : Rules} {r : Readers} (s : AreSound text g r) (c : Context) (p : ℕ) (y : List Item × ℕ)
    → read_clause_items text r c p ≡ Some y → Chain (ClosedItemAt text g c) p y.0 y.1
unfolding read_clause_items
clause_items_sound {text} {g} {r} s c p y e = chain_sound text _ _ (ClosedItemAt text g c) (closed_item_sound s c) p y e

-- a clause that is no `default`
data PlainCaseAt (text : Bytes) (g : Rules) (c : Context) : ℕ → Case → ℕ → Type 0 where
  plain : {p q : ℕ} (t : Token) (x : Expr) (colon : Token) (xs : List Item) → CaseAt text g c p (case_v.Case t x colon xs) q
      → PlainCaseAt text g c p (case_v.Case t x colon xs) q

data DefaultCaseAt (text : Bytes) (g : Rules) (c : Context) : ℕ → Case → ℕ → Type 0 where
  default : {p q : ℕ} (t colon : Token) (xs : List Item) → CaseAt text g c p (case_v.Default t colon xs) q
      → DefaultCaseAt text g c p (case_v.Default t colon xs) q

case_sound : {text : Bytes} {g : Rules} {r : Readers} (s : AreSound text g r) (c : Context) → Sound (PlainCaseAt text g c) (read_case text r c)
unfolding read_case
case_sound {text} {g} {r} s c p y e =
    let t = bind_some (word text Operand (codes "case") p) _ _ e in
    let x = bind_some (read_closed_expr text r (bracketed c) t.0.end) _ _ t.2 in
    let colon = bind_some (mark text Operator (codes ":") x.0.1) _ _ x.2 in
    let xs = bind_some (read_clause_items text r c colon.0.end) _ _ colon.2 in
    given (PlainCaseAt text g c p) _ _ y xs.2
    (plain t.0 x.0.0 colon.0 xs.0.0 (CaseAt.case t.0 x.0.0 colon.0 xs.0.0 (word_there t.1) (closed_expr_sound s (bracketed c) _ _ x.1)
    (mark_there colon.1) (clause_items_sound s c _ _ xs.1)))

default_case_sound : {text : Bytes} {g : Rules} {r : Readers} (s : AreSound text g r) (c : Context) (p : ℕ) (t : Token)
    → WordAt text Operand (codes "default") p t → (y : Case × ℕ) → read_default_case text r c t ≡ Some y → DefaultCaseAt text g c p y.0 y.1
unfolding read_default_case
default_case_sound {text} {g} {r} s c p t w y e =
    let colon = bind_some (mark text Operator (codes ":") t.end) _ _ e in
    let xs = bind_some (read_clause_items text r c colon.0.end) _ _ colon.2 in
    given (DefaultCaseAt text g c p) _ _ y xs.2
    (default t colon.0 xs.0.0 (CaseAt.default t colon.0 xs.0.0 w (mark_there colon.1) (clause_items_sound s c _ _ xs.1)))

case_run_sound : {text : Bytes} {g : Rules} {r : Readers} (s : AreSound text g r) (c : Context) (p : ℕ) (y : List Case × ℕ)
    → read_case_run text r c p ≡ Some y → Chain (PlainCaseAt text g c) p y.0 y.1
unfolding read_case_run
case_run_sound {text} {g} {r} s c p y e = chain_sound text _ _ (PlainCaseAt text g c) (case_sound s c) p y e

case_joins : {text : Bytes} {g : Rules} {c : Context} (seen : Bool) (p : ℕ) (x : Case) (a : ℕ) → PlainCaseAt text g c p x a → (rest : List Case) (q : ℕ)
    → CasesAt text g c seen a rest q → CasesAt text g c seen p (x ∷ rest) q
case_joins seen p _ a (plain t x colon xs h) rest q k = CasesAt.case t x colon xs rest h k

default_joins : {text : Bytes} {g : Rules} {c : Context} (p : ℕ) (x : Case) (a : ℕ) → DefaultCaseAt text g c p x a → (rest : List Case) (q : ℕ)
    → CasesAt text g c true a rest q → CasesAt text g c false p (x ∷ rest) q
default_joins p _ a (default t colon xs h) rest q k = CasesAt.default t colon xs rest h k

run_joins : {text : Bytes} {g : Rules} {c : Context} (seen : Bool) (p : ℕ) (xs : List Case) (a : ℕ) → Chain (PlainCaseAt text g c) p xs a
    → (rest : List Case) (q : ℕ) → CasesAt text g c seen a rest q → CasesAt text g c seen p (xs ++ rest) q
run_joins seen p _ _ Chain.none rest q k = k
run_joins seen p _ a (Chain.more x xs h l) rest q k = case_joins seen p x _ h (xs ++ rest) q (run_joins seen _ xs a l rest q k)

run_alone : {text : Bytes} {g : Rules} {c : Context} (seen : Bool) (p : ℕ) (xs : List Case) (a : ℕ) → Chain (PlainCaseAt text g c) p xs a
    → CasesAt text g c seen p xs a
run_alone seen p _ _ Chain.none = CasesAt.none
run_alone seen p _ a (Chain.more x xs h l) = case_joins seen p x _ h xs a (run_alone seen _ xs a l)

cases_sound : {text : Bytes} {g : Rules} {r : Readers} (s : AreSound text g r) (c : Context) (p : ℕ) (y : List Case × ℕ)
    → read_cases text r c p ≡ Some y → CasesAt text g c false p y.0 y.1
unfolding read_cases cases_behind cases_with_default
cases_sound {text} {g} {r} s c p y e =
    let xs = bind_some (read_case_run text r c p) _ _ e in
    let run = case_run_sound s c p _ xs.1 in
    let t = bind_some (token text Operand xs.0.1) _ _ xs.2 in
    elim (chosen (is_word text (codes "default") t.0) (cases_with_default text r c xs.0.0 t.0) (Some (xs.0.0, xs.0.1)) _ t.2) [
      | when h f ↦ let x = bind_some (read_default_case text r c t.0) _ _ f in
          let behind = bind_some (read_case_run text r c x.0.1) _ _ x.2 in
          given (CasesAt text g c false p) _ _ y behind.2
          (run_joins false p xs.0.0 xs.0.1 run _ _
          (default_joins xs.0.1 x.0.0 x.0.1 (default_case_sound s c xs.0.1 t.0 (worded t.1 h) _ x.1) behind.0.0 behind.0.1
          (run_alone true _ _ _ (case_run_sound s c _ _ behind.1))))
      | else h f ↦ given (CasesAt text g c false p) _ _ y f (run_alone false p xs.0.0 xs.0.1 run)
    ]

else_by_sound : {text : Bytes} {g : Rules} {r : Readers} (s : AreSound text g r) (c : Context) (p : ℕ) (o : Option Token) → token text Operand p ≡ o
    → (y : Option (Else Stmt) × ℕ) → else_by text r c p o ≡ Some y → ElseAt text g c p y.0 y.1
unfolding else_behind
else_by_sound {text} {g} {r} s c p None at y e =
    given (ElseAt text g c p) _ _ y e (ElseAt.none (λ u k. nothing_there text Operand p at u k.is.read))
else_by_sound {text} {g} {r} s c p (Some t) at y e =
    elim (chosen (is_word text (codes "else") t) (else_behind r c t) (Some (None, p)) _ e) [
      | when h f ↦ let x = bind_some (r.stmt c t.end) _ _ f in
          given (ElseAt text g c p) _ _ y x.2 (ElseAt.word t x.0.0 (worded at h) (s.stmt c _ _ x.1))
      | else h f ↦ given (ElseAt text g c p) _ _ y f (ElseAt.none (no_word at h))
    ]

else_sound : {text : Bytes} {g : Rules} {r : Readers} (s : AreSound text g r) (c : Context) → Sound (ElseAt text g c) (read_else text r c)
unfolding read_else
else_sound s c p y e = else_by_sound s c p _ refl y e

label_by_sound : (text : Bytes) (c : Context) (p : ℕ) (o : Option Token) → token text Operand p ≡ o → (y : Option Token × ℕ) → label_by text c p o ≡ y
    → LabelAt text c p y.0 y.1
label_by_sound text c p None at y e = subst (λ (z : Option Token × ℕ). LabelAt text c p z.0 z.1) e LabelAt.none
label_by_sound text c p (Some t) at y e = elim (chosen (is_label text c t) (Some t, t.end) (None, p) y e) [
  | when h f ↦ let b = both _ _ h in
      subst (λ (z : Option Token × ℕ). LabelAt text c p z.0 z.1) f (LabelAt.name t (named at b.0) (is_false _ b.1))
  | else h f ↦ subst (λ (z : Option Token × ℕ). LabelAt text c p z.0 z.1) f LabelAt.none
]

label_sound : (text : Bytes) (c : Context) → Sound (LabelAt text c) (read_label text c)
unfolding read_label
label_sound text c p y e = label_by_sound text c p _ refl y (some_is _ _ e)

-- an Expr, and that the token behind it closes it
EndedExprAt : Bytes → Rules → Context → ℕ → Expr → Stop → Type 0
EndedExprAt text g c p x z = ExprAt text g (bracketed c) p x z × IsClosed text z

ended_expr_sound : {text : Bytes} {g : Rules} {r : Readers} (s : AreSound text g r) (c : Context) → SoundEnded (EndedExprAt text g c) (read_ended_expr text r c)
unfolding read_ended_expr EndedExprAt
ended_expr_sound {text} {g} {r} s c p y e =
    let x = bind_some (read_expr text r (bracketed c) p) _ _ e in
    elim (chosen (is_closed text x.0.1) (Some x.0) None _ x.2) [
      | when h f ↦ given (EndedExprAt text g c p) _ _ y f (expr_sound s (bracketed c) p _ x.1, closed_sound text _ h)
      | else h f ↦ absurd cc
    ]

expr_on_line_sound : {text : Bytes} {g : Rules} {r : Readers} (s : AreSound text g r) (c : Context)
    → SoundEnded (ExprOnLineAt text g c) (read_expr_on_line text r c)
unfolding read_expr_on_line EndedExprAt
expr_on_line_sound {text} {g} {r} s c p y e =
    let t = bind_some (token text Operand p) _ _ e in
    elim (chosen t.0.newline None (read_ended_expr text r c p) _ t.2) [
      | when h f ↦ absurd cc
      | else h f ↦ let x = ended_expr_sound s c p y f in ExprOnLineAt.expr y.0 t.0 (read_there _ _ _ _ t.1) h x.0 x.1
    ]

catch_parameter_sound : {text : Bytes} {g : Rules} {r : Readers} (s : AreSound text g r) (c : Context)
    → Sound (CatchParameterAt text g c) (read_catch_parameter text r c)
unfolding read_catch_parameter catch_parameter
catch_parameter_sound {text} {g} {r} s c p y e =
    let t = bind_some (token text Operand p) _ _ e in
    elim (chosen (is_mark text (codes "(") t.0) (catch_parameter text r c t.0) (Some (None, p)) _ t.2) [
      | when h f ↦ let x = bind_some (read_bind text r (bracketed c) t.0.end) _ _ f in
          let right = bind_some (mark text Operator (codes ")") x.0.1) _ _ x.2 in
          given (CatchParameterAt text g c p) _ _ y right.2
          (CatchParameterAt.bind t.0 x.0.0 right.0 (marked t.1 h) (bind_sound s (bracketed c) _ _ x.1) (mark_there right.1))
      | else h f ↦ given (CatchParameterAt text g c p) _ _ y f CatchParameterAt.none
    ]

finally_behind_sound : {text : Bytes} {g : Rules} {r : Readers} (s : AreSound text g r) (c : Context) (p : ℕ) (t : Token)
    → WordAt text Operand (codes "finally") p t → (y : Finally Item × ℕ) → finally_behind text r c t ≡ Some y → FinallyAt text g c p y.0 y.1
unfolding finally_behind
finally_behind_sound {text} {g} {r} s c p t w y e =
    let x = bind_some (read_body text r c t.end) _ _ e in given (FinallyAt text g c p) _ _ y x.2 (FinallyAt.finally t x.0.0 w (body_sound s c _ _ x.1))

finally_by_sound : {text : Bytes} {g : Rules} {r : Readers} (s : AreSound text g r) (c : Context) (p : ℕ) (o : Option Token) → token text Operand p ≡ o
    → (y : Option (Finally Item) × ℕ) → finally_by text r c p o ≡ Some y → OptionalFinallyAt text g c p y.0 y.1
unfolding some_finally
finally_by_sound {text} {g} {r} s c p None at y e = given (OptionalFinallyAt text g c p) _ _ y e OptionalFinallyAt.none
finally_by_sound {text} {g} {r} s c p (Some t) at y e =
    elim (chosen (is_word text (codes "finally") t) (some_finally text r c t) (Some (None, p)) _ e) [
      | when h f ↦ let x = bind_some (finally_behind text r c t) _ _ f in
          given (OptionalFinallyAt text g c p) _ _ y x.2 (OptionalFinallyAt.some x.0.0 (finally_behind_sound s c p t (worded at h) _ x.1))
      | else h f ↦ given (OptionalFinallyAt text g c p) _ _ y f OptionalFinallyAt.none
    ]

optional_finally_sound : {text : Bytes} {g : Rules} {r : Readers} (s : AreSound text g r) (c : Context)
    → Sound (OptionalFinallyAt text g c) (read_optional_finally text r c)
unfolding read_optional_finally
optional_finally_sound s c p y e = finally_by_sound s c p _ refl y e

-- Statements, each from its first token on

Behind : Bytes → Rules → Context → ℕ → Option (Stmt × ℕ) → Type 0
Behind text g c p o = (y : Stmt × ℕ) → o ≡ Some y → StmtAt text g c p y.0 y.1

try_stmt_sound : {text : Bytes} {g : Rules} {r : Readers} (s : AreSound text g r) (c : Context) (p : ℕ) (t : Token)
    → WordAt text Operand (codes "try") p t → Behind text g c p (try_stmt text r c t)
unfolding try_stmt try_by try_catch try_finally Behind
try_stmt_sound {text} {g} {r} s c p t w y e =
    let body = bind_some (read_body text r c t.end) _ _ e in
    let u = bind_some (token text Operand body.0.1) _ _ body.2 in
    let block = body_sound s c _ _ body.1 in
    elim (chosen (is_word text (codes "catch") u.0) (try_catch text r c t body.0.0 u.0) _ _ u.2) [
      | when h f ↦ let x = bind_some (read_catch_parameter text r c u.0.end) _ _ f in
          let handler = bind_some (read_body text r c x.0.1) _ _ x.2 in
          let last = bind_some (read_optional_finally text r c handler.0.1) _ _ handler.2 in
          given (StmtAt text g c p) _ _ y last.2
          (StmtAt.try_catch t body.0.0 u.0 x.0.0 handler.0.0 last.0.0 w block (worded u.1 h) (catch_parameter_sound s c _ _ x.1)
          (body_sound s c _ _ handler.1) (optional_finally_sound s c _ _ last.1))
      | else h f ↦ elim (chosen (is_word text (codes "finally") u.0) (try_finally text r c t body.0.0 u.0) None _ f) [
        | when i k ↦ let x = bind_some (finally_behind text r c u.0) _ _ k in
            given (StmtAt text g c p) _ _ y x.2 (StmtAt.try_finally t body.0.0 x.0.0 w block (finally_behind_sound s c _ u.0 (worded u.1 i) _ x.1))
        | else i k ↦ absurd cc
      ]
    ]

block_stmt_sound : {text : Bytes} {g : Rules} {r : Readers} (s : AreSound text g r) (c : Context) (p : ℕ) (t : Token)
    → MarkAt text Operand (codes "{") p t → Behind text g c p (block_stmt text r c t)
unfolding block_stmt Behind
block_stmt_sound {text} {g} {r} s c p t m y e =
    let x = bind_some (body_behind text r c t) _ _ e in given (StmtAt text g c p) _ _ y x.2 (StmtAt.block x.0.0 (body_behind_sound s c p t m _ x.1))

var_stmt_sound : {text : Bytes} {g : Rules} {r : Readers} (s : AreSound text g r) (c : Context) (p : ℕ) (t : Token)
    → WordAt text Operand (codes "var") p t → Behind text g c p (var_stmt text r c t)
unfolding var_stmt Behind
var_stmt_sound {text} {g} {r} s c p t w y e =
    let x = bind_some (var_behind text r (bracketed c) t) _ _ e in
    given (StmtAt text g c p) _ _ y x.2 (StmtAt.var x.0.0 (var_behind_sound s (bracketed c) p t w _ x.1))

if_stmt_sound : {text : Bytes} {g : Rules} {r : Readers} (s : AreSound text g r) (c : Context) (p : ℕ) (t : Token)
    → WordAt text Operand (codes "if") p t → Behind text g c p (if_stmt text r c t)
unfolding if_stmt Behind
if_stmt_sound {text} {g} {r} s c p t w y e =
    let x = bind_some (read_condition text r c t.end) _ _ e in
    let k = condition_sound s c _ _ x.1 in
    let body = bind_some (r.stmt c x.0.right.end) _ _ x.2 in
    let otherwise = bind_some (read_else text r c body.0.1) _ _ body.2 in
    given (StmtAt text g c p) _ _ y otherwise.2
    (StmtAt.«if» t x.0.left x.0.test x.0.right body.0.0 otherwise.0.0 w k.is_left k.is_test k.is_right (s.stmt c _ _ body.1)
    (else_sound s c _ _ otherwise.1))

for_stmt_sound : {text : Bytes} {g : Rules} {r : Readers} (s : AreSound text g r) (c : Context) (p : ℕ) (t : Token)
    → WordAt text Operand (codes "for") p t → Behind text g c p (for_stmt text r c t)
unfolding for_stmt Behind
for_stmt_sound {text} {g} {r} s c p t w y e =
    let x = bind_some (for_behind text r c t) _ _ e in given (StmtAt text g c p) _ _ y x.2 (StmtAt.for x.0.0 (for_behind_sound s c p t w _ x.1))

while_stmt_sound : {text : Bytes} {g : Rules} {r : Readers} (s : AreSound text g r) (c : Context) (p : ℕ) (t : Token)
    → WordAt text Operand (codes "while") p t → Behind text g c p (while_stmt text r c t)
unfolding while_stmt Behind
while_stmt_sound {text} {g} {r} s c p t w y e =
    let x = bind_some (read_condition text r c t.end) _ _ e in
    let k = condition_sound s c _ _ x.1 in
    let body = bind_some (r.stmt c x.0.right.end) _ _ x.2 in
    given (StmtAt text g c p) _ _ y body.2
    (StmtAt.while t x.0.left x.0.test x.0.right body.0.0 w k.is_left k.is_test k.is_right (s.stmt c _ _ body.1))

do_stmt_sound : {text : Bytes} {g : Rules} {r : Readers} (s : AreSound text g r) (c : Context) (p : ℕ) (t : Token)
    → WordAt text Operand (codes "do") p t → Behind text g c p (do_stmt text r c t)
unfolding do_stmt Behind
do_stmt_sound {text} {g} {r} s c p t w y e =
    let body = bind_some (r.stmt c t.end) _ _ e in
    let u = bind_some (word text Operand (codes "while") body.0.1) _ _ body.2 in
    let x = bind_some (read_condition text r c u.0.end) _ _ u.2 in
    let k = condition_sound s c _ _ x.1 in
    let semi = bind_some (read_free_semi text x.0.right.end) _ _ x.2 in
    given (StmtAt text g c p) _ _ y semi.2
    (StmtAt.do_while t body.0.0 u.0 x.0.left x.0.test x.0.right semi.0.0 w (s.stmt c _ _ body.1) (word_there u.1) k.is_left k.is_test k.is_right
    (free_semi_sound text _ _ semi.1))

continue_stmt_sound : (text : Bytes) (g : Rules) (c : Context) (p : ℕ) (t : Token)
    → WordAt text Operand (codes "continue") p t → Behind text g c p (continue_stmt text c t)
unfolding continue_stmt Behind
continue_stmt_sound text g c p t w y e =
    let label = bind_some (read_label text c t.end) _ _ e in
    let semi = bind_some (read_semi text (stop label.0.1 other)) _ _ label.2 in
    given (StmtAt text g c p) _ _ y semi.2 (StmtAt.continue t label.0.0 semi.0.0 w (label_sound text c _ _ label.1) (semi_sound text _ _ semi.1))

break_stmt_sound : (text : Bytes) (g : Rules) (c : Context) (p : ℕ) (t : Token)
    → WordAt text Operand (codes "break") p t → Behind text g c p (break_stmt text c t)
unfolding break_stmt Behind
break_stmt_sound text g c p t w y e =
    let label = bind_some (read_label text c t.end) _ _ e in
    let semi = bind_some (read_semi text (stop label.0.1 other)) _ _ label.2 in
    given (StmtAt text g c p) _ _ y semi.2 (StmtAt.break t label.0.0 semi.0.0 w (label_sound text c _ _ label.1) (semi_sound text _ _ semi.1))

return_stmt_sound : {text : Bytes} {g : Rules} {r : Readers} (s : AreSound text g r) (c : Context) (p : ℕ) (t : Token) → c.has_return ≡ true
    → WordAt text Operand (codes "return") p t → Behind text g c p (return_stmt text r c t)
unfolding return_stmt return_value return_alone Behind
return_stmt_sound {text} {g} {r} s c p t has w y e =
    elim (chosen (holds (begins_value text) (token text Operand t.end)) (return_value text r c t) (return_alone text t) _ e) [
      | when h f ↦ let x = bind_some (read_expr_on_line text r c t.end) _ _ f in
          let semi = bind_some (read_semi text x.0.1) _ _ x.2 in
          given (StmtAt text g c p) _ _ y semi.2 (StmtAt.return_value t x.0.0 semi.0.0 has w (expr_on_line_sound s c _ _ x.1) (semi_sound text _ _ semi.1))
      | else h f ↦ let semi = bind_some (read_semi text (stop t.end other)) _ _ f in
          given (StmtAt text g c p) _ _ y semi.2 (StmtAt.return t semi.0.0 has w (semi_sound text _ _ semi.1))
    ]

with_stmt_sound : {text : Bytes} {g : Rules} {r : Readers} (s : AreSound text g r) (c : Context) (p : ℕ) (t : Token)
    → WordAt text Operand (codes "with") p t → Behind text g c p (with_stmt text r c t)
unfolding with_stmt Behind
with_stmt_sound {text} {g} {r} s c p t w y e =
    let x = bind_some (read_condition text r c t.end) _ _ e in
    let k = condition_sound s c _ _ x.1 in
    let body = bind_some (r.stmt c x.0.right.end) _ _ x.2 in
    given (StmtAt text g c p) _ _ y body.2
    (StmtAt.with t x.0.left x.0.test x.0.right body.0.0 w k.is_left k.is_test k.is_right (s.stmt c _ _ body.1))

switch_stmt_sound : {text : Bytes} {g : Rules} {r : Readers} (s : AreSound text g r) (c : Context) (p : ℕ) (t : Token)
    → WordAt text Operand (codes "switch") p t → Behind text g c p (switch_stmt text r c t)
unfolding switch_stmt Behind
switch_stmt_sound {text} {g} {r} s c p t w y e =
    let x = bind_some (read_condition text r c t.end) _ _ e in
    let k = condition_sound s c _ _ x.1 in
    let brace = bind_some (mark text Operand (codes "{") x.0.right.end) _ _ x.2 in
    let cases = bind_some (read_cases text r c brace.0.end) _ _ brace.2 in
    let last = bind_some (mark text Operand (codes "}") cases.0.1) _ _ cases.2 in
    given (StmtAt text g c p) _ _ y last.2
    (StmtAt.switch t x.0.left x.0.test x.0.right brace.0 cases.0.0 last.0 w k.is_left k.is_test k.is_right (mark_there brace.1)
    (cases_sound s c _ _ cases.1) (mark_there last.1))

throw_stmt_sound : {text : Bytes} {g : Rules} {r : Readers} (s : AreSound text g r) (c : Context) (p : ℕ) (t : Token)
    → WordAt text Operand (codes "throw") p t → Behind text g c p (throw_stmt text r c t)
unfolding throw_stmt Behind
throw_stmt_sound {text} {g} {r} s c p t w y e =
    let x = bind_some (read_expr_on_line text r c t.end) _ _ e in
    let semi = bind_some (read_semi text x.0.1) _ _ x.2 in
    given (StmtAt text g c p) _ _ y semi.2 (StmtAt.throw t x.0.0 semi.0.0 w (expr_on_line_sound s c _ _ x.1) (semi_sound text _ _ semi.1))

debugger_stmt_sound : (text : Bytes) (g : Rules) (c : Context) (p : ℕ) (t : Token)
    → WordAt text Operand (codes "debugger") p t → Behind text g c p (debugger_stmt text t)
unfolding debugger_stmt Behind
debugger_stmt_sound text g c p t w y e =
    let semi = bind_some (read_semi text (stop t.end other)) _ _ e in
    given (StmtAt text g c p) _ _ y semi.2 (StmtAt.debugger t semi.0.0 w (semi_sound text _ _ semi.1))

-- no `{` stands here
NoBrace : Bytes → ℕ → Type 0
NoBrace text p = (u : Token) → MarkAt text Operand (codes "{") p u → ⊥

expr_stmt_sound : {text : Bytes} {g : Rules} {r : Readers} (s : AreSound text g r) (c : Context) (p : ℕ) → NoBrace text p → BeginsNoDeclaration text p
    → Behind text g c p (expr_stmt text r c p)
unfolding expr_stmt Behind NoBrace EndedExprAt
expr_stmt_sound {text} {g} {r} s c p brace declaration y e =
    let x = bind_some (read_ended_expr text r c p) _ _ e in
    let k = ended_expr_sound s c p _ x.1 in
    let semi = bind_some (read_semi text x.0.1) _ _ x.2 in
    given (StmtAt text g c p) _ _ y semi.2 (StmtAt.expr x.0.0 semi.0.0 brace declaration k.0 k.1 (semi_sound text _ _ semi.1))

async_begins : (text : Bytes) (p : ℕ) (b : BeginsAsyncFunction text p) → begins_async_function text b.word ≡ true
unfolding begins_async_function
async_begins text p b =
    rw (word_tells b.is_word, there_read text Operand b.word.end b.function b.is_function.is.read, word_tells b.is_function, b.on_line) refl

-- where no token of a declaration stands, no declaration begins
pub no_declaration : (text : Bytes) (p : ℕ) (t : Token) → token text Operand p ≡ Some t → begins_declaration text t ≡ false → BeginsNoDeclaration text p
unfolding begins_declaration
no_declaration text p t at h = let n = neither _ _ h in record {
  no_function = no_word_of (codes "function" ∷ codes "class" ∷ []) at n.0 (codes "function") refl;
  no_class = no_word_of (codes "function" ∷ codes "class" ∷ []) at n.0 (codes "class") refl;
  no_async = λ b. not_both (begins_async_function text t)
      (subst (λ z. begins_async_function text z ≡ true) (same_token text Operand p t b.word at b.is_word.is.read) (async_begins text p b)) n.1;
}

name_stmt_sound : {text : Bytes} {g : Rules} {r : Readers} (s : AreSound text g r) (c : Context) (p : ℕ) (t : Token) → NoBrace text p
    → BeginsNoDeclaration text p → NameAt text Operand c p t → Behind text g c p (name_stmt text r c p t)
unfolding name_stmt labelled_stmt Behind
name_stmt_sound {text} {g} {r} s c p t brace declaration n y e =
    let u = bind_some (token text Operator t.end) _ _ e in
    elim (chosen (is_mark text (codes ":") u.0) (labelled_stmt r c t u.0) (expr_stmt text r c p) _ u.2) [
      | when h f ↦ let body = bind_some (r.stmt c u.0.end) _ _ f in
          given (StmtAt text g c p) _ _ y body.2 (StmtAt.labelled t u.0 body.0.0 n (marked u.1 h) (s.stmt c _ _ body.1))
      | else h f ↦ expr_stmt_sound s c p brace declaration y f
    ]

plain_stmt_sound : {text : Bytes} {g : Rules} {r : Readers} (s : AreSound text g r) (c : Context) (p : ℕ) (t : Token) → token text Operand p ≡ Some t
    → NoBrace text p → Behind text g c p (plain_stmt text r c p t)
unfolding plain_stmt Behind
plain_stmt_sound {text} {g} {r} s c p t at brace y e =
    elim (chosen (begins_declaration text t) None _ _ e) [
      | when h f ↦ absurd cc
      | else h f ↦ elim (chosen (is_name text c t) (name_stmt text r c p t) (expr_stmt text r c p) _ f) [
        | when i k ↦ name_stmt_sound s c p t brace (no_declaration text p t at h) (named at i) y k
        | else i k ↦ expr_stmt_sound s c p brace (no_declaration text p t at h) y k
      ]
    ]

other_stmt_sound : {text : Bytes} {g : Rules} {r : Readers} (s : AreSound text g r) (c : Context) (p : ℕ) (t : Token) → token text Operand p ≡ Some t
    → NoBrace text p → Behind text g c p (other_stmt text r c p t)
unfolding other_stmt Behind
other_stmt_sound {text} {g} {r} s c p t at brace y e =
    elim (chosen (is_word text (codes "with") t) (with_stmt text r c t) _ _ e) [
      | when h f ↦ with_stmt_sound s c p t (worded at h) y f
      | else h f ↦ elim (chosen (is_word text (codes "switch") t) (switch_stmt text r c t) _ _ f) [
        | when h f ↦ switch_stmt_sound s c p t (worded at h) y f
        | else h f ↦ elim (chosen (is_word text (codes "throw") t) (throw_stmt text r c t) _ _ f) [
          | when h f ↦ throw_stmt_sound s c p t (worded at h) y f
          | else h f ↦ elim (chosen (is_word text (codes "try") t) (try_stmt text r c t) _ _ f) [
            | when h f ↦ try_stmt_sound s c p t (worded at h) y f
            | else h f ↦ elim (chosen (is_word text (codes "debugger") t) (debugger_stmt text t) (plain_stmt text r c p t) _ f) [
              | when h f ↦ debugger_stmt_sound text g c p t (worded at h) y f
              | else h f ↦ plain_stmt_sound s c p t at brace y f
            ]
          ]
        ]
      ]
    ]

jump_stmt_sound : {text : Bytes} {g : Rules} {r : Readers} (s : AreSound text g r) (c : Context) (p : ℕ) (t : Token) → token text Operand p ≡ Some t
    → NoBrace text p → Behind text g c p (jump_stmt text r c p t)
unfolding jump_stmt Behind
jump_stmt_sound {text} {g} {r} s c p t at brace y e =
    elim (chosen (is_word text (codes "continue") t) (continue_stmt text c t) _ _ e) [
      | when h f ↦ continue_stmt_sound text g c p t (worded at h) y f
      | else h f ↦ elim (chosen (is_word text (codes "break") t) (break_stmt text c t) _ _ f) [
        | when h f ↦ break_stmt_sound text g c p t (worded at h) y f
        | else h f ↦ elim (chosen (is_word text (codes "return") t) _ (other_stmt text r c p t) _ f) [
          | when h f ↦ elim (chosen c.has_return (return_stmt text r c t) None _ f) [
            | when has f ↦ return_stmt_sound s c p t has (worded at h) y f
            | else has f ↦ absurd cc
          ]
          | else h f ↦ other_stmt_sound s c p t at brace y f
        ]
      ]
    ]

word_stmt_sound : {text : Bytes} {g : Rules} {r : Readers} (s : AreSound text g r) (c : Context) (p : ℕ) (t : Token) → token text Operand p ≡ Some t
    → NoBrace text p → Behind text g c p (word_stmt text r c p t)
unfolding word_stmt Behind
word_stmt_sound {text} {g} {r} s c p t at brace y e =
    elim (chosen (is_word text (codes "var") t) (var_stmt text r c t) _ _ e) [
      | when h f ↦ var_stmt_sound s c p t (worded at h) y f
      | else h f ↦ elim (chosen (is_word text (codes "if") t) (if_stmt text r c t) _ _ f) [
        | when h f ↦ if_stmt_sound s c p t (worded at h) y f
        | else h f ↦ elim (chosen (is_word text (codes "for") t) (for_stmt text r c t) _ _ f) [
          | when h f ↦ for_stmt_sound s c p t (worded at h) y f
          | else h f ↦ elim (chosen (is_word text (codes "while") t) (while_stmt text r c t) _ _ f) [
            | when h f ↦ while_stmt_sound s c p t (worded at h) y f
            | else h f ↦ elim (chosen (is_word text (codes "do") t) (do_stmt text r c t) (jump_stmt text r c p t) _ f) [
              | when h f ↦ do_stmt_sound s c p t (worded at h) y f
              | else h f ↦ jump_stmt_sound s c p t at brace y f
            ]
          ]
        ]
      ]
    ]

stmt_by_sound : {text : Bytes} {g : Rules} {r : Readers} (s : AreSound text g r) (c : Context) (p : ℕ) (t : Token) → token text Operand p ≡ Some t
    → Behind text g c p (stmt_by text r c p t)
unfolding stmt_by Behind NoBrace
stmt_by_sound {text} {g} {r} s c p t at y e =
    elim (chosen (is_mark text (codes "{") t) (block_stmt text r c t) _ _ e) [
      | when h f ↦ block_stmt_sound s c p t (marked at h) y f
      | else h f ↦ elim (chosen (is_mark text (codes ";") t) (Some (stmt_v.Empty t, t.end)) (word_stmt text r c p t) _ f) [
        | when i k ↦ given (StmtAt text g c p) _ _ y k (StmtAt.empty t (marked at i))
        | else i k ↦ word_stmt_sound s c p t at (no_mark at h) y k
      ]
    ]

pub stmt_sound : {text : Bytes} {g : Rules} {r : Readers} (s : AreSound text g r) (c : Context) → Sound (StmtAt text g c) (read_stmt text r c)
unfolding read_stmt Behind
stmt_sound {text} {g} {r} s c p y e = let t = bind_some (token text Operand p) _ _ e in stmt_by_sound s c p t.0 t.1 y t.2

func_item_sound : {text : Bytes} {g : Rules} {r : Readers} (s : AreSound text g r) (c : Context) (p : ℕ) (y : Item × ℕ)
    → func_item text r c true p ≡ Some y → ItemAt text g c p y.0 y.1
unfolding func_item
func_item_sound {text} {g} {r} s c p y e =
    let x = bind_some (read_func text r c true p) _ _ e in given (ItemAt text g c p) _ _ y x.2 (ItemAt.func x.0.0 (func_sound s c true p _ x.1))

class_item_sound : {text : Bytes} {g : Rules} {r : Readers} (s : AreSound text g r) (c : Context) (p : ℕ) (y : Item × ℕ)
    → class_item text r c true p ≡ Some y → ItemAt text g c p y.0 y.1
unfolding class_item
class_item_sound {text} {g} {r} s c p y e =
    let x = bind_some (read_class text r c true p) _ _ e in given (ItemAt text g c p) _ _ y x.2 (ItemAt.class x.0.0 (class_sound s c true p _ x.1))

lex_item_sound : {text : Bytes} {g : Rules} {r : Readers} (s : AreSound text g r) (c : Context) (p : ℕ) (y : Item × ℕ)
    → lex_item text r c p ≡ Some y → ItemAt text g c p y.0 y.1
unfolding lex_item
lex_item_sound {text} {g} {r} s c p y e =
    let x = bind_some (read_lex text r (bracketed c) p) _ _ e in given (ItemAt text g c p) _ _ y x.2 (ItemAt.lex x.0.0 (lex_sound s (bracketed c) p _ x.1))

stmt_item_sound : {text : Bytes} {g : Rules} {r : Readers} (s : AreSound text g r) (c : Context) (p : ℕ) (t : Token) → token text Operand p ≡ Some t
    → (y : Item × ℕ) → stmt_item text r c p t ≡ Some y → ItemAt text g c p y.0 y.1
unfolding stmt_item Behind
stmt_item_sound {text} {g} {r} s c p t at y e =
    let x = bind_some (stmt_by text r c p t) _ _ e in given (ItemAt text g c p) _ _ y x.2 (ItemAt.stmt x.0.0 (stmt_by_sound s c p t at _ x.1))

pub item_sound : {text : Bytes} {g : Rules} {r : Readers} (s : AreSound text g r) (c : Context) → Sound (ItemAt text g c) (read_item text r c)
unfolding read_item item_by declaration_item
item_sound {text} {g} {r} s c p y e =
    let t = bind_some (token text Operand p) _ _ e in
    elim (chosen (is_one_word text (codes "let" ∷ codes "const" ∷ []) t.0) (lex_item text r c p) _ _ t.2) [
      | when h f ↦ lex_item_sound s c p y f
      | else h f ↦ elim (chosen (begins_declaration text t.0) (declaration_item text r c true p t.0) (stmt_item text r c p t.0) _ f) [
        | when i k ↦ elim (chosen (is_word text (codes "class") t.0) (class_item text r c true p) (func_item text r c true p) _ k) [
          | when j l ↦ class_item_sound s c p y l
          | else j l ↦ func_item_sound s c p y l
        ]
        | else i k ↦ stmt_item_sound s c p t.0 t.1 y k
      ]
    ]

-- Declared bindings and `for` that are read stand in the text by the grammar.
use Rattle.std.proofs.Common.{◌≡◌, ℕ, Bool, true, false, cond, not, ◌&&◌, List, Option, Some, None, refl, subst}
use Rattle.std.specs.Prelude.{codes}
use Rattle.std.specs.Str.{bytes_eq}
use Rattle.std.proofs.lemmas.Slice.Eq.{bytes_eq-Decides}
use Rattle.es_tree.specs.declared.tokens.Token.{Token}
use Rattle.es_tree.specs.declared.tokens.Goal.{Goal}
use Rattle.es_tree.specs.declared.tokens.Goal.TheVariants.{Operand, Operator}
use Rattle.es_tree.specs.declared.cycle.Bind.{Bind}
use Rattle.es_tree.specs.declared.cycle.Bind.TheVariants as bind_v
use Rattle.es_tree.specs.declared.cycle.Decl.{Decl}
use Rattle.es_tree.specs.declared.cycle.For.{For}
use Rattle.es_tree.specs.declared.cycle.Head.{Head}
use Rattle.es_tree.specs.declared.cycle.Head.TheVariants as head_v
use Rattle.es_tree.specs.declared.cycle.Init.{Init}
use Rattle.es_tree.specs.declared.cycle.Init.TheVariants as init_v
use Rattle.es_grammar.specs.declared.places.Context.{Context}
use Rattle.es_grammar.specs.declared.places.Stop.{Stop}
use Rattle.es_grammar.specs.Contexts.{bracketed, without_in}
use Rattle.es_grammar.specs.Reading.{Bytes, MarkAt, NameAt, OneOfWordsAt, WordAt, spelled}
use Rattle.es_grammar.specs.Semicolons.{stop, declared_name, other}
use Rattle.es_grammar.specs.Lists.{EndedListAt}
use Rattle.es_grammar.specs.Rules.{Rules}
use Rattle.es_grammar.specs.Functions.{BindAt, DeclAt}
use Rattle.es_grammar.specs.Expressions.{Expr, ClosedExprAt}
use Rattle.es_grammar.specs.Statements.{DeclaredAt, ForAt, ForAwaitAt, HeadAt, InitAt, Lex, LexAt, LexicalAt, OptionalExprAt, OptionalInitAt, Var, VarAt, declaration_words}
use Rattle.es_reader.specs.Basics.{token, is_mark, is_word, is_name, is_one_word, mark, word}
use Rattle.es_reader.specs.EndedLists.{comma_or_end}
use Rattle.es_reader.specs.Readers.{Readers}
use Rattle.es_reader.specs.Semis.{holds, read_semi}
use Rattle.es_reader.specs.Functions.{decl, decl_initialised, initializer_behind, read_bind}
use Rattle.es_reader.specs.Expressions.{read_expr, read_closed_expr}
use Rattle.es_reader.specs.Targets.{read_target}
use Rattle.es_reader.specs.Statements.{Binding, Condition, Decls, bind_head, binding, declared_behind, declared_by, decls_behind, for_await, for_behind, for_binding, for_binding_by, for_by, for_declared, for_expr, for_expr_by, for_in, for_loop, for_of, for_paren, for_paren_by, for_target, for_target_by, lex_behind, pattern_binding, read_binding, read_condition, read_declared, read_decls, read_head, read_lex, read_optional_expr, some_expr, target_head, var_behind}
use Rattle.es_reader.specs.Soundness.{AreSound, Sound, SoundEnded}
use Rattle.es_reader.proofs.Steps.{bind_some, both, chosen, when, else, first, given, is_false, mark_there, marked, named, one_of, one_worded, second, some_is, word_tells, word_there, worded}
use Rattle.es_reader.proofs.Lists.{EndedFrom, comma_or_end_sound, ended_list_sound, ended_turn_sound, turns_behind_sound}
use Rattle.es_reader.proofs.Semis.{closed_by_semi, semi_sound}
use Rattle.es_reader.proofs.Functions.{bind_sound, initializer_behind_sound}
use Rattle.es_reader.proofs.Expressions.{closed_expr_sound, expr_sound}
use Rattle.es_reader.proofs.Targets.{target_sound}

-- a Bind, and whether it is a Name
data BindingAt (text : Bytes) (g : Rules) (c : Context) : ℕ → Binding → ℕ → Type 0 where
  name : {p : ℕ} (t : Token) → NameAt text Operand c p t → BindingAt text g c p (binding (bind_v.Name t) true) t.end
  pattern : {p q : ℕ} (x : Bind) → g.bind_pattern c p x q → BindingAt text g c p (binding x false) q

binding_bind : {text : Bytes} {g : Rules} {c : Context} (p : ℕ) (x : Binding) (q : ℕ) → BindingAt text g c p x q → BindAt text g c p x.0 q
binding_bind p _ _ (name t h) = BindAt.name t h
binding_bind p _ q (pattern x h) = BindAt.pattern x h

binding_sound : {text : Bytes} {g : Rules} {r : Readers} (s : AreSound text g r) (c : Context) → Sound (BindingAt text g c) (read_binding text r c)
unfolding read_binding pattern_binding
binding_sound {text} {g} {r} s c p y e =
    let t = bind_some (token text Operand p) _ _ e in
    elim (chosen (is_name text c t.0) (Some (binding (bind_v.Name t.0) true, t.0.end)) (pattern_binding r c p) _ t.2) [
      | when h f ↦ given (BindingAt text g c p) _ _ y f (name t.0 (named t.1 h))
      | else h f ↦ let x = bind_some (r.bind_pattern c p) _ _ f in given (BindingAt text g c p) _ _ y x.2 (pattern x.0.0 (s.bind_pattern c p _ x.1))
    ]

declared_alone : {text : Bytes} {g : Rules} {c : Context} (is_const : Bool) (p : ℕ) (x : Binding) (q : ℕ) → BindingAt text g c p x q → x.1 ≡ true
    → is_const ≡ false → DeclaredAt text g c is_const p (decl x.0 None) (stop q declared_name)
declared_alone is_const p _ _ (name t h) e f = DeclaredAt.name t f (DeclAt.plain (bind_v.Name t) (BindAt.name t h))
declared_alone is_const p _ q (pattern x h) e f = absurd cc

declared_by_sound : {text : Bytes} {g : Rules} {r : Readers} (s : AreSound text g r) (c : Context) (is_const : Bool) (p : ℕ) (x : Binding) (q : ℕ)
    → BindingAt text g c p x q → (t : Token) → token text Operator q ≡ Some t → (y : Decl × Stop) → declared_by text r c is_const x q t ≡ Some y
    → DeclaredAt text g c is_const p y.0 y.1
unfolding declared_by decl_initialised
declared_by_sound {text} {g} {r} s c is_const p x q b t at y e =
    elim (chosen (is_mark text (codes "=") t) (decl_initialised text r c x.0 t) _ _ e) [
      | when h f ↦ let i = bind_some (initializer_behind text r c t) _ _ f in
          given (DeclaredAt text g c is_const p) _ _ y i.2
          (DeclaredAt.initialised x.0 i.0.0 (DeclAt.initialised x.0 i.0.0 (binding_bind p x q b) (initializer_behind_sound s c q t (marked at h) _ i.1)))
      | else h f ↦ elim (chosen (x.1 && not is_const) (Some (decl x.0 None, stop q declared_name)) None _ f) [
        | when i k ↦ let z = both _ _ i in
            given (DeclaredAt text g c is_const p) _ _ y k (declared_alone is_const p x q b z.0 (is_false _ z.1))
        | else i k ↦ absurd cc
      ]
    ]

declared_sound : {text : Bytes} {g : Rules} {r : Readers} (s : AreSound text g r) (c : Context) (is_const : Bool)
    → SoundEnded (DeclaredAt text g c is_const) (read_declared text r c is_const)
unfolding read_declared declared_behind
declared_sound {text} {g} {r} s c is_const p y e =
    let x = bind_some (read_binding text r c p) _ _ e in
    let t = bind_some (token text Operator x.0.1) _ _ x.2 in
    declared_by_sound s c is_const p x.0.0 x.0.1 (binding_sound s c p _ x.1) t.0 t.1 y t.2

decls_sound : {text : Bytes} {g : Rules} {r : Readers} (s : AreSound text g r) (c : Context) (is_const : Bool) (p : ℕ) (y : Decls × Stop)
    → read_decls text r c is_const p ≡ Some y → EndedListAt text (DeclaredAt text g c is_const) p y.0 y.1
unfolding read_decls
decls_sound {text} {g} {r} s c is_const p y e = ended_list_sound text _ (DeclaredAt text g c is_const) (declared_sound s c is_const) p y e

pub lex_behind_sound : {text : Bytes} {g : Rules} {r : Readers} (s : AreSound text g r) (c : Context) (is_const : Bool) (p : ℕ) (t : Token)
    → LexicalAt text p t is_const → (y : Lex × ℕ) → lex_behind text r c is_const t ≡ Some y → LexAt text g c p y.0 y.1
unfolding lex_behind
lex_behind_sound {text} {g} {r} s c is_const p t w y e =
    let xs = bind_some (read_decls text r c is_const t.end) _ _ e in
    let semi = bind_some (read_semi text xs.0.1) _ _ xs.2 in
    given (LexAt text g c p) _ _ y semi.2 (LexAt.lex t xs.0.0 semi.0.0 w (decls_sound s c is_const t.end _ xs.1) (semi_sound text _ _ semi.1))

pub lex_sound : {text : Bytes} {g : Rules} {r : Readers} (s : AreSound text g r) (c : Context) → Sound (LexAt text g c) (read_lex text r c)
unfolding read_lex
lex_sound {text} {g} {r} s c p y e =
    let t = bind_some (token text Operand p) _ _ e in
    elim (chosen (is_word text (codes "let") t.0) (lex_behind text r c false t.0) _ _ t.2) [
      | when h f ↦ lex_behind_sound s c false p t.0 (LexicalAt.let_word t.0 (worded t.1 h)) y f
      | else h f ↦ elim (chosen (is_word text (codes "const") t.0) (lex_behind text r c true t.0) None _ f) [
        | when i k ↦ lex_behind_sound s c true p t.0 (LexicalAt.const_word t.0 (worded t.1 i)) y k
        | else i k ↦ absurd cc
      ]
    ]

pub var_behind_sound : {text : Bytes} {g : Rules} {r : Readers} (s : AreSound text g r) (c : Context) (p : ℕ) (t : Token)
    → WordAt text Operand (codes "var") p t → (y : Var × ℕ) → var_behind text r c t ≡ Some y → VarAt text g c p y.0 y.1
unfolding var_behind
var_behind_sound {text} {g} {r} s c p t w y e =
    let xs = bind_some (read_decls text r c false t.end) _ _ e in
    let semi = bind_some (read_semi text xs.0.1) _ _ xs.2 in
    given (VarAt text g c p) _ _ y semi.2 (VarAt.var t xs.0.0 semi.0.0 w (decls_sound s c false t.end _ xs.1) (semi_sound text _ _ semi.1))

-- `(` Expr `)`
pub record ConditionAt (text : Bytes) (g : Rules) (c : Context) (p : ℕ) (x : Condition) : Type 0 where
  pub last : ℕ
  pub is_left : MarkAt text Operand (codes "(") p x.left
  pub is_test : ClosedExprAt text g (bracketed c) x.left.end x.test last
  pub is_right : MarkAt text Operator (codes ")") last x.right

pub condition_sound : {text : Bytes} {g : Rules} {r : Readers} (s : AreSound text g r) (c : Context) (p : ℕ) (y : Condition)
    → read_condition text r c p ≡ Some y → ConditionAt text g c p y
unfolding read_condition
condition_sound {text} {g} {r} s c p y e =
    let left = bind_some (mark text Operand (codes "(") p) _ _ e in
    let x = bind_some (read_closed_expr text r (bracketed c) left.0.end) _ _ left.2 in
    let right = bind_some (mark text Operator (codes ")") x.0.1) _ _ x.2 in
    let here : ConditionAt text g c p (record { left = left.0; test = x.0.0; right = right.0 }) = record {
      last = x.0.1;
      is_left = mark_there left.1;
      is_test = closed_expr_sound s (bracketed c) _ _ x.1;
      is_right = mark_there right.1;
    } in
    subst (ConditionAt text g c p) (some_is _ _ right.2) here

for_of_sound : {text : Bytes} {g : Rules} {r : Readers} (s : AreSound text g r) (c : Context) (p a b : ℕ) (for_word : Token) (await : Option Token)
    (left : Token) (head : Head) (middle : Token) → WordAt text Operand (codes "for") p for_word → ForAwaitAt text c for_word.end await a
    → MarkAt text Operand (codes "(") a left → HeadAt text g (without_in c) left.end head b → WordAt text Operator (codes "of") b middle
    → (y : For × ℕ) → for_of text r c for_word await left head middle ≡ Some y → ForAt text g c p y.0 y.1
unfolding for_of
for_of_sound {text} {g} {r} s c p a b for_word await left head middle w wa m h o y e =
    let x = bind_some (r.assign (bracketed c) middle.end) _ _ e in
    let right = bind_some (mark text Operator (codes ")") x.0.1.at) _ _ x.2 in
    let body = bind_some (r.stmt c right.0.end) _ _ right.2 in
    given (ForAt text g c p) _ _ y body.2
    (ForAt.of_iterable for_word await left head middle x.0.0 right.0 body.0.0 w wa m h o (s.assign (bracketed c) _ _ x.1) (mark_there right.1)
    (s.stmt c _ _ body.1))

for_in_sound : {text : Bytes} {g : Rules} {r : Readers} (s : AreSound text g r) (c : Context) (p b : ℕ) (for_word left : Token) (head : Head)
    (middle : Token) → WordAt text Operand (codes "for") p for_word
    → MarkAt text Operand (codes "(") for_word.end left → HeadAt text g (without_in c) left.end head b → WordAt text Operator (codes "in") b middle
    → (y : For × ℕ) → for_in text r c for_word left head middle ≡ Some y → ForAt text g c p y.0 y.1
unfolding for_in
for_in_sound {text} {g} {r} s c p b for_word left head middle w m h o y e =
    let x = bind_some (read_closed_expr text r (bracketed c) middle.end) _ _ e in
    let right = bind_some (mark text Operator (codes ")") x.0.1) _ _ x.2 in
    let body = bind_some (r.stmt c right.0.end) _ _ right.2 in
    given (ForAt text g c p) _ _ y body.2
    (ForAt.in_object for_word left head middle x.0.0 right.0 body.0.0 w m h o (closed_expr_sound s (bracketed c) _ _ x.1) (mark_there right.1)
    (s.stmt c _ _ body.1))

optional_expr_sound : {text : Bytes} {g : Rules} {r : Readers} (s : AreSound text g r) (c : Context) (closing : List ℕ)
    → Sound (OptionalExprAt text g c) (read_optional_expr text r c closing)
unfolding read_optional_expr some_expr
optional_expr_sound {text} {g} {r} s c closing p y e =
    let t = bind_some (token text Operand p) _ _ e in
    elim (chosen (is_mark text closing t.0) (Some (None, p)) (some_expr text r c p) _ t.2) [
      | when h f ↦ given (OptionalExprAt text g c p) _ _ y f OptionalExprAt.none
      | else h f ↦ let x = bind_some (read_closed_expr text r (bracketed c) p) _ _ f in
          given (OptionalExprAt text g c p) _ _ y x.2 (OptionalExprAt.some x.0.0 (closed_expr_sound s (bracketed c) p _ x.1))
    ]

for_loop_sound : {text : Bytes} {g : Rules} {r : Readers} (s : AreSound text g r) (c : Context) (p a : ℕ) (for_word left : Token) (init : Option Init)
    → WordAt text Operand (codes "for") p for_word → MarkAt text Operand (codes "(") for_word.end left → OptionalInitAt text g c left.end init a
    → (y : For × ℕ) → for_loop text r c for_word left init a ≡ Some y → ForAt text g c p y.0 y.1
unfolding for_loop
for_loop_sound {text} {g} {r} s c p a for_word left init w m i y e =
    let first = bind_some (mark text Operator (codes ";") a) _ _ e in
    let test = bind_some (read_optional_expr text r c (codes ";") first.0.end) _ _ first.2 in
    let second = bind_some (mark text Operator (codes ";") test.0.1) _ _ test.2 in
    let update = bind_some (read_optional_expr text r c (codes ")") second.0.end) _ _ second.2 in
    let right = bind_some (mark text Operator (codes ")") update.0.1) _ _ update.2 in
    let body = bind_some (r.stmt c right.0.end) _ _ right.2 in
    given (ForAt text g c p) _ _ y body.2
    (ForAt.loop for_word left init first.0 test.0.0 second.0 update.0.0 right.0 body.0.0 w m i (mark_there first.1)
    (optional_expr_sound s c (codes ";") _ _ test.1) (mark_there second.1) (optional_expr_sound s c (codes ")") _ _ update.1)
    (mark_there right.1) (s.stmt c _ _ body.1))

-- which of the words of declarations it is
data DeclaresBy (text : Bytes) (p : ℕ) (t : Token) : Bool → Bool → Type 0 where
  by_var : WordAt text Operand (codes "var") p t → DeclaresBy text p t true false
  by_let : WordAt text Operand (codes "let") p t → DeclaresBy text p t false false
  by_const : WordAt text Operand (codes "const") p t → DeclaresBy text p t false true

other_word : {text : Bytes} {goal : Goal} {w : List ℕ} {p : ℕ} {t : Token} → WordAt text goal w p t → (v : List ℕ) → bytes_eq w v ≡ false
    → is_word text v t ≡ false
unfolding is_word
other_word {text} {goal} {w} {p} {t} h v e = rw (h.is.kind_is, h.spelled_as, e) refl

spelled_so : {text : Bytes} {goal : Goal} {ws : List (List ℕ)} {p : ℕ} {t : Token} → OneOfWordsAt text goal ws p t → (w : List ℕ)
    → bytes_eq (spelled text t) w ≡ true → WordAt text goal w p t
spelled_so h w e = record { is = h.is; spelled_as = (bytes_eq-Decides _ _).0 e }

declares_by : (text : Bytes) (p : ℕ) (t : Token) (is_var is_const : Bool) → is_word text (codes "var") t ≡ is_var → is_word text (codes "const") t ≡ is_const
    → DeclaresBy text p t is_var is_const → DeclaresBy text p t (is_word text (codes "var") t) (is_word text (codes "const") t)
declares_by text p t is_var is_const e f h = rw (e, f) h

declares : (text : Bytes) (p : ℕ) (t : Token) → OneOfWordsAt text Operand declaration_words p t
    → DeclaresBy text p t (is_word text (codes "var") t) (is_word text (codes "const") t)
unfolding declaration_words
declares text p t h = elim (one_of _ _ h.among) [
  | first e ↦ let w = spelled_so h (codes "var") e in declares_by text p t true false (word_tells w) (other_word w (codes "const") refl) (by_var w)
  | second e ↦ elim (one_of _ _ e) [
    | first f ↦ let w = spelled_so h (codes "let") f in
        declares_by text p t false false (other_word w (codes "var") refl) (other_word w (codes "const") refl) (by_let w)
    | second f ↦ elim (one_of _ _ f) [
      | first i ↦ let w = spelled_so h (codes "const") i in declares_by text p t false true (other_word w (codes "var") refl) (word_tells w) (by_const w)
      | second i ↦ absurd cc
    ]
  ]
]

init_at : {text : Bytes} {g : Rules} {c : Context} {p : ℕ} {t : Token} (is_var is_const : Bool) (xs : Decls) (z : Stop) → DeclaresBy text p t is_var is_const
    → EndedListAt text (DeclaredAt text g (without_in c) is_const) t.end xs z
    → InitAt text g c p (cond is_var (init_v.Var t xs) (init_v.Lex (record { word = t; decls = xs; semi = None }))) z.at
init_at _ _ xs z (by_var w) l = InitAt.var _ xs w l
init_at _ _ xs z (by_let w) l = InitAt.lex _ xs (LexicalAt.let_word _ w) l
init_at _ _ xs z (by_const w) l = InitAt.lex _ xs (LexicalAt.const_word _ w) l

decls_behind_sound : {text : Bytes} {g : Rules} {r : Readers} (s : AreSound text g r) (c : Context) (is_const : Bool) (p : ℕ) (x : Binding) (a : ℕ)
    → BindingAt text g c p x a → (u : Token) → token text Operator a ≡ Some u → (y : Decls × Stop) → decls_behind text r c is_const x a u ≡ Some y
    → EndedListAt text (DeclaredAt text g c is_const) p y.0 y.1
unfolding decls_behind
decls_behind_sound {text} {g} {r} s c is_const p x a b u at y e =
    let d = bind_some (declared_by text r c is_const x a u) _ _ e in
    let k = bind_some (comma_or_end text d.0.0 d.0.1) _ _ d.2 in
    turns_behind_sound text (EndedFrom text (DeclaredAt text g c is_const)) _ (ended_turn_sound text _ (DeclaredAt text g c is_const) (declared_sound s c is_const))
    (stop p other) k.0
    (comma_or_end_sound text (DeclaredAt text g c is_const) (stop p other) d.0.0 d.0.1 (declared_by_sound s c is_const p x a b u at _ d.1) k.0 k.1) y k.2

for_binding_by_sound : {text : Bytes} {g : Rules} {r : Readers} (s : AreSound text g r) (c : Context) (p a : ℕ) (for_word left t : Token) (x : Binding)
    → WordAt text Operand (codes "for") p for_word → MarkAt text Operand (codes "(") for_word.end left
    → OneOfWordsAt text Operand declaration_words left.end t → BindingAt text g (without_in c) t.end x a
    → (u : Token) → token text Operator a ≡ Some u → (y : For × ℕ) → for_binding_by text r c for_word left t x a u ≡ Some y → ForAt text g c p y.0 y.1
unfolding for_binding_by for_declared
for_binding_by_sound {text} {g} {r} s c p a for_word left t x w m d b u at y e =
    let head : HeadAt text g (without_in c) left.end (head_v.Bind t x.0) a = HeadAt.bind t x.0 d (binding_bind _ x _ b) in
    elim (chosen (is_word text (codes "of") u) (for_of text r c for_word None left (head_v.Bind t x.0) u) _ _ e) [
      | when h f ↦ for_of_sound s c p _ a for_word None left _ u w ForAwaitAt.none m head (worded at h) y f
      | else h f ↦ elim (chosen (is_word text (codes "in") u) (for_in text r c for_word left (head_v.Bind t x.0) u) (for_declared text r c for_word left t x a u) _ f) [
        | when i k ↦ for_in_sound s c p a for_word left _ u w m head (worded at i) y k
        | else i k ↦
            let xs = bind_some (decls_behind text r (without_in c) (is_word text (codes "const") t) x a u) _ _ k in
            for_loop_sound s c p _ for_word left _ w m
            (OptionalInitAt.some _ (init_at _ _ xs.0.0 xs.0.1 (declares text left.end t d) (decls_behind_sound s (without_in c) _ t.end x a b u at _ xs.1)))
            y xs.2
      ]
    ]

for_target_sound : {text : Bytes} {g : Rules} {r : Readers} (s : AreSound text g r) (c : Context) (p : ℕ) (for_word left : Token)
    → WordAt text Operand (codes "for") p for_word → MarkAt text Operand (codes "(") for_word.end left
    → (y : For × ℕ) → for_target text r c for_word left ≡ Some y → ForAt text g c p y.0 y.1
unfolding for_target for_target_by
for_target_sound {text} {g} {r} s c p for_word left w m y e =
    let x = bind_some (read_target text r (without_in c) left.end) _ _ e in
    let u = bind_some (token text Operator x.0.1) _ _ x.2 in
    let head : HeadAt text g (without_in c) left.end (head_v.Target x.0.0) x.0.1 = HeadAt.target x.0.0 (target_sound s (without_in c) _ _ x.1) in
    elim (chosen (is_word text (codes "of") u.0) (for_of text r c for_word None left (head_v.Target x.0.0) u.0) _ _ u.2) [
      | when h f ↦ for_of_sound s c p _ x.0.1 for_word None left _ u.0 w ForAwaitAt.none m head (worded u.1 h) y f
      | else h f ↦ elim (chosen (is_word text (codes "in") u.0) (for_in text r c for_word left (head_v.Target x.0.0) u.0) None _ f) [
        | when i k ↦ for_in_sound s c p x.0.1 for_word left _ u.0 w m head (worded u.1 i) y k
        | else i k ↦ absurd cc
      ]
    ]

for_expr_by_sound : {text : Bytes} {g : Rules} {r : Readers} (s : AreSound text g r) (c : Context) (p : ℕ) (for_word left : Token)
    → WordAt text Operand (codes "for") p for_word → MarkAt text Operand (codes "(") for_word.end left
    → (o : Option (Expr × Stop)) → read_expr text r (without_in c) left.end ≡ o
    → (y : For × ℕ) → for_expr_by text r c for_word left o ≡ Some y → ForAt text g c p y.0 y.1
for_expr_by_sound s c p for_word left w m None at y e = for_target_sound s c p for_word left w m y e
for_expr_by_sound {text} {g} {r} s c p for_word left w m (Some x) at y e =
    elim (chosen (holds (is_mark text (codes ";")) (token text Operator x.1.at)) (for_loop text r c for_word left (Some (init_v.Expr x.0)) x.1.at)
    (for_target text r c for_word left) _ e) [
      | when h f ↦ for_loop_sound s c p _ for_word left _ w m
          (OptionalInitAt.some _ (InitAt.expr x.0 (ClosedExprAt.closed x.0 (expr_sound s (without_in c) _ _ at) (closed_by_semi text x.1 h)))) y f
      | else h f ↦ for_target_sound s c p for_word left w m y f
    ]

for_paren_sound : {text : Bytes} {g : Rules} {r : Readers} (s : AreSound text g r) (c : Context) (p : ℕ) (for_word left : Token)
    → WordAt text Operand (codes "for") p for_word → MarkAt text Operand (codes "(") for_word.end left
    → (y : For × ℕ) → for_paren text r c for_word left ≡ Some y → ForAt text g c p y.0 y.1
unfolding for_paren for_paren_by for_binding for_expr
for_paren_sound {text} {g} {r} s c p for_word left w m y e =
    let t = bind_some (token text Operand left.end) _ _ e in
    elim (chosen (is_mark text (codes ";") t.0) (for_loop text r c for_word left None left.end) _ _ t.2) [
      | when h f ↦ for_loop_sound s c p left.end for_word left None w m OptionalInitAt.none y f
      | else h f ↦ elim (chosen (is_one_word text declaration_words t.0) (for_binding text r c for_word left t.0) (for_expr text r c for_word left) _ f) [
        | when i k ↦ let x = bind_some (read_binding text r (without_in c) t.0.end) _ _ k in
            let u = bind_some (token text Operator x.0.1) _ _ x.2 in
            for_binding_by_sound s c p x.0.1 for_word left t.0 x.0.0 w m (one_worded t.1 i) (binding_sound s (without_in c) _ _ x.1) u.0 u.1 y u.2
        | else i k ↦ for_expr_by_sound s c p for_word left w m _ refl y k
      ]
    ]

head_sound : {text : Bytes} {g : Rules} {r : Readers} (s : AreSound text g r) (c : Context) → Sound (HeadAt text g c) (read_head text r c)
unfolding read_head bind_head target_head
head_sound {text} {g} {r} s c p y e =
    let t = bind_some (token text Operand p) _ _ e in
    elim (chosen (is_one_word text declaration_words t.0) (bind_head text r c t.0) (target_head text r c p) _ t.2) [
      | when h f ↦ let x = bind_some (read_bind text r c t.0.end) _ _ f in
          given (HeadAt text g c p) _ _ y x.2 (HeadAt.bind t.0 x.0.0 (one_worded t.1 h) (bind_sound s c _ _ x.1))
      | else h f ↦ let x = bind_some (read_target text r c p) _ _ f in
          given (HeadAt text g c p) _ _ y x.2 (HeadAt.target x.0.0 (target_sound s c _ _ x.1))
    ]

for_await_sound : {text : Bytes} {g : Rules} {r : Readers} (s : AreSound text g r) (c : Context) (p : ℕ) (for_word await : Token)
    → WordAt text Operand (codes "for") p for_word → c.has_await ≡ true → WordAt text Operand (codes "await") for_word.end await
    → (y : For × ℕ) → for_await text r c for_word await ≡ Some y → ForAt text g c p y.0 y.1
unfolding for_await
for_await_sound {text} {g} {r} s c p for_word await w has a y e =
    let left = bind_some (mark text Operand (codes "(") await.end) _ _ e in
    let head = bind_some (read_head text r (without_in c) left.0.end) _ _ left.2 in
    let u = bind_some (word text Operator (codes "of") head.0.1) _ _ head.2 in
    for_of_sound s c p await.end head.0.1 for_word (Some await) left.0 head.0.0 u.0 w (ForAwaitAt.word await has a) (mark_there left.1)
    (head_sound s (without_in c) _ _ head.1) (word_there u.1) y u.2

pub for_behind_sound : {text : Bytes} {g : Rules} {r : Readers} (s : AreSound text g r) (c : Context) (p : ℕ) (for_word : Token)
    → WordAt text Operand (codes "for") p for_word → (y : For × ℕ) → for_behind text r c for_word ≡ Some y → ForAt text g c p y.0 y.1
unfolding for_behind for_by
for_behind_sound {text} {g} {r} s c p for_word w y e =
    let t = bind_some (token text Operand for_word.end) _ _ e in
    elim (chosen (is_mark text (codes "(") t.0) (for_paren text r c for_word t.0) _ _ t.2) [
      | when h f ↦ for_paren_sound s c p for_word t.0 w (marked t.1 h) y f
      | else h f ↦ elim (chosen (c.has_await && is_word text (codes "await") t.0) (for_await text r c for_word t.0) None _ f) [
        | when i k ↦ let b = both _ _ i in for_await_sound s c p for_word t.0 w b.0 (worded t.1 b.1) y k
        | else i k ↦ absurd cc
      ]
    ]

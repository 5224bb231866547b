-- Members of objects, primary expressions, and what begins with them.
use Rattle.std.proofs.Common.{◌≡◌, ℕ, Bool, true, false, ◌&&◌, List, [], ◌∷◌, Option, Some, None, refl, sym, subst, ◌∙◌}
use Rattle.std.specs.Prelude.{codes}
use Rattle.std.specs.List.{list_all}
use Rattle.es_tree.specs.declared.tokens.Token.{Token}
use Rattle.es_tree.specs.declared.tokens.TokenKind.{TokenKind}
use Rattle.es_tree.specs.declared.tokens.TokenKind.TheVariants as kind
use Rattle.es_tree.specs.declared.tokens.Goal.{Goal}
use Rattle.es_tree.specs.declared.tokens.Goal.TheVariants.{Operand as AtOperand, Operator as AtOperator}
use Rattle.es_tree.specs.declared.parts.SuffixOf.TheVariants as suffix_v
use Rattle.es_tree.specs.declared.parts.KeyOf.{KeyOf}
use Rattle.es_tree.specs.declared.cycle.Assign.{Assign}
use Rattle.es_tree.specs.declared.cycle.Member.{Member}
use Rattle.es_tree.specs.declared.cycle.Member.TheVariants as member_v
use Rattle.es_tree.specs.declared.cycle.Primary.{Primary}
use Rattle.es_tree.specs.declared.cycle.Primary.TheVariants as primary_v
use Rattle.es_tree.specs.declared.cycle.Base.{Base}
use Rattle.es_tree.specs.declared.cycle.Base.TheVariants as base_v
use Rattle.es_tree.specs.declared.cycle.LHS.{LHS}
use Rattle.es_grammar.specs.declared.places.Context.{Context}
use Rattle.es_grammar.specs.declared.places.Stop.{Stop}
use Rattle.es_grammar.specs.Contexts.{bracketed}
use Rattle.es_grammar.specs.Reading.{Bytes, IsAt, KindAt, MarkAt, NameAt, WordAt}
use Rattle.es_grammar.specs.Lists.{Chain}
use Rattle.es_grammar.specs.Rules.{Rules}
use Rattle.es_grammar.specs.Functions.{AsyncAt, KeyAt, StarAt}
use Rattle.es_grammar.specs.Expressions.{ArgumentAt, BaseAt, CalleeAt, HasNoMember, ImportCallAt, CommaAt, LHSAt, MemberAt, NewAt, PrimaryAt, SecondArgumentAt, SuffixAt, follows_super, has_plain_templates, is_member, literal_words}
use Rattle.es_reader.specs.Basics.{token, is_mark, is_one_mark, is_word, is_one_word, is_name, mark, word}
use Rattle.es_reader.specs.declared.pieces.TurnOf.TheVariants.{Ended as ended}
use Rattle.es_reader.specs.Loops.{Turn, all_turns}
use Rattle.es_reader.specs.Lists.{elements_turn, list_turn}
use Rattle.es_reader.specs.Readers.{Readers}
use Rattle.es_reader.specs.Functions.{begins_method, method_behind, read_class, read_func, read_key, read_method}
use Rattle.es_reader.specs.Expressions.{Suffix, Second, Parts, template_from, read_closed_expr, read_argument, args_behind, suffixes_turn, members_turn, next_member, member_suffix, begins_member, spread_member, method_member, keyed_method, pair_behind, member_by, keyed_member, read_member, read_array, read_object, read_paren, func_primary, class_primary, template_primary, begins_function, word_primary, mark_primary, primary_by, primary_base, new_target, new_base, import_meta, meta_base, base_from, import_closed, second_argument, read_comma, import_second, import_comma, import_first, import_call, import_base, parts, lhs, lhs_of, name_base, begins_with_name, follow_super, parts_behind, super_parts, import_parts, other_parts, parts_from, read_parts, read_lhs, callee_behind, super_callee, other_callee, callee_from, read_callee, new_with_args, new_behind, read_new}
use Rattle.es_reader.specs.Soundness.{AreSound, Sound}
use Rattle.es_reader.proofs.Steps.{bind_some, both, chosen, when, else, given, kind_there, mark_there, marked, named, no_mark, one_worded, some_is, there_read, word_there, worded}
use Rattle.es_reader.proofs.Lists.{Joins, elements_sound, list_sound, turns_sound}
use Rattle.es_reader.proofs.Functions.{key_sound}
use Rattle.es_reader.proofs.Classes.{class_sound, func_sound, method_behind_sound, method_sound}
use Rattle.es_reader.proofs.Expressions.{MemberSuffixAt, args_behind_sound, argument_sound, closed_expr_sound, member_suffix_sound, suffixes_sound, template_from_sound}

-- Members of objects

member_by_sound : {text : Bytes} {g : Rules} {r : Readers} (s : AreSound text g r) (c : Context) (p : ℕ) (t : Token) → token text AtOperand p ≡ Some t
    → (k : KeyOf Assign) (q : ℕ) → KeyAt text g c p k q → (u : Token) → token text AtOperator q ≡ Some u → (y : Member × ℕ)
    → member_by text r c t k q u ≡ Some y → MemberAt text g c p y.0 y.1
unfolding member_by pair_behind keyed_method
member_by_sound {text} {g} {r} s c p t at k q is u behind y e =
    elim (chosen (is_mark text (codes ":") u) (pair_behind r c k u) _ _ e) [
      | when h f ↦ let v = bind_some (r.assign (bracketed c) u.end) _ _ f in
          given (MemberAt text g c p) _ _ y v.2 (MemberAt.pair k u v.0.0 is (marked behind h) (s.assign (bracketed c) _ _ v.1))
      | else h f ↦ elim (chosen (is_mark text (codes "(") u) (keyed_method text r c k q) _ _ f) [
        | when i l ↦ let m = bind_some (method_behind text r c None None k q) _ _ l in
            given (MemberAt text g c p) _ _ y m.2 (MemberAt.method m.0.0 (method_behind_sound s c (KeyAt text g c) p p p q None None k AsyncAt.none StarAt.none is _ m.1))
        | else i l ↦ elim (chosen (is_name text c t) (Some (member_v.Shorthand t, t.end)) None _ l) [
          | when j n ↦ given (MemberAt text g c p) _ _ y n (MemberAt.shorthand t (named at j))
          | else j n ↦ absurd cc
        ]
      ]
    ]

keyed_member_sound : {text : Bytes} {g : Rules} {r : Readers} (s : AreSound text g r) (c : Context) (p : ℕ) (t : Token) → token text AtOperand p ≡ Some t
    → (y : Member × ℕ) → keyed_member text r c t p ≡ Some y → MemberAt text g c p y.0 y.1
unfolding keyed_member
keyed_member_sound {text} {g} {r} s c p t at y e =
    let k = bind_some (read_key text r c p) _ _ e in
    let u = bind_some (token text AtOperator k.0.1) _ _ k.2 in
    member_by_sound s c p t at k.0.0 k.0.1 (key_sound s c p _ k.1) u.0 u.1 y u.2

member_sound : {text : Bytes} {g : Rules} {r : Readers} (s : AreSound text g r) (c : Context) → Sound (MemberAt text g c) (read_member text r c)
unfolding read_member spread_member method_member
member_sound {text} {g} {r} s c p y e =
    let t = bind_some (token text AtOperand p) _ _ e in
    elim (chosen (is_mark text (codes "...") t.0) (spread_member r c t.0) _ _ t.2) [
      | when h f ↦ let v = bind_some (r.assign (bracketed c) t.0.end) _ _ f in
          given (MemberAt text g c p) _ _ y v.2 (MemberAt.spread t.0 v.0.0 (marked t.1 h) (s.assign (bracketed c) _ _ v.1))
      | else h f ↦ elim (chosen (begins_method text t.0) (method_member text r c p) (keyed_member text r c t.0 p) _ f) [
        | when i k ↦ let m = bind_some (read_method text r c (read_key text r c) p) _ _ k in
            given (MemberAt text g c p) _ _ y m.2 (MemberAt.method m.0.0 (method_sound s c (KeyAt text g c) (read_key text r c) (key_sound s c) p _ m.1))
        | else i k ↦ keyed_member_sound s c p t.0 t.1 y k
      ]
    ]

-- Primary

array_sound : {text : Bytes} {g : Rules} {r : Readers} (s : AreSound text g r) (c : Context) (p : ℕ) (left : Token)
    → MarkAt text AtOperand (codes "[") p left → (y : Primary × ℕ) → read_array text r c left ≡ Some y → PrimaryAt text g c p y.0 y.1
unfolding read_array
array_sound {text} {g} {r} s c p left m y e =
    let xs = bind_some (all_turns text (elements_turn text (is_mark text (codes "]")) (read_argument text r c)) left.end) _ _ e in
    let right = bind_some (mark text AtOperator (codes "]") xs.0.1) _ _ xs.2 in
    given (PrimaryAt text g c p) _ _ y right.2
    (PrimaryAt.array left xs.0.0 right.0 m (elements_sound text _ _ (ArgumentAt text g c) (argument_sound s c) left.end _ xs.1) (mark_there right.1))

object_sound : {text : Bytes} {g : Rules} {r : Readers} (s : AreSound text g r) (c : Context) (p : ℕ) (left : Token)
    → MarkAt text AtOperand (codes "{") p left → (y : Primary × ℕ) → read_object text r c left ≡ Some y → PrimaryAt text g c p y.0 y.1
unfolding read_object
object_sound {text} {g} {r} s c p left m y e =
    let xs = bind_some (all_turns text (list_turn text (is_mark text (codes "}")) (read_member text r c)) left.end) _ _ e in
    let right = bind_some (mark text AtOperator (codes "}") xs.0.1) _ _ xs.2 in
    given (PrimaryAt text g c p) _ _ y right.2
    (PrimaryAt.object left xs.0.0 right.0 m (list_sound text _ _ (MemberAt text g c) (member_sound s c) left.end _ xs.1) (mark_there right.1))

paren_sound : {text : Bytes} {g : Rules} {r : Readers} (s : AreSound text g r) (c : Context) (p : ℕ) (left : Token)
    → MarkAt text AtOperand (codes "(") p left → (y : Primary × ℕ) → read_paren text r c left ≡ Some y → PrimaryAt text g c p y.0 y.1
unfolding read_paren
paren_sound {text} {g} {r} s c p left m y e =
    let v = bind_some (read_closed_expr text r (bracketed c) left.end) _ _ e in
    let right = bind_some (mark text AtOperator (codes ")") v.0.1) _ _ v.2 in
    given (PrimaryAt text g c p) _ _ y right.2
    (PrimaryAt.paren left v.0.0 right.0 m (closed_expr_sound s (bracketed c) _ _ v.1) (mark_there right.1))

mark_primary_sound : {text : Bytes} {g : Rules} {r : Readers} (s : AreSound text g r) (c : Context) (p : ℕ) (t : Token) → token text AtOperand p ≡ Some t
    → (y : Primary × ℕ) → mark_primary text r c t ≡ Some y → PrimaryAt text g c p y.0 y.1
unfolding mark_primary
mark_primary_sound {text} {g} {r} s c p t at y e =
    elim (chosen (is_mark text (codes "(") t) (read_paren text r c t) _ _ e) [
      | when h f ↦ paren_sound s c p t (marked at h) y f
      | else h f ↦ elim (chosen (is_mark text (codes "[") t) (read_array text r c t) _ _ f) [
        | when i k ↦ array_sound s c p t (marked at i) y k
        | else i k ↦ elim (chosen (is_mark text (codes "{") t) (read_object text r c t) None _ k) [
          | when j l ↦ object_sound s c p t (marked at j) y l
          | else j l ↦ absurd cc
        ]
      ]
    ]

word_primary_sound : {text : Bytes} {g : Rules} {r : Readers} (s : AreSound text g r) (c : Context) (p : ℕ) (t : Token) → token text AtOperand p ≡ Some t
    → (y : Primary × ℕ) → word_primary text r c p t ≡ Some y → PrimaryAt text g c p y.0 y.1
unfolding word_primary func_primary class_primary
word_primary_sound {text} {g} {r} s c p t at y e =
    elim (chosen (begins_function text t) (func_primary text r c p) _ _ e) [
      | when h f ↦ let v = bind_some (read_func text r c false p) _ _ f in
          given (PrimaryAt text g c p) _ _ y v.2 (PrimaryAt.func v.0.0 (func_sound s c false p _ v.1))
      | else h f ↦ elim (chosen (is_word text (codes "this") t) (Some (primary_v.This t, t.end)) _ _ f) [
        | when i k ↦ given (PrimaryAt text g c p) _ _ y k (PrimaryAt.this t (worded at i))
        | else i k ↦ elim (chosen (is_one_word text literal_words t) (Some (primary_v.Literal t, t.end)) _ _ k) [
          | when j l ↦ given (PrimaryAt text g c p) _ _ y l (PrimaryAt.word t (one_worded at j))
          | else j l ↦ elim (chosen (is_word text (codes "class") t) (class_primary text r c p) None _ l) [
            | when m n ↦ let v = bind_some (read_class text r c false p) _ _ n in
                given (PrimaryAt text g c p) _ _ y v.2 (PrimaryAt.class v.0.0 (class_sound s c false p _ v.1))
            | else m n ↦ absurd cc
          ]
        ]
      ]
    ]

primary_by_sound : {text : Bytes} {g : Rules} {r : Readers} (s : AreSound text g r) (c : Context) (p : ℕ) (t : Token) → token text AtOperand p ≡ Some t
    → (k : TokenKind) → t.kind ≡ k → (y : Primary × ℕ) → primary_by text r c p t k ≡ Some y → PrimaryAt text g c p y.0 y.1
unfolding template_primary
primary_by_sound {text} {g} {r} s c p t at kind.IdName k y e = word_primary_sound s c p t at y e
primary_by_sound {text} {g} {r} s c p t at kind.Number k y e = given (PrimaryAt text g c p) _ _ y e (PrimaryAt.number t (kind_there at k))
primary_by_sound {text} {g} {r} s c p t at kind.String k y e = given (PrimaryAt text g c p) _ _ y e (PrimaryAt.string t (kind_there at k))
primary_by_sound {text} {g} {r} s c p t at kind.Template k y e =
    let v = bind_some (template_from text r c t) _ _ e in
    given (PrimaryAt text g c p) _ _ y v.2 (PrimaryAt.template v.0.0 (template_from_sound s c AtOperand p t (kind_there at k) _ v.1))
primary_by_sound {text} {g} {r} s c p t at kind.Regex k y e = given (PrimaryAt text g c p) _ _ y e (PrimaryAt.regex t (kind_there at k))
primary_by_sound {text} {g} {r} s c p t at kind.Punctuator k y e = mark_primary_sound s c p t at y e
primary_by_sound s c p t at _ k y e = absurd cc

primary_base_sound : {text : Bytes} {g : Rules} {r : Readers} (s : AreSound text g r) (c : Context) (p : ℕ) (t : Token) → token text AtOperand p ≡ Some t
    → (y : Base × ℕ) → primary_base text r c p t ≡ Some y → BaseAt text g c p y.0 y.1
unfolding primary_base
primary_base_sound {text} {g} {r} s c p t at y e =
    let v = bind_some (primary_by text r c p t t.kind) _ _ e in
    given (BaseAt text g c p) _ _ y v.2 (BaseAt.primary v.0.0 (primary_by_sound s c p t at _ refl _ v.1))

-- What an LHS begins with

new_base_sound : {text : Bytes} {g : Rules} {r : Readers} (s : AreSound text g r) (c : Context) (p : ℕ) (t : Token) → WordAt text AtOperand (codes "new") p t
    → (y : Base × ℕ) → new_base text r c p t ≡ Some y → BaseAt text g c p y.0 y.1
unfolding new_base new_target
new_base_sound {text} {g} {r} s c p t w y e =
    let u = bind_some (token text AtOperand t.end) _ _ e in
    elim (chosen (is_mark text (codes ".") u.0) (new_target text t u.0) (r.new c p) _ u.2) [
      | when h f ↦ let n = bind_some (word text AtOperand (codes "target") u.0.end) _ _ f in
          given (BaseAt text g c p) _ _ y n.2 (BaseAt.new_target t u.0 n.0 w (marked u.1 h) (word_there n.1))
      | else h f ↦ BaseAt.new y.0 (s.new c p y f)
    ]

meta_base_sound : (text : Bytes) (g : Rules) (c : Context) (p : ℕ) (t : Token) → WordAt text AtOperand (codes "import") p t
    → (y : Base × ℕ) → meta_base text t ≡ Some y → BaseAt text g c p y.0 y.1
unfolding meta_base import_meta
meta_base_sound text g c p t w y e =
    let u = bind_some (mark text AtOperand (codes ".") t.end) _ _ e in
    let n = bind_some (word text AtOperand (codes "meta") u.0.end) _ _ u.2 in
    given (BaseAt text g c p) _ _ y n.2 (BaseAt.import_meta t u.0 n.0 w (mark_there u.1) (word_there n.1))

base_from_sound : {text : Bytes} {g : Rules} {r : Readers} (s : AreSound text g r) (c : Context) (p : ℕ) (t : Token) → token text AtOperand p ≡ Some t
    → (y : Base × ℕ) → base_from text r c p t ≡ Some y → BaseAt text g c p y.0 y.1
unfolding base_from
base_from_sound {text} {g} {r} s c p t at y e =
    elim (chosen (is_word text (codes "new") t) (new_base text r c p t) _ _ e) [
      | when h f ↦ new_base_sound s c p t (worded at h) y f
      | else h f ↦ elim (chosen (is_word text (codes "import") t) (meta_base text t) (primary_base text r c p t) _ f) [
        | when i k ↦ meta_base_sound text g c p t (worded at i) y k
        | else i k ↦ primary_base_sound s c p t at y k
      ]
    ]

-- what stands before the closing parenthesis of an import call
import_closed_sound : {text : Bytes} {g : Rules} (c : Context) (p : ℕ) (import left : Token) (v : Assign) (z : Stop) (second : Second) (a : ℕ)
    (comma : Option Token) (b : ℕ) → WordAt text AtOperand (codes "import") p import → MarkAt text AtOperand (codes "(") import.end left
    → g.assign (bracketed c) left.end v z → SecondArgumentAt text g c z.at second a → CommaAt text a comma b
    → (y : Base × ℕ) → import_closed text import left v second comma b ≡ Some y → ImportCallAt text g c p y.0 y.1
unfolding import_closed
import_closed_sound {text} {g} c p import left v z second a comma b w m is h k y e =
    let right = bind_some (mark text AtOperator (codes ")") b) _ _ e in
    given (ImportCallAt text g c p) _ _ y right.2 (ImportCallAt.call import left v second comma right.0 w m is h k (mark_there right.1))

comma_sound : (text : Bytes) → Sound (CommaAt text) (read_comma text)
unfolding read_comma
comma_sound text p y e =
    let t = bind_some (token text AtOperator p) _ _ e in
    elim (chosen (is_mark text (codes ",") t.0) (Some (Some t.0, t.0.end)) (Some (None, p)) _ t.2) [
      | when h f ↦ given (CommaAt text p) _ _ y f (CommaAt.some t.0 (marked t.1 h))
      | else h f ↦ given (CommaAt text p) _ _ y f CommaAt.none
    ]

import_comma_sound : {text : Bytes} {g : Rules} {r : Readers} (s : AreSound text g r) (c : Context) (p : ℕ) (import left : Token) (v : Assign) (z : Stop)
    (comma : Token) → WordAt text AtOperand (codes "import") p import → MarkAt text AtOperand (codes "(") import.end left
    → g.assign (bracketed c) left.end v z → MarkAt text AtOperator (codes ",") z.at comma
    → (y : Base × ℕ) → import_comma text r c import left v comma ≡ Some y → ImportCallAt text g c p y.0 y.1
unfolding import_comma import_second
import_comma_sound {text} {g} {r} s c p import left v z comma w m is k y e =
    let t = bind_some (token text AtOperand comma.end) _ _ e in
    elim (chosen (is_mark text (codes ")") t.0) (import_closed text import left v None (Some comma) comma.end) _ _ t.2) [
      | when h f ↦ import_closed_sound c p import left v z None _ (Some comma) _ w m is SecondArgumentAt.none (CommaAt.some comma k) y f
      | else h f ↦ let x = bind_some (r.assign (bracketed c) comma.end) _ _ f in
          let o = bind_some (read_comma text x.0.1.at) _ _ x.2 in
          import_closed_sound c p import left v z (Some (second_argument comma x.0.0)) _ _ _ w m is
          (SecondArgumentAt.some comma x.0.0 k (s.assign (bracketed c) _ _ x.1)) (comma_sound text _ _ o.1) y o.2
    ]

import_first_sound : {text : Bytes} {g : Rules} {r : Readers} (s : AreSound text g r) (c : Context) (p : ℕ) (import left : Token) (v : Assign) (z : Stop)
    → WordAt text AtOperand (codes "import") p import → MarkAt text AtOperand (codes "(") import.end left → g.assign (bracketed c) left.end v z
    → (y : Base × ℕ) → import_first text r c import left v z.at ≡ Some y → ImportCallAt text g c p y.0 y.1
unfolding import_first
import_first_sound {text} {g} {r} s c p import left v z w m is y e =
    let t = bind_some (token text AtOperator z.at) _ _ e in
    elim (chosen (is_mark text (codes ",") t.0) (import_comma text r c import left v t.0) _ _ t.2) [
      | when h f ↦ import_comma_sound s c p import left v z t.0 w m is (marked t.1 h) y f
      | else h f ↦ import_closed_sound c p import left v z None _ None _ w m is SecondArgumentAt.none CommaAt.none y f
    ]

import_call_sound : {text : Bytes} {g : Rules} {r : Readers} (s : AreSound text g r) (c : Context) (p : ℕ) (import left : Token)
    → WordAt text AtOperand (codes "import") p import → MarkAt text AtOperand (codes "(") import.end left
    → (y : Base × ℕ) → import_call text r c import left ≡ Some y → ImportCallAt text g c p y.0 y.1
unfolding import_call
import_call_sound {text} {g} {r} s c p import left w m y e =
    let v = bind_some (r.assign (bracketed c) left.end) _ _ e in
    import_first_sound s c p import left v.0.0 v.0.1 w m (s.assign (bracketed c) _ _ v.1) y v.2

-- a base with any suffixes, which may be an import call
data HeadAt (text : Bytes) (g : Rules) (c : Context) : ℕ → Base → ℕ → Type 0 where
  base : {p q : ℕ} (x : Base) → BaseAt text g c p x q → HeadAt text g c p x q
  call : {p q : ℕ} (x : Base) → ImportCallAt text g c p x q → HeadAt text g c p x q

import_base_sound : {text : Bytes} {g : Rules} {r : Readers} (s : AreSound text g r) (c : Context) (p : ℕ) (t : Token)
    → WordAt text AtOperand (codes "import") p t → (y : Base × ℕ) → import_base text r c t ≡ Some y → HeadAt text g c p y.0 y.1
unfolding import_base
import_base_sound {text} {g} {r} s c p t w y e =
    let u = bind_some (token text AtOperand t.end) _ _ e in
    elim (chosen (is_mark text (codes "(") u.0) (import_call text r c t u.0) (meta_base text t) _ u.2) [
      | when h f ↦ HeadAt.call y.0 (import_call_sound s c p t u.0 w (marked u.1 h) y f)
      | else h f ↦ HeadAt.base y.0 (meta_base_sound text g c p t w y f)
    ]

lhs_at : (text : Bytes) (g : Rules) (c : Context) (p : ℕ) (x : Base) (a : ℕ) → HeadAt text g c p x a → (xs : List Suffix) (q : ℕ)
    → Chain (SuffixAt text g c) a xs q → has_plain_templates xs ≡ true → LHSAt text g c p (lhs x xs) q
lhs_at text g c p x a (HeadAt.base _ h) xs q k e = LHSAt.base x xs h k e
lhs_at text g c p x a (HeadAt.call _ h) xs q k e = LHSAt.import_call x xs h k e

plain_behind : (x : Suffix) (xs : List Suffix) → follows_super x ≡ true → has_plain_templates (x ∷ xs) ≡ true → has_plain_templates xs ≡ true
plain_behind (suffix_v.Dot a b) xs f e = e
plain_behind (suffix_v.Index a b d) xs f e = e
plain_behind (suffix_v.Args a) xs f e = e
plain_behind _ xs f e = absurd cc

-- `super` with its suffixes
super_at : (text : Bytes) (g : Rules) (c : Context) (p : ℕ) (t : Token) → WordAt text AtOperand (codes "super") p t → (xs : List Suffix) (q : ℕ)
    → Chain (SuffixAt text g c) t.end xs q → follow_super xs ≡ true → has_plain_templates xs ≡ true → LHSAt text g c p (lhs (base_v.Super t) xs) q
super_at text g c p t w [] q k f e = absurd cc
super_at text g c p t w (x ∷ xs) q k f e = LHSAt.super t x xs w f k (plain_behind x xs f e)

-- what was read as the parts of an LHS, of which one that has a name begins with it
pub data PartsAt (text : Bytes) (g : Rules) (c : Context) : ℕ → Parts → ℕ → Type 0 where
  named_parts : {p q : ℕ} (t : Token) (xs : List Suffix) → NameAt text AtOperand c p t → Chain (SuffixAt text g c) t.end xs q
      → LHSAt text g c p (lhs (name_base t) xs) q → PartsAt text g c p (parts (name_base t) (Some t) xs) q
  unnamed_parts : {p q : ℕ} (x : Base) (xs : List Suffix) → LHSAt text g c p (lhs x xs) q → PartsAt text g c p (parts x None xs) q

parts_behind_sound : {text : Bytes} {g : Rules} {r : Readers} (s : AreSound text g r) (c : Context) (p : ℕ) (x : Base) (a : ℕ) → HeadAt text g c p x a
    → (y : Parts × ℕ) → parts_behind text r c x None a ≡ Some y → PartsAt text g c p y.0 y.1
unfolding parts_behind
parts_behind_sound {text} {g} {r} s c p x a is y e =
    let xs = bind_some (all_turns text (suffixes_turn text r c) a) _ _ e in
    elim (chosen (has_plain_templates xs.0.0) (Some (parts x None xs.0.0, xs.0.1)) None _ xs.2) [
      | when h f ↦ given (PartsAt text g c p) _ _ y f (unnamed_parts x xs.0.0 (lhs_at text g c p x a is _ _ (suffixes_sound s c a _ xs.1) h))
      | else h f ↦ absurd cc
    ]

name_at : (text : Bytes) (g : Rules) (c : Context) (p : ℕ) (t : Token) → NameAt text AtOperand c p t → BaseAt text g c p (name_base t) t.end
name_at text g c p t n = BaseAt.primary (primary_v.Name t) (PrimaryAt.name t n)

named_parts_sound : {text : Bytes} {g : Rules} {r : Readers} (s : AreSound text g r) (c : Context) (p : ℕ) (t : Token) → NameAt text AtOperand c p t
    → (y : Parts × ℕ) → parts_behind text r c (name_base t) (Some t) t.end ≡ Some y → PartsAt text g c p y.0 y.1
unfolding parts_behind
named_parts_sound {text} {g} {r} s c p t n y e =
    let xs = bind_some (all_turns text (suffixes_turn text r c) t.end) _ _ e in
    elim (chosen (has_plain_templates xs.0.0) (Some (parts (name_base t) (Some t) xs.0.0, xs.0.1)) None _ xs.2) [
      | when h f ↦ let k = suffixes_sound s c t.end _ xs.1 in
          given (PartsAt text g c p) _ _ y f
          (named_parts t xs.0.0 n k (lhs_at text g c p (name_base t) t.end (HeadAt.base (name_base t) (name_at text g c p t n)) _ _ k h))
      | else h f ↦ absurd cc
    ]

super_parts_sound : {text : Bytes} {g : Rules} {r : Readers} (s : AreSound text g r) (c : Context) (p : ℕ) (t : Token)
    → WordAt text AtOperand (codes "super") p t → (y : Parts × ℕ) → super_parts text r c t ≡ Some y → PartsAt text g c p y.0 y.1
unfolding super_parts
super_parts_sound {text} {g} {r} s c p t w y e =
    let xs = bind_some (all_turns text (suffixes_turn text r c) t.end) _ _ e in
    elim (chosen (follow_super xs.0.0 && has_plain_templates xs.0.0) (Some (parts (base_v.Super t) None xs.0.0, xs.0.1)) None _ xs.2) [
      | when h f ↦ let b = both _ _ h in
          given (PartsAt text g c p) _ _ y f
          (unnamed_parts (base_v.Super t) xs.0.0 (super_at text g c p t w _ _ (suffixes_sound s c t.end _ xs.1) b.0 b.1))
      | else h f ↦ absurd cc
    ]

other_parts_sound : {text : Bytes} {g : Rules} {r : Readers} (s : AreSound text g r) (c : Context) (p : ℕ) (t : Token) → token text AtOperand p ≡ Some t
    → (y : Parts × ℕ) → other_parts text r c p t ≡ Some y → PartsAt text g c p y.0 y.1
unfolding other_parts
other_parts_sound {text} {g} {r} s c p t at y e =
    let x = bind_some (base_from text r c p t) _ _ e in
    parts_behind_sound s c p _ _ (HeadAt.base _ (base_from_sound s c p t at _ x.1)) y x.2

import_parts_sound : {text : Bytes} {g : Rules} {r : Readers} (s : AreSound text g r) (c : Context) (p : ℕ) (t : Token)
    → WordAt text AtOperand (codes "import") p t → (y : Parts × ℕ) → import_parts text r c t ≡ Some y → PartsAt text g c p y.0 y.1
unfolding import_parts
import_parts_sound {text} {g} {r} s c p t w y e =
    let x = bind_some (import_base text r c t) _ _ e in parts_behind_sound s c p _ _ (import_base_sound s c p t w _ x.1) y x.2

parts_from_sound : {text : Bytes} {g : Rules} {r : Readers} (s : AreSound text g r) (c : Context) (p : ℕ) (t : Token) → token text AtOperand p ≡ Some t
    → (y : Parts × ℕ) → parts_from text r c p t ≡ Some y → PartsAt text g c p y.0 y.1
unfolding parts_from begins_with_name
parts_from_sound {text} {g} {r} s c p t at y e =
    elim (chosen (begins_with_name text c t) (parts_behind text r c (name_base t) (Some t) t.end) _ _ e) [
      | when h f ↦ named_parts_sound s c p t (named at (both _ _ h).0) y f
      | else h f ↦ elim (chosen (is_word text (codes "super") t) (super_parts text r c t) _ _ f) [
        | when i k ↦ super_parts_sound s c p t (worded at i) y k
        | else i k ↦ elim (chosen (is_word text (codes "import") t) (import_parts text r c t) (other_parts text r c p t) _ k) [
          | when j l ↦ import_parts_sound s c p t (worded at j) y l
          | else j l ↦ other_parts_sound s c p t at y l
        ]
      ]
    ]

pub parts_sound : {text : Bytes} {g : Rules} {r : Readers} (s : AreSound text g r) (c : Context) → Sound (PartsAt text g c) (read_parts text r c)
unfolding read_parts
parts_sound {text} {g} {r} s c p y e =
    let t = bind_some (token text AtOperand p) _ _ e in parts_from_sound s c p t.0 t.1 y t.2

pub parts_lhs : (text : Bytes) (g : Rules) (c : Context) (p : ℕ) (x : Parts) (q : ℕ) → PartsAt text g c p x q → LHSAt text g c p (lhs_of x) q
parts_lhs text g c p _ q (named_parts t xs n k h) = h
parts_lhs text g c p _ q (unnamed_parts x xs h) = h

pub lhs_sound : {text : Bytes} {g : Rules} {r : Readers} (s : AreSound text g r) (c : Context) → Sound (LHSAt text g c) (read_lhs text r c)
unfolding read_lhs
lhs_sound {text} {g} {r} s c p y e =
    let v = bind_some (read_parts text r c p) _ _ e in
    given (LHSAt text g c p) _ _ y v.2 (parts_lhs text g c p _ _ (parts_sound s c p _ v.1))

-- `new`

not_both : (b : Bool) → b ≡ true → b ≡ false → ⊥
not_both true e f = absurd cc
not_both false e f = absurd cc

no_such : (text : Bytes) (goal : Goal) (p : ℕ) (t : Token) (test : Token → Bool) → token text goal p ≡ Some t → test t ≡ false → (u : Token)
    → IsAt text goal p u → test u ≡ true → ⊥
no_such text goal p t test e h u at k =
    not_both (test t) (subst (λ z. test z ≡ true) (some_is _ _ (sym (there_read text goal p u at) ∙ e)) k) h

dot_begins : (text : Bytes) (p : ℕ) (u : Token) → MarkAt text AtOperator (codes ".") p u → begins_member text u ≡ true
unfolding begins_member is_one_mark
dot_begins text p u m = rw (m.is.kind_is, m.spelled_as) refl

index_begins : (text : Bytes) (p : ℕ) (u : Token) → MarkAt text AtOperator (codes "[") p u → begins_member text u ≡ true
unfolding begins_member is_one_mark
index_begins text p u m = rw (m.is.kind_is, m.spelled_as) refl

template_begins : (text : Bytes) (p : ℕ) (u : Token) → KindAt text AtOperator kind.Template p u → begins_member text u ≡ true
unfolding begins_member is_one_mark
template_begins text p u k = rw k.kind_is refl

no_member_there : (text : Bytes) (p : ℕ) (t : Token) → token text AtOperator p ≡ Some t → begins_member text t ≡ false → HasNoMember text p
no_member_there text p t e h = record {
  no_dot = λ u m. no_such text AtOperator p t (begins_member text) e h u m.is.read (dot_begins text p u m);
  no_index = λ u m. no_such text AtOperator p t (begins_member text) e h u m.is.read (index_begins text p u m);
  no_template = λ u k. no_such text AtOperator p t (begins_member text) e h u k.read (template_begins text p u k);
}

-- the suffixes of a callee
abbrev MembersAt : Bytes → Rules → Context → ℕ → List Suffix → ℕ → Type 0
MembersAt text g c p xs q = Chain (SuffixAt text g c) p xs q × (list_all is_member xs ≡ true) × HasNoMember text q

more_members : (text : Bytes) (g : Rules) (c : Context) (p : ℕ) (x : Suffix) (a : ℕ) → MemberSuffixAt text g c p x a → (xs : List Suffix) (q : ℕ)
    → MembersAt text g c a xs q → MembersAt text g c p (x ∷ xs) q
more_members text g c p x a h xs q k = (Chain.more x xs h.0 k.0, rw h.1 k.1, k.2)

members_turn_sound : {text : Bytes} {g : Rules} {r : Readers} (s : AreSound text g r) (c : Context) (p : ℕ) (u : Turn Suffix)
    → members_turn text r c p ≡ Some u → Joins (MembersAt text g c) p u
unfolding members_turn next_member
members_turn_sound {text} {g} {r} s c p u e =
    let t = bind_some (token text AtOperator p) _ _ e in
    elim (chosen (begins_member text t.0) (next_member text r c t.0) (Some (ended p)) _ t.2) [
      | when h f ↦ let v = bind_some (member_suffix text r c t.0) _ _ f in
          subst (Joins (MembersAt text g c) p) (some_is _ _ v.2)
          (λ ys z k. more_members text g c p _ _ (member_suffix_sound s c p t.0 t.1 _ v.1) ys z k)
      | else h f ↦ subst (Joins (MembersAt text g c) p) (some_is _ _ f) (Chain.none, refl, no_member_there text p t.0 t.1 h)
    ]

members_sound : {text : Bytes} {g : Rules} {r : Readers} (s : AreSound text g r) (c : Context) (p : ℕ) (y : List Suffix × ℕ)
    → all_turns text (members_turn text r c) p ≡ Some y → MembersAt text g c p y.0 y.1
members_sound {text} {g} {r} s c p y e = turns_sound text (MembersAt text g c) _ (members_turn_sound s c) p y e

callee_behind_sound : {text : Bytes} {g : Rules} {r : Readers} (s : AreSound text g r) (c : Context) (p : ℕ) (x : Base) (a : ℕ) → BaseAt text g c p x a
    → (y : LHS × ℕ) → callee_behind text r c x a ≡ Some y → CalleeAt text g c p y.0 y.1
unfolding callee_behind
callee_behind_sound {text} {g} {r} s c p x a is y e =
    let xs = bind_some (all_turns text (members_turn text r c) a) _ _ e in
    let k = members_sound s c a _ xs.1 in
    given (CalleeAt text g c p) _ _ y xs.2 (CalleeAt.base x xs.0.0 is k.0 k.1 k.2)

super_callee_at : (text : Bytes) (g : Rules) (c : Context) (p : ℕ) (t : Token) → WordAt text AtOperand (codes "super") p t → (xs : List Suffix) (q : ℕ)
    → MembersAt text g c t.end xs q → follow_super xs ≡ true → CalleeAt text g c p (lhs (base_v.Super t) xs) q
super_callee_at text g c p t w [] q k f = absurd cc
super_callee_at text g c p t w (x ∷ xs) q k f = CalleeAt.super t x xs w f k.0 k.1 k.2

super_callee_sound : {text : Bytes} {g : Rules} {r : Readers} (s : AreSound text g r) (c : Context) (p : ℕ) (t : Token)
    → WordAt text AtOperand (codes "super") p t → (y : LHS × ℕ) → super_callee text r c t ≡ Some y → CalleeAt text g c p y.0 y.1
unfolding super_callee
super_callee_sound {text} {g} {r} s c p t w y e =
    let xs = bind_some (all_turns text (members_turn text r c) t.end) _ _ e in
    elim (chosen (follow_super xs.0.0) (Some (lhs (base_v.Super t) xs.0.0, xs.0.1)) None _ xs.2) [
      | when h f ↦ given (CalleeAt text g c p) _ _ y f (super_callee_at text g c p t w _ _ (members_sound s c t.end _ xs.1) h)
      | else h f ↦ absurd cc
    ]

callee_from_sound : {text : Bytes} {g : Rules} {r : Readers} (s : AreSound text g r) (c : Context) (p : ℕ) (t : Token) → token text AtOperand p ≡ Some t
    → (y : LHS × ℕ) → callee_from text r c p t ≡ Some y → CalleeAt text g c p y.0 y.1
unfolding callee_from begins_with_name other_callee
callee_from_sound {text} {g} {r} s c p t at y e =
    elim (chosen (begins_with_name text c t) (callee_behind text r c (name_base t) t.end) _ _ e) [
      | when h f ↦ callee_behind_sound s c p _ _ (name_at text g c p t (named at (both _ _ h).0)) y f
      | else h f ↦ elim (chosen (is_word text (codes "super") t) (super_callee text r c t) (other_callee text r c p t) _ f) [
        | when i k ↦ super_callee_sound s c p t (worded at i) y k
        | else i k ↦ let x = bind_some (base_from text r c p t) _ _ k in callee_behind_sound s c p _ _ (base_from_sound s c p t at _ x.1) y x.2
      ]
    ]

callee_sound : {text : Bytes} {g : Rules} {r : Readers} (s : AreSound text g r) (c : Context) → Sound (CalleeAt text g c) (read_callee text r c)
unfolding read_callee
callee_sound {text} {g} {r} s c p y e =
    let t = bind_some (token text AtOperand p) _ _ e in callee_from_sound s c p t.0 t.1 y t.2

new_behind_sound : {text : Bytes} {g : Rules} {r : Readers} (s : AreSound text g r) (c : Context) (p : ℕ) (new : Token) (x : LHS) (q : ℕ)
    → WordAt text AtOperand (codes "new") p new → CalleeAt text g c new.end x q → (y : Base × ℕ) → new_behind text r c new x q ≡ Some y
    → NewAt text g c p y.0 y.1
unfolding new_behind new_with_args
new_behind_sound {text} {g} {r} s c p new x q w is y e =
    let t = bind_some (token text AtOperator q) _ _ e in
    elim (chosen (is_mark text (codes "(") t.0) (new_with_args text r c new x t.0) (Some (base_v.New new x None, q)) _ t.2) [
      | when h f ↦ let v = bind_some (args_behind text r c t.0) _ _ f in
          given (NewAt text g c p) _ _ y v.2 (NewAt.with_args new x v.0.0 w is (args_behind_sound s c q t.0 (marked t.1 h) _ v.1))
      | else h f ↦ given (NewAt text g c p) _ _ y f (NewAt.without new x w is (no_mark t.1 h))
    ]

pub new_sound : {text : Bytes} {g : Rules} {r : Readers} (s : AreSound text g r) (c : Context) → Sound (NewAt text g c) (read_new text r c)
unfolding read_new
new_sound {text} {g} {r} s c p y e =
    let w = bind_some (word text AtOperand (codes "new") p) _ _ e in
    let x = bind_some (read_callee text r c w.0.end) _ _ w.2 in
    new_behind_sound s c p w.0 x.0.0 x.0.1 (word_there w.1) (callee_sound s c _ _ x.1) y x.2

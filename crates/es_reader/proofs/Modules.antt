-- Imports, exports and the items of a program that are read stand in the text by the grammar.
use Rattle.std.proofs.Common.{◌≡◌, ℕ, Bool, true, false, ◌||◌, List, Some, None, refl}
use Rattle.std.specs.Prelude.{codes}
use Rattle.es_tree.specs.declared.tokens.Token.{Token}
use Rattle.es_tree.specs.declared.tokens.TokenKind.{TokenKind}
use Rattle.es_tree.specs.declared.tokens.TokenKind.TheVariants as kind
use Rattle.es_tree.specs.declared.tokens.Goal.{Goal}
use Rattle.es_tree.specs.declared.tokens.Goal.TheVariants.{Operand, Operator}
use Rattle.es_tree.specs.declared.tokens.ProgramGoal.{ProgramGoal}
use Rattle.es_tree.specs.declared.tokens.ProgramGoal.TheVariants.{Script, Module}
use Rattle.es_tree.specs.declared.parts.Separated.{Separated}
use Rattle.es_tree.specs.declared.program.Clause.{Clause}
use Rattle.es_tree.specs.declared.program.Clause.TheVariants as clause_v
use Rattle.es_tree.specs.declared.program.Export.{Export}
use Rattle.es_tree.specs.declared.program.ExportName.{ExportName}
use Rattle.es_tree.specs.declared.program.ImportName.TheVariants as import_name_v
use Rattle.es_tree.specs.declared.program.Named.{Named}
use Rattle.es_tree.specs.declared.program.Names.{Names}
use Rattle.es_tree.specs.declared.program.ProgramItem.{ProgramItem}
use Rattle.es_tree.specs.declared.program.Space.{Space}
use Rattle.es_grammar.specs.declared.places.Context.{Context}
use Rattle.es_grammar.specs.declared.places.Stop.{Stop}
use Rattle.es_grammar.specs.Reading.{Bytes, KindAt, MarkAt, NameAt, WordAt}
use Rattle.es_grammar.specs.Semicolons.{SemiAt, stop, exported_names, request}
use Rattle.es_grammar.specs.Lists.{Chain, ListAt, SomeAt}
use Rattle.es_grammar.specs.Rules.{Rules}
use Rattle.es_grammar.specs.Modules.{AttributeAt, ClauseAt, ExportAt, ExportNameAt, ImportAt, ImportNameAt, LocalNameAt, ModuleItemAt, NamedAt, NamesAt, OptionalWithAt, RenamedAt, ScriptItemAt, SpaceAt, StringAt, WithAt}
use Rattle.es_grammar.specs.Statements.{LexicalAt}
use Rattle.es_grammar.specs.Parses.{ProgramItemAt, at_top}
use Rattle.es_reader.specs.Basics.{token, is_mark, is_word, is_name, mark, word, name}
use Rattle.es_reader.specs.Lists.{read_list_to}
use Rattle.es_reader.specs.Readers.{Readers}
use Rattle.es_reader.specs.Semis.{read_semi}
use Rattle.es_reader.specs.Functions.{read_closed_item, read_func, read_class}
use Rattle.es_reader.specs.Statements.{begins_declaration, lex_behind, var_behind}
use Rattle.es_reader.specs.declared.pieces.Source.{Source}
use Rattle.es_reader.specs.declared.pieces.Tail.{Tail}
use Rattle.es_reader.specs.Modules.{are_local, attribute_behind, bare_import, begins_import, clause_by, default_assign, default_by, default_class, default_func, end, export_all, export_by, export_class, export_declaration, export_default, export_from, export_func, export_item, export_lex, export_local, export_names, export_space, export_star, export_star_by, export_var, id_name, import_by, import_from, import_item, import_name_by, is_end_kind, is_id, is_string, is_string_kind, name_clause, name_named, name_space, named_behind, named_clause, names_behind, names_by, plain_item, read_attribute, read_export, read_export_name, read_import, read_import_name, read_items, read_module_item, read_optional_with, read_program_item, read_renamed, read_source, read_tail, renamed_behind, renamed_import, second_clause, second_clause_by, source_behind, space_behind, space_clause, string, with_behind}
use Rattle.es_reader.specs.Soundness.{AreSound, Sound, SoundEnded}
use Rattle.es_reader.proofs.Steps.{bind_some, both, chosen, when, else, first, given, id_name_is, is_false, kind_there, mark_there, marked, name_there, named, one_of, second, taken_if, word_there, worded}
use Rattle.es_reader.proofs.Lists.{chain_sound, list_to_sound}
use Rattle.es_reader.proofs.Semis.{semi_sound}
use Rattle.es_reader.proofs.Classes.{class_sound, closed_item_sound, func_sound}
use Rattle.es_reader.proofs.Declarations.{lex_behind_sound, var_behind_sound}
use Rattle.es_reader.proofs.Statements.{no_declaration}

string_kind_is : (k : TokenKind) → is_string_kind k ≡ true → k ≡ kind.String
string_kind_is kind.String e = refl
string_kind_is _ e = absurd cc

end_kind_is : (k : TokenKind) → is_end_kind k ≡ true → k ≡ kind.End
end_kind_is kind.End e = refl
end_kind_is _ e = absurd cc

string_there : {text : Bytes} {p : ℕ} {t : Token} → string text p ≡ Some t → StringAt text p t
unfolding string
string_there e = let x = taken_if _ is_string _ e in kind_there x.0 (string_kind_is _ x.1)

id_there : {text : Bytes} {p : ℕ} {t : Token} → id_name text p ≡ Some t → KindAt text Operand kind.IdName p t
unfolding id_name
id_there e = let x = taken_if _ is_id _ e in kind_there x.0 (id_name_is _ x.1)

pub end_there : {text : Bytes} {p : ℕ} {t : Token} → end text p ≡ Some t → KindAt text Operand kind.End p t
unfolding end
end_there e = let x = taken_if _ (λ t. is_end_kind t.kind) _ e in kind_there x.0 (end_kind_is _ x.1)

id_read : (text : Bytes) (p : ℕ) (t : Token) → id_name text p ≡ Some t → token text Operand p ≡ Some t
unfolding id_name
id_read text p t e = (taken_if _ is_id _ e).0

space_sound : (text : Bytes) (c : Context) (p : ℕ) (t : Token) → MarkAt text Operand (codes "*") p t → (y : Space × ℕ)
    → space_behind text c t ≡ Some y → SpaceAt text c p y.0 y.1
unfolding space_behind
space_sound text c p t m y e =
    let u = bind_some (word text Operand (codes "as") t.end) _ _ e in
    let n = bind_some (name text Operand c u.0.end) _ _ u.2 in
    given (SpaceAt text c p) _ _ y n.2 (SpaceAt.space t u.0 n.0 m (word_there u.1) (name_there n.1))

import_name_sound : (text : Bytes) (c : Context) → Sound (ImportNameAt text c) (read_import_name text c)
unfolding read_import_name import_name_by renamed_import
import_name_sound text c p y e =
    let t = bind_some (id_name text p) _ _ e in
    let u = bind_some (token text Operand t.0.end) _ _ t.2 in
    elim (chosen (is_word text (codes "as") u.0) (renamed_import text c t.0 u.0) _ _ u.2) [
      | when h f ↦ let n = bind_some (name text Operand c u.0.end) _ _ f in
          given (ImportNameAt text c p) _ _ y n.2 (ImportNameAt.renamed t.0 u.0 n.0 (id_there t.1) (worded u.1 h) (name_there n.1))
      | else h f ↦ elim (chosen (is_name text c t.0) (Some (import_name_v.Name t.0, t.0.end)) None _ f) [
        | when i k ↦ given (ImportNameAt text c p) _ _ y k (ImportNameAt.name t.0 (named (id_read text p t.0 t.1) i))
        | else i k ↦ absurd cc
      ]
    ]

named_behind_sound : (text : Bytes) (c : Context) (p : ℕ) (t : Token) → MarkAt text Operand (codes "{") p t → (y : Named × ℕ)
    → named_behind text c t ≡ Some y → NamedAt text c p y.0 y.1
unfolding named_behind
named_behind_sound text c p t m y e =
    let xs = bind_some (read_list_to text (codes "}") (read_import_name text c) t.end) _ _ e in
    let l = list_to_sound text (codes "}") _ (ImportNameAt text c) (import_name_sound text c) t.end xs.0 xs.1 in
    given (NamedAt text c p) _ _ y xs.2 (NamedAt.named t xs.0.0 xs.0.1 m l.1 l.2)

second_clause_sound : (text : Bytes) (c : Context) (p : ℕ) (t comma : Token) → NameAt text Operand c p t → MarkAt text Operator (codes ",") t.end comma
    → (y : Clause × ℕ) → second_clause text c t comma ≡ Some y → ClauseAt text c p y.0 y.1
unfolding second_clause second_clause_by name_space name_named
second_clause_sound text c p t comma n m y e =
    let u = bind_some (token text Operand comma.end) _ _ e in
    elim (chosen (is_mark text (codes "*") u.0) (name_space text c t comma u.0) _ _ u.2) [
      | when h f ↦ let x = bind_some (space_behind text c u.0) _ _ f in
          given (ClauseAt text c p) _ _ y x.2 (ClauseAt.name_space t comma x.0.0 n m (space_sound text c _ u.0 (marked u.1 h) _ x.1))
      | else h f ↦ elim (chosen (is_mark text (codes "{") u.0) (name_named text c t comma u.0) None _ f) [
        | when i k ↦ let x = bind_some (named_behind text c u.0) _ _ k in
            given (ClauseAt text c p) _ _ y x.2 (ClauseAt.name_named t comma x.0.0 n m (named_behind_sound text c _ u.0 (marked u.1 i) _ x.1))
        | else i k ↦ absurd cc
      ]
    ]

name_clause_sound : (text : Bytes) (c : Context) (p : ℕ) (t : Token) → NameAt text Operand c p t → (y : Clause × ℕ) → name_clause text c t ≡ Some y
    → ClauseAt text c p y.0 y.1
unfolding name_clause
name_clause_sound text c p t n y e =
    let u = bind_some (token text Operator t.end) _ _ e in
    elim (chosen (is_mark text (codes ",") u.0) (second_clause text c t u.0) (Some (clause_v.Name t, t.end)) _ u.2) [
      | when h f ↦ second_clause_sound text c p t u.0 n (marked u.1 h) y f
      | else h f ↦ given (ClauseAt text c p) _ _ y f (ClauseAt.name t n)
    ]

clause_sound : (text : Bytes) (c : Context) (p : ℕ) (t : Token) → token text Operand p ≡ Some t → (y : Clause × ℕ) → clause_by text c t ≡ Some y
    → ClauseAt text c p y.0 y.1
unfolding clause_by space_clause named_clause
clause_sound text c p t at y e =
    elim (chosen (is_mark text (codes "*") t) (space_clause text c t) _ _ e) [
      | when h f ↦ let x = bind_some (space_behind text c t) _ _ f in
          given (ClauseAt text c p) _ _ y x.2 (ClauseAt.space x.0.0 (space_sound text c p t (marked at h) _ x.1))
      | else h f ↦ elim (chosen (is_mark text (codes "{") t) (named_clause text c t) _ _ f) [
        | when i k ↦ let x = bind_some (named_behind text c t) _ _ k in
            given (ClauseAt text c p) _ _ y x.2 (ClauseAt.named x.0.0 (named_behind_sound text c p t (marked at i) _ x.1))
        | else i k ↦ elim (chosen (is_name text c t) (name_clause text c t) None _ k) [
          | when j l ↦ name_clause_sound text c p t (named at j) y l
          | else j l ↦ absurd cc
        ]
      ]
    ]

attribute_sound : (text : Bytes) → Sound (AttributeAt text) (read_attribute text)
unfolding read_attribute attribute_behind
attribute_sound text p y e =
    let t = bind_some (token text Operand p) _ _ e in
    elim (chosen (is_id t.0 || is_string t.0) (attribute_behind text t.0) None _ t.2) [
      | when h f ↦ let colon = bind_some (mark text Operator (codes ":") t.0.end) _ _ f in
          let value = bind_some (string text colon.0.end) _ _ colon.2 in
          elim (one_of _ _ h) [
            | first i ↦ given (AttributeAt text p) _ _ y value.2
                (AttributeAt.word t.0 colon.0 value.0 (kind_there t.1 (id_name_is _ i)) (mark_there colon.1) (string_there value.1))
            | second i ↦ given (AttributeAt text p) _ _ y value.2
                (AttributeAt.string t.0 colon.0 value.0 (kind_there t.1 (string_kind_is _ i)) (mark_there colon.1) (string_there value.1))
          ]
      | else h f ↦ absurd cc
    ]

optional_with_sound : (text : Bytes) → SoundEnded (OptionalWithAt text) (read_optional_with text)
unfolding read_optional_with with_behind
optional_with_sound text p y e =
    let t = bind_some (token text Operator p) _ _ e in
    elim (chosen (is_word text (codes "with") t.0) (with_behind text t.0) (Some (None, stop p request)) _ t.2) [
      | when h f ↦ let left = bind_some (mark text Operand (codes "{") t.0.end) _ _ f in
          let xs = bind_some (read_list_to text (codes "}") (read_attribute text) left.0.end) _ _ left.2 in
          let l = list_to_sound text (codes "}") _ (AttributeAt text) (attribute_sound text) left.0.end xs.0 xs.1 in
          given (OptionalWithAt text p) _ _ y xs.2
          (OptionalWithAt.some _ (WithAt.with t.0 left.0 xs.0.0 xs.0.1 (worded t.1 h) (mark_there left.1) l.1 l.2))
      | else h f ↦ given (OptionalWithAt text p) _ _ y f OptionalWithAt.none
    ]

-- what stands behind a request
record TailAt (text : Bytes) (p : ℕ) (x : Tail) (q : ℕ) : Type 0 where
  pub stop_at : Stop
  pub attributes_at : OptionalWithAt text p x.attributes stop_at
  pub semi_at : SemiAt text stop_at x.semi q

tail_sound : (text : Bytes) → Sound (TailAt text) (read_tail text)
unfolding read_tail
tail_sound text p y e =
    let x = bind_some (read_optional_with text p) _ _ e in
    let semi = bind_some (read_semi text x.0.1) _ _ x.2 in
    let here : TailAt text p (record { attributes = x.0.0; semi = semi.0.0 }) semi.0.1 =
    record { stop_at = x.0.1; attributes_at = optional_with_sound text p _ x.1; semi_at = semi_sound text _ _ semi.1 } in
    given (TailAt text p) _ _ y semi.2 here

-- `from`, a request and what stands behind it
record SourceAt (text : Bytes) (goal : Goal) (p : ℕ) (x : Source) (q : ℕ) : Type 0 where
  pub word_at : WordAt text goal (codes "from") p x.from_word
  pub request_at : StringAt text x.from_word.end x.request
  pub tail_at : TailAt text x.request.end x.tail q

source_behind_sound : (text : Bytes) (goal : Goal) (p : ℕ) (t : Token) → WordAt text goal (codes "from") p t → (y : Source × ℕ)
    → source_behind text t ≡ Some y → SourceAt text goal p y.0 y.1
unfolding source_behind
source_behind_sound text goal p t w y e =
    let u = bind_some (string text t.end) _ _ e in
    let x = bind_some (read_tail text u.0.end) _ _ u.2 in
    let here : SourceAt text goal p (record { from_word = t; request = u.0; tail = x.0.0 }) x.0.1 =
    record { word_at = w; request_at = string_there u.1; tail_at = tail_sound text _ _ x.1 } in
    given (SourceAt text goal p) _ _ y x.2 here

source_sound : (text : Bytes) (goal : Goal) → Sound (SourceAt text goal) (read_source text goal)
unfolding read_source
source_sound text goal p y e =
    let t = bind_some (word text goal (codes "from") p) _ _ e in source_behind_sound text goal p t.0 (word_there t.1) y t.2

import_sound : (text : Bytes) (c : Context) → Sound (ImportAt text c) (read_import text c)
unfolding read_import import_by bare_import import_from
import_sound text c p y e =
    let t = bind_some (word text Operand (codes "import") p) _ _ e in
    let u = bind_some (token text Operand t.0.end) _ _ t.2 in
    elim (chosen (is_string u.0) (bare_import text t.0 u.0) (import_from text c t.0 u.0) _ u.2) [
      | when h f ↦ let x = bind_some (read_tail text u.0.end) _ _ f in
          let k = tail_sound text _ _ x.1 in
          given (ImportAt text c p) _ _ y x.2
          (ImportAt.bare t.0 u.0 x.0.0.attributes x.0.0.semi (word_there t.1) (kind_there u.1 (string_kind_is _ h)) k.attributes_at k.semi_at)
      | else h f ↦ let x = bind_some (clause_by text c u.0) _ _ f in
          let z = bind_some (read_source text Operator x.0.1) _ _ x.2 in
          let k = source_sound text Operator _ _ z.1 in
          given (ImportAt text c p) _ _ y z.2
          (ImportAt.from t.0 x.0.0 z.0.0.from_word z.0.0.request z.0.0.tail.attributes z.0.0.tail.semi (word_there t.1)
          (clause_sound text c _ u.0 u.1 _ x.1) k.word_at k.request_at k.tail_at.attributes_at k.tail_at.semi_at)
    ]

renamed_sound : (text : Bytes) → Sound (RenamedAt text) (read_renamed text)
unfolding read_renamed renamed_behind
renamed_sound text p y e =
    let t = bind_some (token text Operator p) _ _ e in
    elim (chosen (is_word text (codes "as") t.0) (renamed_behind text t.0) (Some (None, p)) _ t.2) [
      | when h f ↦ let n = bind_some (id_name text t.0.end) _ _ f in
          given (RenamedAt text p) _ _ y n.2 (RenamedAt.renamed t.0 n.0 (worded t.1 h) (id_there n.1))
      | else h f ↦ given (RenamedAt text p) _ _ y f RenamedAt.none
    ]

export_name_sound : (text : Bytes) → Sound (ExportNameAt text) (read_export_name text)
unfolding read_export_name
export_name_sound text p y e =
    let t = bind_some (id_name text p) _ _ e in
    let x = bind_some (read_renamed text t.0.end) _ _ t.2 in
    given (ExportNameAt text p) _ _ y x.2 (ExportNameAt.name t.0 x.0.0 (id_there t.1) (renamed_sound text _ _ x.1))

names_sound : (text : Bytes) (p : ℕ) (t : Token) → MarkAt text Operand (codes "{") p t → (y : Names × ℕ) → names_behind text t ≡ Some y
    → NamesAt text (ExportNameAt text) p y.0 y.1
unfolding names_behind
names_sound text p t m y e =
    let xs = bind_some (read_list_to text (codes "}") (read_export_name text) t.end) _ _ e in
    let l = list_to_sound text (codes "}") _ (ExportNameAt text) (export_name_sound text) t.end xs.0 xs.1 in
    given (NamesAt text (ExportNameAt text) p) _ _ y xs.2 (NamesAt.names t xs.0.0 xs.0.1 m l.1 l.2)

-- names that are local

local_name : (text : Bytes) (c : Context) (p : ℕ) (x : ExportName) (q : ℕ) → ExportNameAt text p x q → is_name text c x.name ≡ true
    → LocalNameAt text c p x q
unfolding is_name
local_name text c p _ q (ExportNameAt.name t x k r) e = LocalNameAt.name t x (record { is = k; free = is_false _ (both _ _ e).1 }) r

some_local : (text : Bytes) (c : Context) (p : ℕ) (xs : List (Separated ExportName)) (q : ℕ) → SomeAt text (ExportNameAt text) p xs q
    → are_local text c xs ≡ true → SomeAt text (LocalNameAt text c) p xs q
some_local text c p _ q (SomeAt.last x h) e = SomeAt.last x (local_name text c p x q h (both _ _ e).0)
some_local text c p _ _ (SomeAt.ended x comma h m) e = SomeAt.ended x comma (local_name text c p x _ h (both _ _ e).0) m
some_local text c p _ q (SomeAt.more x comma xs h m k) e =
    let b = both _ _ e in SomeAt.more x comma xs (local_name text c p x _ h b.0) m (some_local text c _ xs q k b.1)

list_local : (text : Bytes) (c : Context) (p : ℕ) (xs : List (Separated ExportName)) (q : ℕ) → ListAt text (ExportNameAt text) p xs q
    → are_local text c xs ≡ true → ListAt text (LocalNameAt text c) p xs q
list_local text c p _ _ ListAt.none e = ListAt.none
list_local text c p _ q (ListAt.some xs h) e = ListAt.some xs (some_local text c p xs q h e)

names_local : (text : Bytes) (c : Context) (p : ℕ) (x : Names) (q : ℕ) → NamesAt text (ExportNameAt text) p x q → are_local text c x.list ≡ true
    → NamesAt text (LocalNameAt text c) p x q
names_local text c p _ _ (NamesAt.names left xs right m l m2) e = NamesAt.names left xs right m (list_local text c _ xs _ l e) m2

-- Exports, each from the token behind `export` on

names_by_sound : (text : Bytes) (g : Rules) (c : Context) (p : ℕ) (t : Token) (x : Names) (a : ℕ) → WordAt text Operand (codes "export") p t
    → NamesAt text (ExportNameAt text) t.end x a → (u : Token) → token text Operator a ≡ Some u → (y : Export × ℕ) → names_by text c t x a u ≡ Some y
    → ExportAt text g c p y.0 y.1
unfolding names_by export_from export_local
names_by_sound text g c p t x a w n u at y e =
    elim (chosen (is_word text (codes "from") u) (export_from text t x u) _ _ e) [
      | when h f ↦ let z = bind_some (source_behind text u) _ _ f in
          let k = source_behind_sound text Operator a u (worded at h) _ z.1 in
          given (ExportAt text g c p) _ _ y z.2
          (ExportAt.from t x z.0.0.from_word z.0.0.request z.0.0.tail.attributes z.0.0.tail.semi w n k.word_at k.request_at k.tail_at.attributes_at
          k.tail_at.semi_at)
      | else h f ↦ elim (chosen (are_local text c x.list) (export_local text t x a) None _ f) [
        | when i k ↦ let semi = bind_some (read_semi text (stop a exported_names)) _ _ k in
            given (ExportAt text g c p) _ _ y semi.2 (ExportAt.names t x semi.0.0 w (names_local text c _ x a n i) (semi_sound text _ _ semi.1))
        | else i k ↦ absurd cc
      ]
    ]

export_star_sound : (text : Bytes) (g : Rules) (c : Context) (p : ℕ) (t star : Token) → WordAt text Operand (codes "export") p t
    → MarkAt text Operand (codes "*") t.end star → (y : Export × ℕ) → export_star text t star ≡ Some y → ExportAt text g c p y.0 y.1
unfolding export_star export_star_by export_all export_space
export_star_sound text g c p t star w m y e =
    let u = bind_some (token text Operand star.end) _ _ e in
    elim (chosen (is_word text (codes "from") u.0) (export_all text t star u.0) _ _ u.2) [
      | when h f ↦ let z = bind_some (source_behind text u.0) _ _ f in
          let k = source_behind_sound text Operand _ u.0 (worded u.1 h) _ z.1 in
          given (ExportAt text g c p) _ _ y z.2
          (ExportAt.all t star z.0.0.from_word z.0.0.request z.0.0.tail.attributes z.0.0.tail.semi w m k.word_at k.request_at
          k.tail_at.attributes_at k.tail_at.semi_at)
      | else h f ↦ elim (chosen (is_word text (codes "as") u.0) (export_space text t star u.0) None _ f) [
        | when i k ↦ let n = bind_some (id_name text u.0.end) _ _ k in
            let z = bind_some (read_source text Operator n.0.end) _ _ n.2 in
            let l = source_sound text Operator _ _ z.1 in
            given (ExportAt text g c p) _ _ y z.2
            (ExportAt.space t star u.0 n.0 z.0.0.from_word z.0.0.request z.0.0.tail.attributes z.0.0.tail.semi w m (worded u.1 i) (id_there n.1)
            l.word_at l.request_at l.tail_at.attributes_at l.tail_at.semi_at)
        | else i k ↦ absurd cc
      ]
    ]

export_default_sound : {text : Bytes} {g : Rules} {r : Readers} (s : AreSound text g r) (c : Context) (p : ℕ) (t u : Token)
    → WordAt text Operand (codes "export") p t → WordAt text Operand (codes "default") t.end u
    → (y : Export × ℕ) → export_default text r c t u ≡ Some y → ExportAt text g c p y.0 y.1
unfolding export_default default_by default_class default_func default_assign
export_default_sound {text} {g} {r} s c p t u w d y e =
    let v = bind_some (token text Operand u.end) _ _ e in
    elim (chosen (is_word text (codes "class") v.0) (default_class text r c t u) _ _ v.2) [
      | when h f ↦ let x = bind_some (read_class text r c false u.end) _ _ f in
          given (ExportAt text g c p) _ _ y x.2 (ExportAt.default_class t u x.0.0 w d (class_sound s c false _ _ x.1))
      | else h f ↦ elim (chosen (begins_declaration text v.0) (default_func text r c t u) (default_assign text r c t u) _ f) [
        | when i k ↦ let x = bind_some (read_func text r c false u.end) _ _ k in
            given (ExportAt text g c p) _ _ y x.2 (ExportAt.default_func t u x.0.0 w d (func_sound s c false _ _ x.1))
        | else i k ↦ let x = bind_some (r.assign c u.end) _ _ k in
            let semi = bind_some (read_semi text x.0.1) _ _ x.2 in
            given (ExportAt text g c p) _ _ y semi.2
            (ExportAt.default t u x.0.0 semi.0.0 w d (no_declaration text _ v.0 v.1 i) (s.assign c _ _ x.1) (semi_sound text _ _ semi.1))
      ]
    ]

export_lex_sound : {text : Bytes} {g : Rules} {r : Readers} (s : AreSound text g r) (c : Context) (is_const : Bool) (p : ℕ) (t u : Token)
    → WordAt text Operand (codes "export") p t → LexicalAt text t.end u is_const
    → (y : Export × ℕ) → export_lex text r c is_const t u ≡ Some y → ExportAt text g c p y.0 y.1
unfolding export_lex
export_lex_sound {text} {g} {r} s c is_const p t u w l y e =
    let x = bind_some (lex_behind text r c is_const u) _ _ e in
    given (ExportAt text g c p) _ _ y x.2 (ExportAt.lex t x.0.0 w (lex_behind_sound s c is_const t.end u l _ x.1))

export_declaration_sound : {text : Bytes} {g : Rules} {r : Readers} (s : AreSound text g r) (c : Context) (p : ℕ) (t u : Token)
    → WordAt text Operand (codes "export") p t → token text Operand t.end ≡ Some u
    → (y : Export × ℕ) → export_declaration text r c t u ≡ Some y → ExportAt text g c p y.0 y.1
unfolding export_declaration export_var export_class export_func
export_declaration_sound {text} {g} {r} s c p t u w at y e =
    elim (chosen (is_word text (codes "var") u) (export_var text r c t u) _ _ e) [
      | when h f ↦ let x = bind_some (var_behind text r c u) _ _ f in
          given (ExportAt text g c p) _ _ y x.2 (ExportAt.var t x.0.0 w (var_behind_sound s c t.end u (worded at h) _ x.1))
      | else h f ↦ elim (chosen (is_word text (codes "let") u) (export_lex text r c false t u) _ _ f) [
        | when h f ↦ export_lex_sound s c false p t u w (LexicalAt.let_word u (worded at h)) y f
        | else h f ↦ elim (chosen (is_word text (codes "const") u) (export_lex text r c true t u) _ _ f) [
          | when h f ↦ export_lex_sound s c true p t u w (LexicalAt.const_word u (worded at h)) y f
          | else h f ↦ elim (chosen (is_word text (codes "class") u) (export_class text r c t) (export_func text r c t) _ f) [
            | when h f ↦ let x = bind_some (read_class text r c true t.end) _ _ f in
                given (ExportAt text g c p) _ _ y x.2 (ExportAt.class t x.0.0 w (class_sound s c true _ _ x.1))
            | else h f ↦ let x = bind_some (read_func text r c true t.end) _ _ f in
                given (ExportAt text g c p) _ _ y x.2 (ExportAt.func t x.0.0 w (func_sound s c true _ _ x.1))
          ]
        ]
      ]
    ]

export_sound : {text : Bytes} {g : Rules} {r : Readers} (s : AreSound text g r) (c : Context) → Sound (ExportAt text g c) (read_export text r c)
unfolding read_export export_by export_names
export_sound {text} {g} {r} s c p y e =
    let t = bind_some (word text Operand (codes "export") p) _ _ e in
    let u = bind_some (token text Operand t.0.end) _ _ t.2 in
    let w = word_there t.1 in
    elim (chosen (is_mark text (codes "*") u.0) (export_star text t.0 u.0) _ _ u.2) [
      | when h f ↦ export_star_sound text g c p t.0 u.0 w (marked u.1 h) y f
      | else h f ↦ elim (chosen (is_mark text (codes "{") u.0) (export_names text c t.0 u.0) _ _ f) [
        | when h f ↦ let x = bind_some (names_behind text u.0) _ _ f in
            let v = bind_some (token text Operator x.0.1) _ _ x.2 in
            names_by_sound text g c p t.0 x.0.0 x.0.1 w (names_sound text _ u.0 (marked u.1 h) _ x.1) v.0 v.1 y v.2
        | else h f ↦ elim (chosen (is_word text (codes "default") u.0) (export_default text r c t.0 u.0) (export_declaration text r c t.0 u.0) _ f) [
          | when h f ↦ export_default_sound s c p t.0 u.0 w (worded u.1 h) y f
          | else h f ↦ export_declaration_sound s c p t.0 u.0 w u.1 y f
        ]
      ]
    ]

script_item_sound : {text : Bytes} {g : Rules} {r : Readers} (s : AreSound text g r) (c : Context) → Sound (ScriptItemAt text g c) (plain_item text r c)
unfolding plain_item
script_item_sound {text} {g} {r} s c p y e =
    let x = bind_some (read_closed_item text r c p) _ _ e in
    given (ScriptItemAt text g c p) _ _ y x.2 (ScriptItemAt.item x.0.0 (closed_item_sound s c p _ x.1))

module_item_sound : {text : Bytes} {g : Rules} {r : Readers} (s : AreSound text g r) (c : Context) → Sound (ModuleItemAt text g c) (read_module_item text r c)
unfolding read_module_item plain_item import_item export_item
module_item_sound {text} {g} {r} s c p y e =
    let t = bind_some (token text Operand p) _ _ e in
    elim (chosen (begins_import text t.0) (import_item text c p) _ _ t.2) [
      | when h f ↦ let x = bind_some (read_import text c p) _ _ f in
          given (ModuleItemAt text g c p) _ _ y x.2 (ModuleItemAt.import_from x.0.0 (import_sound text c p _ x.1))
      | else h f ↦ elim (chosen (is_word text (codes "export") t.0) (export_item text r c p) (plain_item text r c p) _ f) [
        | when i k ↦ let x = bind_some (read_export text r c p) _ _ k in
            given (ModuleItemAt text g c p) _ _ y x.2 (ModuleItemAt.export x.0.0 (export_sound s c p _ x.1))
        | else i k ↦ let x = bind_some (read_closed_item text r c p) _ _ k in
            given (ModuleItemAt text g c p) _ _ y x.2 (ModuleItemAt.item x.0.0 (closed_item_sound s c p _ x.1))
      ]
    ]

program_item_sound : {text : Bytes} {g : Rules} {r : Readers} (s : AreSound text g r) (goal : ProgramGoal)
    → Sound (ProgramItemAt text g goal) (read_program_item text r goal)
program_item_sound s Script = script_item_sound s (at_top Script)
program_item_sound s Module = module_item_sound s (at_top Module)

pub items_sound : {text : Bytes} {g : Rules} {r : Readers} (s : AreSound text g r) (goal : ProgramGoal) (p : ℕ) (y : List ProgramItem × ℕ)
    → read_items text r goal p ≡ Some y → Chain (ProgramItemAt text g goal) p y.0 y.1
unfolding read_items
items_sound {text} {g} {r} s goal p y e = chain_sound text _ _ (ProgramItemAt text g goal) (program_item_sound s goal) p y e

-- Bindings, parameters, functions, methods and classes that are read stand in the text by the grammar.
use Rattle.std.proofs.Common.{◌≡◌, ℕ, List, Some, None, refl}
use Rattle.std.specs.Prelude.{codes}
use Rattle.es_tree.specs.declared.tokens.Token.{Token}
use Rattle.es_tree.specs.declared.tokens.TokenKind.{TokenKind}
use Rattle.es_tree.specs.declared.tokens.TokenKind.TheVariants as kind
use Rattle.es_tree.specs.declared.tokens.Goal.TheVariants.{Operand, Operator}
use Rattle.es_tree.specs.declared.parts.Separated.{Separated}
use Rattle.es_tree.specs.declared.parts.Initializer.{Initializer}
use Rattle.es_tree.specs.declared.parts.KeyOf.{KeyOf}
use Rattle.es_tree.specs.declared.parts.KeyOf.TheVariants as key
use Rattle.es_tree.specs.declared.parts.PropertyKey.{PropertyKey}
use Rattle.es_tree.specs.declared.cycle.Assign.{Assign}
use Rattle.es_tree.specs.declared.cycle.Bind.{Bind}
use Rattle.es_tree.specs.declared.cycle.Bind.TheVariants as bind_v
use Rattle.es_tree.specs.declared.cycle.BindProperty.{BindProperty}
use Rattle.es_tree.specs.declared.cycle.Decl.{Decl}
use Rattle.es_tree.specs.declared.cycle.Params.{Params, roll-Params}
use Rattle.es_grammar.specs.declared.places.Context.{Context}
use Rattle.es_grammar.specs.declared.places.Stop.{Stop}
use Rattle.es_grammar.specs.Contexts.{bracketed}
use Rattle.es_grammar.specs.Reading.{Bytes, MarkAt, NameAt}
use Rattle.es_grammar.specs.Semicolons.{stop, declared_name}
use Rattle.es_grammar.specs.Lists.{EachAt, EachElementAt, ElementsAt, ListAt}
use Rattle.es_grammar.specs.Rules.{Rules}
use Rattle.es_grammar.specs.Functions.{BindAt, BindPatternAt, BindPropertyAt, DeclAt, ElementKeyAt, InitializerAt, KeyAt, NameBindAt, ParamsAt, PartAt, PropertyKeyAt}
use Rattle.es_reader.specs.Basics.{token, is_mark, is_name, mark, name}
use Rattle.es_reader.specs.Loops.{all_turns}
use Rattle.es_reader.specs.Lists.{elements_turn, list_turn, rest_behind}
use Rattle.es_reader.specs.Readers.{Readers}
use Rattle.es_reader.specs.Functions.{initializer_behind, read_initializer, read_bind, decl, decl_initialised, decl_behind, read_decl, read_part, read_computed_key, read_key_by, read_key, read_element_key_by, read_element_key, read_property_key, property_behind, keyed_property, property_initialised, property_by, named_property, read_bind_property, read_name_bind, ends_parts, is_rest, Elements, array_with_rest, array_without_rest, array_behind, read_array_bind, Properties, object_with_rest, object_without_rest, object_behind, read_object_bind, read_bind_pattern, params_with_rest, params_behind, read_params}
use Rattle.es_reader.specs.Soundness.{AreSound, Sound, SoundEnded}
use Rattle.es_reader.proofs.Steps.{bind_some, both, chosen, when, else, given, kind_there, mark_there, marked, name_there, named}
use Rattle.es_reader.proofs.Lists.{each_of_elements, each_of_list, elements_sound, list_sound, rest_sound}

pub initializer_behind_sound : {text : Bytes} {g : Rules} {r : Readers} (s : AreSound text g r) (c : Context) (p : ℕ) (t : Token)
    → MarkAt text Operator (codes "=") p t → (y : Initializer Assign × Stop) → initializer_behind text r c t ≡ Some y → InitializerAt text g c p y.0 y.1
unfolding initializer_behind
initializer_behind_sound {text} {g} {r} s c p t m y e =
    let x = bind_some (r.assign c t.end) _ _ e in
    given (InitializerAt text g c p) _ _ y x.2 (InitializerAt.initializer t x.0.0 m (s.assign c _ _ x.1))

pub initializer_sound : {text : Bytes} {g : Rules} {r : Readers} (s : AreSound text g r) (c : Context)
    → SoundEnded (InitializerAt text g c) (read_initializer text r c)
unfolding read_initializer
initializer_sound {text} {g} {r} s c p y e =
    let t = bind_some (mark text Operator (codes "=") p) _ _ e in initializer_behind_sound s c p t.0 (mark_there t.1) y t.2

pub bind_sound : {text : Bytes} {g : Rules} {r : Readers} (s : AreSound text g r) (c : Context) → Sound (BindAt text g c) (read_bind text r c)
unfolding read_bind
bind_sound {text} {g} {r} s c p y e =
    let t = bind_some (token text Operand p) _ _ e in
    elim (chosen (is_name text c t.0) (Some (bind_v.Name t.0, t.0.end)) (r.bind_pattern c p) _ t.2) [
      | when h f ↦ given (BindAt text g c p) _ _ y f (BindAt.name t.0 (named t.1 h))
      | else h f ↦ BindAt.pattern y.0 (s.bind_pattern c p y f)
    ]

pub decl_initialised_sound : {text : Bytes} {g : Rules} {r : Readers} (s : AreSound text g r) (c : Context) (p : ℕ) (x : Bind) (q : ℕ)
    → BindAt text g c p x q → (t : Token) → MarkAt text Operator (codes "=") q t → (y : Decl × Stop) → decl_initialised text r c x t ≡ Some y
    → DeclAt text g c p y.0 y.1
unfolding decl_initialised
decl_initialised_sound {text} {g} {r} s c p x q h t m y e =
    let i = bind_some (initializer_behind text r c t) _ _ e in
    given (DeclAt text g c p) _ _ y i.2 (DeclAt.initialised x i.0.0 h (initializer_behind_sound s c q t m _ i.1))

decl_behind_sound : {text : Bytes} {g : Rules} {r : Readers} (s : AreSound text g r) (c : Context) (p : ℕ) (x : Bind) (q : ℕ)
    → BindAt text g c p x q → (y : Decl × Stop) → decl_behind text r c x q ≡ Some y → DeclAt text g c p y.0 y.1
unfolding decl_behind
decl_behind_sound {text} {g} {r} s c p x q h y e =
    let t = bind_some (token text Operator q) _ _ e in
    elim (chosen (is_mark text (codes "=") t.0) (decl_initialised text r c x t.0) (Some (decl x None, stop q declared_name)) _ t.2) [
      | when i f ↦ decl_initialised_sound s c p x q h t.0 (marked t.1 i) y f
      | else i f ↦ given (DeclAt text g c p) _ _ y f (DeclAt.plain x h)
    ]

decl_sound : {text : Bytes} {g : Rules} {r : Readers} (s : AreSound text g r) (c : Context) → SoundEnded (DeclAt text g c) (read_decl text r c)
unfolding read_decl
decl_sound {text} {g} {r} s c p y e =
    let x = bind_some (read_bind text r c p) _ _ e in decl_behind_sound s c p _ _ (bind_sound s c p _ x.1) y x.2

pub part_sound : {text : Bytes} {g : Rules} {r : Readers} (s : AreSound text g r) (c : Context) → Sound (PartAt text g c) (read_part text r c)
unfolding read_part
part_sound {text} {g} {r} s c p y e =
    let x = bind_some (read_decl text r (bracketed c) p) _ _ e in
    given (PartAt text g c p) _ _ y x.2 (PartAt.part x.0.0 (decl_sound s (bracketed c) p _ x.1))

computed_key_sound : {text : Bytes} {g : Rules} {r : Readers} (s : AreSound text g r) (c : Context) (p : ℕ) (t : Token)
    → MarkAt text Operand (codes "[") p t → (y : KeyOf Assign × ℕ) → read_computed_key text r c t ≡ Some y → KeyAt text g c p y.0 y.1
unfolding read_computed_key
computed_key_sound {text} {g} {r} s c p t m y e =
    let x = bind_some (r.assign (bracketed c) t.end) _ _ e in
    let u = bind_some (mark text Operator (codes "]") x.0.1.at) _ _ x.2 in
    given (KeyAt text g c p) _ _ y u.2 (KeyAt.computed t x.0.0 u.0 m (s.assign (bracketed c) _ _ x.1) (mark_there u.1))

key_by_sound : {text : Bytes} {g : Rules} {r : Readers} (s : AreSound text g r) (c : Context) (p : ℕ) (t : Token) → token text Operand p ≡ Some t
    → (k : TokenKind) → t.kind ≡ k → (y : KeyOf Assign × ℕ) → read_key_by text r c t k ≡ Some y → KeyAt text g c p y.0 y.1
key_by_sound {text} {g} {r} s c p t at kind.IdName k y e = given (KeyAt text g c p) _ _ y e (KeyAt.id_name t (kind_there at k))
key_by_sound {text} {g} {r} s c p t at kind.String k y e = given (KeyAt text g c p) _ _ y e (KeyAt.string t (kind_there at k))
key_by_sound {text} {g} {r} s c p t at kind.Number k y e = given (KeyAt text g c p) _ _ y e (KeyAt.number t (kind_there at k))
key_by_sound {text} {g} {r} s c p t at kind.Punctuator k y e =
    elim (chosen (is_mark text (codes "[") t) (read_computed_key text r c t) None _ e) [
      | when h f ↦ computed_key_sound s c p t (marked at h) y f
      | else h f ↦ absurd cc
    ]
key_by_sound s c p t at _ k y e = absurd cc

pub key_sound : {text : Bytes} {g : Rules} {r : Readers} (s : AreSound text g r) (c : Context) → Sound (KeyAt text g c) (read_key text r c)
unfolding read_key
key_sound {text} {g} {r} s c p y e = let t = bind_some (token text Operand p) _ _ e in key_by_sound s c p t.0 t.1 t.0.kind refl y t.2

element_key_by_sound : {text : Bytes} {g : Rules} {r : Readers} (s : AreSound text g r) (c : Context) (p : ℕ) (t : Token) → token text Operand p ≡ Some t
    → (k : TokenKind) → t.kind ≡ k → (y : KeyOf Assign × ℕ) → read_element_key_by text r c t k ≡ Some y → ElementKeyAt text g c p y.0 y.1
element_key_by_sound {text} {g} {r} s c p t at kind.Private k y e = given (ElementKeyAt text g c p) _ _ y e (ElementKeyAt.private t (kind_there at k))
element_key_by_sound s c p t at j k y e = ElementKeyAt.public y.0 (key_by_sound s c p t at j k y e)

pub element_key_sound : {text : Bytes} {g : Rules} {r : Readers} (s : AreSound text g r) (c : Context) → Sound (ElementKeyAt text g c) (read_element_key text r c)
unfolding read_element_key
element_key_sound {text} {g} {r} s c p y e =
    let t = bind_some (token text Operand p) _ _ e in element_key_by_sound s c p t.0 t.1 t.0.kind refl y t.2

pub property_key_sound : {text : Bytes} {g : Rules} {r : Readers} (s : AreSound text g r) (c : Context)
    → Sound (PropertyKeyAt text g c) (read_property_key text r c)
unfolding read_property_key
property_key_sound {text} {g} {r} s c p y e =
    let k = bind_some (read_key text r c p) _ _ e in
    let u = bind_some (mark text Operator (codes ":") k.0.1) _ _ k.2 in
    given (PropertyKeyAt text g c p) _ _ y u.2 (PropertyKeyAt.property k.0.0 u.0 (key_sound s c p _ k.1) (mark_there u.1))

property_behind_sound : {text : Bytes} {g : Rules} {r : Readers} (s : AreSound text g r) (c : Context) (p : ℕ) (k : PropertyKey Assign) (q : ℕ)
    → PropertyKeyAt text g c p k q → (y : BindProperty × ℕ) → property_behind text r c k q ≡ Some y → BindPropertyAt text g c p y.0 y.1
unfolding property_behind
property_behind_sound {text} {g} {r} s c p k q h y e =
    let x = bind_some (read_part text r c q) _ _ e in
    given (BindPropertyAt text g c p) _ _ y x.2 (BindPropertyAt.keyed k x.0.0 h (part_sound s c q _ x.1))

property_initialised_sound : {text : Bytes} {g : Rules} {r : Readers} (s : AreSound text g r) (c : Context) (p : ℕ) (t u : Token)
    → NameAt text Operand c p t → MarkAt text Operator (codes "=") t.end u → (y : BindProperty × ℕ) → property_initialised text r c t u ≡ Some y
    → BindPropertyAt text g c p y.0 y.1
unfolding property_initialised
property_initialised_sound {text} {g} {r} s c p t u n m y e =
    let i = bind_some (initializer_behind text r (bracketed c) u) _ _ e in
    given (BindPropertyAt text g c p) _ _ y i.2 (BindPropertyAt.initialised t i.0.0 n (initializer_behind_sound s (bracketed c) _ u m _ i.1))

named_property_sound : {text : Bytes} {g : Rules} {r : Readers} (s : AreSound text g r) (c : Context) (p : ℕ) (t : Token)
    → NameAt text Operand c p t → (y : BindProperty × ℕ) → named_property text r c t ≡ Some y → BindPropertyAt text g c p y.0 y.1
unfolding named_property property_by
named_property_sound {text} {g} {r} s c p t n y e =
    let u = bind_some (token text Operator t.end) _ _ e in
    elim (chosen (is_mark text (codes ":") u.0) (property_behind text r c (record { key = key.IdName t; colon = u.0 }) u.0.end) _ _ u.2) [
      | when h f ↦ property_behind_sound s c p _ _ (PropertyKeyAt.property (key.IdName t) u.0 (KeyAt.id_name t n.is) (marked u.1 h)) y f
      | else h f ↦ elim (chosen (is_mark text (codes "=") u.0) (property_initialised text r c t u.0) _ _ f) [
        | when i k ↦ property_initialised_sound s c p t u.0 n (marked u.1 i) y k
        | else i k ↦ given (BindPropertyAt text g c p) _ _ y k (BindPropertyAt.name t n)
      ]
    ]

bind_property_sound : {text : Bytes} {g : Rules} {r : Readers} (s : AreSound text g r) (c : Context)
    → Sound (BindPropertyAt text g c) (read_bind_property text r c)
unfolding read_bind_property keyed_property
bind_property_sound {text} {g} {r} s c p y e =
    let t = bind_some (token text Operand p) _ _ e in
    elim (chosen (is_name text c t.0) (named_property text r c t.0) (keyed_property text r c p) _ t.2) [
      | when h f ↦ named_property_sound s c p t.0 (named t.1 h) y f
      | else h f ↦ let k = bind_some (read_property_key text r c p) _ _ f in property_behind_sound s c p _ _ (property_key_sound s c p _ k.1) y k.2
    ]

name_bind_sound : (text : Bytes) (c : Context) → Sound (NameBindAt text c) (read_name_bind text c)
unfolding read_name_bind
name_bind_sound text c p y e =
    let t = bind_some (name text Operand c p) _ _ e in given (NameBindAt text c p) _ _ y t.2 (NameBindAt.name t.0 (name_there t.1))

array_with_rest_sound : {text : Bytes} {g : Rules} {r : Readers} (s : AreSound text g r) (c : Context) (p : ℕ) (left : Token) (xs : Elements) (a : ℕ)
    (dots : Token) → MarkAt text Operand (codes "[") p left → EachElementAt text (PartAt text g c) left.end xs a → MarkAt text Operand (codes "...") a dots
    → (y : Bind × ℕ) → array_with_rest text r c left xs dots ≡ Some y → BindPatternAt text g c p y.0 y.1
unfolding array_with_rest
array_with_rest_sound {text} {g} {r} s c p left xs a dots m each d y e =
    let x = bind_some (rest_behind (read_bind text r c) dots) _ _ e in
    let u = bind_some (mark text Operator (codes "]") x.0.1) _ _ x.2 in
    given (BindPatternAt text g c p) _ _ y u.2
    (BindPatternAt.array_rest left xs x.0.0 u.0 m each (rest_sound text _ _ (bind_sound s c) a dots d _ x.1) (mark_there u.1))

array_behind_sound : {text : Bytes} {g : Rules} {r : Readers} (s : AreSound text g r) (c : Context) (p : ℕ) (left : Token) (xs : Elements) (a : ℕ)
    → MarkAt text Operand (codes "[") p left → ElementsAt text (PartAt text g c) left.end xs a
    → (y : Bind × ℕ) → array_behind text r c left xs a ≡ Some y → BindPatternAt text g c p y.0 y.1
unfolding array_behind array_without_rest
array_behind_sound {text} {g} {r} s c p left xs a m elements y e =
    let t = bind_some (token text Operand a) _ _ e in
    elim (chosen (is_rest text xs t.0) (array_with_rest text r c left xs t.0) (array_without_rest text left xs a) _ t.2) [
      | when h f ↦ let b = both _ _ h in
          array_with_rest_sound s c p left xs a t.0 m (each_of_elements text (PartAt text g c) _ _ _ elements b.1) (marked t.1 b.0) y f
      | else h f ↦ let u = bind_some (mark text Operator (codes "]") a) _ _ f in
          given (BindPatternAt text g c p) _ _ y u.2 (BindPatternAt.array left xs u.0 m elements (mark_there u.1))
    ]

array_bind_sound : {text : Bytes} {g : Rules} {r : Readers} (s : AreSound text g r) (c : Context) (p : ℕ) (left : Token)
    → MarkAt text Operand (codes "[") p left → (y : Bind × ℕ) → read_array_bind text r c left ≡ Some y → BindPatternAt text g c p y.0 y.1
unfolding read_array_bind
array_bind_sound {text} {g} {r} s c p left m y e =
    let xs = bind_some (all_turns text (elements_turn text (ends_parts text (codes "]")) (read_part text r c)) left.end) _ _ e in
    array_behind_sound s c p left _ _ m (elements_sound text _ _ (PartAt text g c) (part_sound s c) left.end _ xs.1) y xs.2

object_with_rest_sound : {text : Bytes} {g : Rules} {r : Readers} (s : AreSound text g r) (c : Context) (p : ℕ) (left : Token) (xs : Properties) (a : ℕ)
    (dots : Token) → MarkAt text Operand (codes "{") p left → EachAt text (BindPropertyAt text g c) left.end xs a → MarkAt text Operand (codes "...") a dots
    → (y : Bind × ℕ) → object_with_rest text c left xs dots ≡ Some y → BindPatternAt text g c p y.0 y.1
unfolding object_with_rest
object_with_rest_sound {text} {g} {r} s c p left xs a dots m each d y e =
    let x = bind_some (rest_behind (read_name_bind text c) dots) _ _ e in
    let u = bind_some (mark text Operator (codes "}") x.0.1) _ _ x.2 in
    given (BindPatternAt text g c p) _ _ y u.2
    (BindPatternAt.object_rest left xs x.0.0 u.0 m each (rest_sound text _ _ (name_bind_sound text c) a dots d _ x.1) (mark_there u.1))

object_behind_sound : {text : Bytes} {g : Rules} {r : Readers} (s : AreSound text g r) (c : Context) (p : ℕ) (left : Token) (xs : Properties) (a : ℕ)
    → MarkAt text Operand (codes "{") p left → ListAt text (BindPropertyAt text g c) left.end xs a
    → (y : Bind × ℕ) → object_behind text c left xs a ≡ Some y → BindPatternAt text g c p y.0 y.1
unfolding object_behind object_without_rest
object_behind_sound {text} {g} {r} s c p left xs a m list y e =
    let t = bind_some (token text Operand a) _ _ e in
    elim (chosen (is_rest text xs t.0) (object_with_rest text c left xs t.0) (object_without_rest text left xs a) _ t.2) [
      | when h f ↦ let b = both _ _ h in
          object_with_rest_sound s c p left xs a t.0 m (each_of_list text (BindPropertyAt text g c) _ _ _ list b.1) (marked t.1 b.0) y f
      | else h f ↦ let u = bind_some (mark text Operator (codes "}") a) _ _ f in
          given (BindPatternAt text g c p) _ _ y u.2 (BindPatternAt.object left xs u.0 m list (mark_there u.1))
    ]

object_bind_sound : {text : Bytes} {g : Rules} {r : Readers} (s : AreSound text g r) (c : Context) (p : ℕ) (left : Token)
    → MarkAt text Operand (codes "{") p left → (y : Bind × ℕ) → read_object_bind text r c left ≡ Some y → BindPatternAt text g c p y.0 y.1
unfolding read_object_bind
object_bind_sound {text} {g} {r} s c p left m y e =
    let xs = bind_some (all_turns text (list_turn text (ends_parts text (codes "}")) (read_bind_property text r c)) left.end) _ _ e in
    object_behind_sound s c p left _ _ m (list_sound text _ _ (BindPropertyAt text g c) (bind_property_sound s c) left.end _ xs.1) y xs.2

pub bind_pattern_sound : {text : Bytes} {g : Rules} {r : Readers} (s : AreSound text g r) (c : Context)
    → Sound (BindPatternAt text g c) (read_bind_pattern text r c)
unfolding read_bind_pattern
bind_pattern_sound {text} {g} {r} s c p y e =
    let t = bind_some (token text Operand p) _ _ e in
    elim (chosen (is_mark text (codes "[") t.0) (read_array_bind text r c t.0) _ _ t.2) [
      | when h f ↦ array_bind_sound s c p t.0 (marked t.1 h) y f
      | else h f ↦ elim (chosen (is_mark text (codes "{") t.0) (read_object_bind text r c t.0) None _ f) [
        | when i k ↦ object_bind_sound s c p t.0 (marked t.1 i) y k
        | else i k ↦ absurd cc
      ]
    ]

params_with_rest_sound : {text : Bytes} {g : Rules} {r : Readers} (s : AreSound text g r) (c : Context) (p : ℕ) (xs : List (Separated Decl)) (a : ℕ)
    (dots : Token) → EachAt text (PartAt text g c) p xs a → MarkAt text Operand (codes "...") a dots
    → (y : Params × ℕ) → params_with_rest text r c xs dots ≡ Some y → ParamsAt text g c p y.0 y.1
unfolding params_with_rest
params_with_rest_sound {text} {g} {r} s c p xs a dots each d y e =
    let x = bind_some (rest_behind (read_bind text r c) dots) _ _ e in
    given (ParamsAt text g c p) _ _ y x.2 (ParamsAt.with_rest xs x.0.0 each (rest_sound text _ _ (bind_sound s c) a dots d _ x.1))

params_behind_sound : {text : Bytes} {g : Rules} {r : Readers} (s : AreSound text g r) (c : Context) (p : ℕ) (xs : List (Separated Decl)) (a : ℕ)
    → ListAt text (PartAt text g c) p xs a → (y : Params × ℕ) → params_behind text r c xs a ≡ Some y → ParamsAt text g c p y.0 y.1
unfolding params_behind
params_behind_sound {text} {g} {r} s c p xs a list y e =
    let t = bind_some (token text Operand a) _ _ e in
    elim (chosen (is_rest text xs t.0) (params_with_rest text r c xs t.0) (Some (roll-Params (record { list = xs; rest = None }), a)) _ t.2) [
      | when h f ↦ let b = both _ _ h in
          params_with_rest_sound s c p xs a t.0 (each_of_list text (PartAt text g c) _ _ _ list b.1) (marked t.1 b.0) y f
      | else h f ↦ given (ParamsAt text g c p) _ _ y f (ParamsAt.list xs list)
    ]

pub params_sound : {text : Bytes} {g : Rules} {r : Readers} (s : AreSound text g r) (c : Context) → Sound (ParamsAt text g c) (read_params text r c)
unfolding read_params
params_sound {text} {g} {r} s c p y e =
    let xs = bind_some (all_turns text (list_turn text (ends_parts text (codes ")")) (read_part text r c)) p) _ _ e in
    params_behind_sound s c p _ _ (list_sound text _ _ (PartAt text g c) (part_sound s c) p _ xs.1) y xs.2

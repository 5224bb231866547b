-- Bodies, functions, methods and classes that are read stand in the text by the grammar.
use Rattle.std.proofs.Common.{◌≡◌, ℕ, Bool, true, false, List, Option, Some, None, refl}
use Rattle.std.specs.Prelude.{codes, is_some}
use Rattle.es_tree.specs.declared.tokens.Token.{Token}
use Rattle.es_tree.specs.declared.tokens.Goal.TheVariants.{Operand, Operator}
use Rattle.es_tree.specs.declared.parts.Body.{Body}
use Rattle.es_tree.specs.declared.parts.KeyOf.{KeyOf}
use Rattle.es_tree.specs.declared.cycle.Item.{Item}
use Rattle.es_tree.specs.declared.cycle.Assign.{Assign}
use Rattle.es_tree.specs.declared.cycle.Params.{Params}
use Rattle.es_tree.specs.declared.cycle.Func.{Func}
use Rattle.es_tree.specs.declared.cycle.Method.{Method}
use Rattle.es_tree.specs.declared.cycle.Method.TheVariants as method_v
use Rattle.es_tree.specs.declared.cycle.Element.{Element}
use Rattle.es_tree.specs.declared.cycle.Element.TheVariants as element_v
use Rattle.es_tree.specs.declared.cycle.Class.{Class}
use Rattle.es_grammar.specs.declared.places.Context.{Context}
use Rattle.es_grammar.specs.Contexts.{in_function, in_class}
use Rattle.es_grammar.specs.Reading.{Bytes, MarkAt, WordAt}
use Rattle.es_grammar.specs.Semicolons.{IsClosedItem, stop}
use Rattle.es_grammar.specs.Rules.{Rules}
use Rattle.es_grammar.specs.Functions.{AsyncAt, BodyAt, ClassAt, ClosedItemAt, ElementAt, ElementKeyAt, FuncAt, HeritageAt, MethodAt, OptionalNameAt, ParamsAt, StarAt, StaticAt, ending_of_key}
use Rattle.es_reader.specs.Basics.{Reader, token, is_mark, is_word, is_name, mark, word}
use Rattle.es_reader.specs.Loops.{all_turns}
use Rattle.es_reader.specs.Lists.{chain_turn}
use Rattle.es_reader.specs.Readers.{Readers}
use Rattle.es_reader.specs.Semis.{holds, read_semi}
use Rattle.es_reader.specs.Functions.{Callable, begins_accessor, begins_async_key, begins_async_method, begins_method, begins_starred_key, belonging_words, belongs, body_behind, async_func_behind, class_named, element_behind, element_by, field_initialised, fits_name, func, func_behind, func_called, heritage_behind, initializer_behind, is_function_on_line, keyed_element, method_behind, method_element, plain_field, plain_method_element, read_body, read_callable, read_class, read_closed_item, read_element, read_element_key, read_func, read_getter, read_heritage, read_method, read_optional_name, read_params, read_part, read_setter, read_star, read_starred_method, static_block, static_by, static_element}
use Rattle.es_reader.specs.Soundness.{AreSound, Sound}
use Rattle.es_reader.proofs.Steps.{bind_some, both, chosen, when, else, given, held, is_false, mark_there, marked, named, neither, no_mark, no_word_of, nothing_there, read_there, word_there, worded}
use Rattle.es_reader.proofs.Lists.{chain_sound}
use Rattle.es_reader.proofs.Semis.{semi_sound}
use Rattle.es_reader.proofs.Functions.{element_key_sound, initializer_behind_sound, params_sound, part_sound}

closed_by : (text : Bytes) (q : ℕ) (o : Option Token) → token text Operand q ≡ o → holds (belongs text) o ≡ false → IsClosedItem text q
unfolding belongs belonging_words
closed_by text q None e h = record {
  no_else = λ u k. nothing_there text Operand q e u k.is.read;
  no_catch = λ u k. nothing_there text Operand q e u k.is.read;
  no_finally = λ u k. nothing_there text Operand q e u k.is.read;
  no_colon = λ u k. nothing_there text Operand q e u k.is.read;
}
closed_by text q (Some t) e h = let n = neither _ _ h in record {
  no_else = no_word_of belonging_words e n.0 (codes "else") refl;
  no_catch = no_word_of belonging_words e n.0 (codes "catch") refl;
  no_finally = no_word_of belonging_words e n.0 (codes "finally") refl;
  no_colon = no_mark e n.1;
}

pub closed_item_sound : {text : Bytes} {g : Rules} {r : Readers} (s : AreSound text g r) (c : Context) → Sound (ClosedItemAt text g c) (read_closed_item text r c)
unfolding read_closed_item
closed_item_sound {text} {g} {r} s c p y e =
    let x = bind_some (r.item c p) _ _ e in
    elim (chosen (holds (belongs text) (token text Operand x.0.1)) None (Some x.0) _ x.2) [
      | when h f ↦ absurd cc
      | else h f ↦ given (ClosedItemAt text g c p) _ _ y f (ClosedItemAt.closed x.0.0 (s.item c p _ x.1) (closed_by text x.0.1 _ refl h))
    ]

pub body_behind_sound : {text : Bytes} {g : Rules} {r : Readers} (s : AreSound text g r) (c : Context) (p : ℕ) (left : Token)
    → MarkAt text Operand (codes "{") p left → (y : Body Item × ℕ) → body_behind text r c left ≡ Some y → BodyAt text g c p y.0 y.1
unfolding body_behind
body_behind_sound {text} {g} {r} s c p left m y e =
    let xs = bind_some (all_turns text (chain_turn text (is_mark text (codes "}")) (read_closed_item text r c)) left.end) _ _ e in
    let u = bind_some (mark text Operand (codes "}") xs.0.1) _ _ xs.2 in
    given (BodyAt text g c p) _ _ y u.2
    (BodyAt.body left xs.0.0 u.0 m (chain_sound text _ _ (ClosedItemAt text g c) (closed_item_sound s c) left.end _ xs.1) (mark_there u.1))

pub body_sound : {text : Bytes} {g : Rules} {r : Readers} (s : AreSound text g r) (c : Context) → Sound (BodyAt text g c) (read_body text r c)
unfolding read_body
body_sound {text} {g} {r} s c p y e =
    let t = bind_some (mark text Operand (codes "{") p) _ _ e in body_behind_sound s c p t.0 (mark_there t.1) y t.2

-- `(` Params `)` and a body
data CallableAt (text : Bytes) (g : Rules) (c : Context) : ℕ → Callable → ℕ → Type 0 where
  callable : {p e q : ℕ} (left : Token) (params : Params) (right : Token) (body : Body Item) → MarkAt text Operator (codes "(") p left
      → ParamsAt text g c left.end params e → MarkAt text Operator (codes ")") e right → BodyAt text g c right.end body q
      → CallableAt text g c p (record { left = left; params = params; right = right; body = body }) q

callable_sound : {text : Bytes} {g : Rules} {r : Readers} (s : AreSound text g r) (c : Context) → Sound (CallableAt text g c) (read_callable text r c)
unfolding read_callable
callable_sound {text} {g} {r} s c p y e =
    let left = bind_some (mark text Operator (codes "(") p) _ _ e in
    let params = bind_some (read_params text r c left.0.end) _ _ left.2 in
    let right = bind_some (mark text Operator (codes ")") params.0.1) _ _ params.2 in
    let body = bind_some (read_body text r c right.0.end) _ _ right.2 in
    given (CallableAt text g c p) _ _ y body.2
    (callable left.0 params.0.0 right.0 body.0.0 (mark_there left.1) (params_sound s c _ _ params.1) (mark_there right.1) (body_sound s c _ _ body.1))

abbrev StarIs : Bytes → ℕ → Option Token → ℕ → Type 0
StarIs text p x q = StarAt text p x (is_some x) q

star_sound : (text : Bytes) → Sound (StarIs text) (read_star text)
unfolding read_star
star_sound text p y e =
    let t = bind_some (token text Operator p) _ _ e in
    elim (chosen (is_mark text (codes "*") t.0) (Some (Some t.0, t.0.end)) (Some (None, p)) _ t.2) [
      | when h f ↦ given (StarIs text p) _ _ y f (StarAt.star t.0 (marked t.1 h))
      | else h f ↦ given (StarIs text p) _ _ y f StarAt.none
    ]

optional_name_sound : (text : Bytes) (c : Context) → Sound (OptionalNameAt text c) (read_optional_name text c)
unfolding read_optional_name
optional_name_sound text c p y e =
    let t = bind_some (token text Operand p) _ _ e in
    elim (chosen (is_name text c t.0) (Some (Some t.0, t.0.end)) (Some (None, p)) _ t.2) [
      | when h f ↦ given (OptionalNameAt text c p) _ _ y f (OptionalNameAt.name t.0 (named t.1 h))
      | else h f ↦ given (OptionalNameAt text c p) _ _ y f OptionalNameAt.none
    ]

name_fits : (named : Bool) (n : Option Token) → fits_name named n ≡ true → named ≡ true → is_some n ≡ true
name_fits true n e h = e
name_fits false n e h = absurd cc

func_called_of : {text : Bytes} {g : Rules} (c : Context) (named : Bool) (p a b d : ℕ) (async : Option Token) (function : Token) (star n : Option Token)
    → AsyncAt text p async (is_some async) a → WordAt text Operand (codes "function") a function → StarAt text function.end star (is_some star) b
    → OptionalNameAt text c b n d → fits_name named n ≡ true → (x : Callable) (q : ℕ)
    → CallableAt text g (in_function (is_some async) (is_some star) c) d x q → FuncAt text g c named p (func async function star n x) q
func_called_of c named p a b d async function star n i w k o fits _ _ (callable left params right body m ps m2 bd) =
    FuncAt.func async function star n left params right body i w k o (name_fits named n fits) m ps m2 bd

func_called_sound : {text : Bytes} {g : Rules} {r : Readers} (s : AreSound text g r) (c : Context) (named : Bool) (p a b d : ℕ) (async : Option Token)
    (function : Token) (star n : Option Token)
    → AsyncAt text p async (is_some async) a → WordAt text Operand (codes "function") a function → StarAt text function.end star (is_some star) b
    → OptionalNameAt text c b n d → fits_name named n ≡ true
    → (y : Func × ℕ) → func_called text r c async function star n d ≡ Some y → FuncAt text g c named p y.0 y.1
unfolding func_called
func_called_sound {text} {g} {r} s c named p a b d async function star n i w k o fits y e =
    let x = bind_some (read_callable text r (in_function (is_some async) (is_some star) c) d) _ _ e in
    given (FuncAt text g c named p) _ _ y x.2
    (func_called_of c named p a b d async function star n i w k o fits _ _ (callable_sound s (in_function (is_some async) (is_some star) c) d _ x.1))

func_behind_sound : {text : Bytes} {g : Rules} {r : Readers} (s : AreSound text g r) (c : Context) (named : Bool) (p a : ℕ) (async : Option Token)
    (function : Token) → AsyncAt text p async (is_some async) a → WordAt text Operand (codes "function") a function
    → (y : Func × ℕ) → func_behind text r c named async function ≡ Some y → FuncAt text g c named p y.0 y.1
unfolding func_behind
func_behind_sound {text} {g} {r} s c named p a async function i w y e =
    let k = bind_some (read_star text function.end) _ _ e in
    let n = bind_some (read_optional_name text c k.0.1) _ _ k.2 in
    elim (chosen (fits_name named n.0.0) (func_called text r c async function k.0.0 n.0.0 n.0.1) None _ n.2) [
      | when h f ↦ func_called_sound s c named p a _ _ async function _ _ i w (star_sound text _ _ k.1) (optional_name_sound text c _ _ n.1) h y f
      | else h f ↦ absurd cc
    ]

pub func_sound : {text : Bytes} {g : Rules} {r : Readers} (s : AreSound text g r) (c : Context) (named : Bool)
    → Sound (FuncAt text g c named) (read_func text r c named)
unfolding read_func async_func_behind
func_sound {text} {g} {r} s c named p y e =
    let t = bind_some (token text Operand p) _ _ e in
    elim (chosen (is_word text (codes "async") t.0) (async_func_behind text r c named t.0) _ _ t.2) [
      | when h f ↦ let u = bind_some (token text Operand t.0.end) _ _ f in
          elim (chosen (is_function_on_line text u.0) (func_behind text r c named (Some t.0) u.0) None _ u.2) [
            | when i k ↦ let b = both _ _ i in
                func_behind_sound s c named p t.0.end (Some t.0) u.0
                (AsyncAt.word t.0 u.0 (worded t.1 h) (read_there _ _ _ _ u.1) (is_false _ b.1)) (worded u.1 b.0) y k
            | else i k ↦ absurd cc
          ]
      | else h f ↦ elim (chosen (is_word text (codes "function") t.0) (func_behind text r c named None t.0) None _ f) [
        | when i k ↦ func_behind_sound s c named p p None t.0 AsyncAt.none (worded t.1 i) y k
        | else i k ↦ absurd cc
      ]
    ]

method_behind_of : {text : Bytes} {g : Rules} (c : Context) (a_key : ℕ → KeyOf Assign → ℕ → Type 0) (p a b d : ℕ) (async star : Option Token)
    (k : KeyOf Assign) → AsyncAt text p async (is_some async) a → StarAt text a star (is_some star) b → a_key b k d → (x : Callable) (q : ℕ)
    → CallableAt text g (in_function (is_some async) (is_some star) c) d x q
    → MethodAt text g c a_key p (method_v.Method async star k x.left x.params x.right x.body) q
method_behind_of c a_key p a b d async star k i j h _ _ (callable left params right body m ps m2 bd) =
    MethodAt.method async star k left params right body i j h m ps m2 bd

-- a method from behind its key on
pub method_behind_sound : {text : Bytes} {g : Rules} {r : Readers} (s : AreSound text g r) (c : Context) (a_key : ℕ → KeyOf Assign → ℕ → Type 0)
    (p a b d : ℕ) (async star : Option Token) (k : KeyOf Assign)
    → AsyncAt text p async (is_some async) a → StarAt text a star (is_some star) b → a_key b k d
    → (y : Method × ℕ) → method_behind text r c async star k d ≡ Some y → MethodAt text g c a_key p y.0 y.1
unfolding method_behind
method_behind_sound {text} {g} {r} s c a_key p a b d async star k i j h y e =
    let x = bind_some (read_callable text r (in_function (is_some async) (is_some star) c) d) _ _ e in
    given (MethodAt text g c a_key p) _ _ y x.2
    (method_behind_of c a_key p a b d async star k i j h _ _ (callable_sound s (in_function (is_some async) (is_some star) c) d _ x.1))

starred_method_sound : {text : Bytes} {g : Rules} {r : Readers} (s : AreSound text g r) (c : Context) (a_key : ℕ → KeyOf Assign → ℕ → Type 0)
    (read_key : Reader (KeyOf Assign)) → Sound a_key read_key → (p a : ℕ) (async : Option Token) → AsyncAt text p async (is_some async) a
    → (y : Method × ℕ) → read_starred_method text r c read_key async a ≡ Some y → MethodAt text g c a_key p y.0 y.1
unfolding read_starred_method
starred_method_sound {text} {g} {r} s c a_key read_key sound p a async i y e =
    let j = bind_some (read_star text a) _ _ e in
    let k = bind_some (read_key j.0.1) _ _ j.2 in
    method_behind_sound s c a_key p a _ _ async _ _ i (star_sound text a _ j.1) (sound _ _ k.1) y k.2

getter_sound : {text : Bytes} {g : Rules} {r : Readers} (s : AreSound text g r) (c : Context) (a_key : ℕ → KeyOf Assign → ℕ → Type 0)
    (read_key : Reader (KeyOf Assign)) → Sound a_key read_key → (p : ℕ) (t : Token) → WordAt text Operand (codes "get") p t
    → (y : Method × ℕ) → read_getter text r c read_key t ≡ Some y → MethodAt text g c a_key p y.0 y.1
unfolding read_getter
getter_sound {text} {g} {r} s c a_key read_key sound p t w y e =
    let k = bind_some (read_key t.end) _ _ e in
    let left = bind_some (mark text Operator (codes "(") k.0.1) _ _ k.2 in
    let right = bind_some (mark text Operand (codes ")") left.0.end) _ _ left.2 in
    let body = bind_some (read_body text r (in_function false false c) right.0.end) _ _ right.2 in
    given (MethodAt text g c a_key p) _ _ y body.2
    (MethodAt.get t k.0.0 left.0 right.0 body.0.0 w (sound _ _ k.1) (mark_there left.1) (mark_there right.1)
    (body_sound s (in_function false false c) _ _ body.1))

setter_sound : {text : Bytes} {g : Rules} {r : Readers} (s : AreSound text g r) (c : Context) (a_key : ℕ → KeyOf Assign → ℕ → Type 0)
    (read_key : Reader (KeyOf Assign)) → Sound a_key read_key → (p : ℕ) (t : Token) → WordAt text Operand (codes "set") p t
    → (y : Method × ℕ) → read_setter text r c read_key t ≡ Some y → MethodAt text g c a_key p y.0 y.1
unfolding read_setter
setter_sound {text} {g} {r} s c a_key read_key sound p t w y e =
    let k = bind_some (read_key t.end) _ _ e in
    let left = bind_some (mark text Operator (codes "(") k.0.1) _ _ k.2 in
    let x = bind_some (read_part text r (in_function false false c) left.0.end) _ _ left.2 in
    let right = bind_some (mark text Operator (codes ")") x.0.1) _ _ x.2 in
    let body = bind_some (read_body text r (in_function false false c) right.0.end) _ _ right.2 in
    given (MethodAt text g c a_key p) _ _ y body.2
    (MethodAt.set t k.0.0 left.0 x.0.0 right.0 body.0.0 w (sound _ _ k.1) (mark_there left.1) (part_sound s (in_function false false c) _ _ x.1)
    (mark_there right.1) (body_sound s (in_function false false c) _ _ body.1))

async_method : (text : Bytes) (p : ℕ) (t : Token) → token text Operand p ≡ Some t → begins_async_method text t ≡ true → AsyncAt text p (Some t) true t.end
unfolding begins_async_method
async_method text p t e h =
    let b = both _ _ h in
    let u = held (begins_async_key text) _ b.1 in
    AsyncAt.word t u.0 (worded e b.0) (read_there _ _ _ _ u.1) (is_false _ (both _ _ u.2).0)

accessor_word : (text : Bytes) (w : List ℕ) (p : ℕ) (t : Token) → token text Operand p ≡ Some t → begins_accessor text w t ≡ true → WordAt text Operand w p t
unfolding begins_accessor
accessor_word text w p t e h = worded e (both _ _ h).0

pub method_sound : {text : Bytes} {g : Rules} {r : Readers} (s : AreSound text g r) (c : Context) (a_key : ℕ → KeyOf Assign → ℕ → Type 0)
    (read_key : Reader (KeyOf Assign)) → Sound a_key read_key → Sound (MethodAt text g c a_key) (read_method text r c read_key)
unfolding read_method
method_sound {text} {g} {r} s c a_key read_key sound p y e =
    let t = bind_some (token text Operand p) _ _ e in
    elim (chosen (begins_accessor text (codes "get") t.0) (read_getter text r c read_key t.0) _ _ t.2) [
      | when h f ↦ getter_sound s c a_key read_key sound p t.0 (accessor_word text _ p _ t.1 h) y f
      | else h f ↦ elim (chosen (begins_accessor text (codes "set") t.0) (read_setter text r c read_key t.0) _ _ f) [
        | when i k ↦ setter_sound s c a_key read_key sound p t.0 (accessor_word text _ p _ t.1 i) y k
        | else i k ↦ elim (chosen (begins_async_method text t.0) (read_starred_method text r c read_key (Some t.0) t.0.end)
            (read_starred_method text r c read_key None p) _ k) [
              | when j l ↦ starred_method_sound s c a_key read_key sound p t.0.end (Some t.0) (async_method text p _ t.1 j) y l
              | else j l ↦ starred_method_sound s c a_key read_key sound p p None AsyncAt.none y l
            ]
      ]
    ]

method_element_sound : {text : Bytes} {g : Rules} {r : Readers} (s : AreSound text g r) (c : Context) (p : ℕ) (static : Option Token) (a : ℕ)
    → StaticAt text p static a → (y : Element × ℕ) → method_element text r c static a ≡ Some y → ElementAt text g c p y.0 y.1
unfolding method_element
method_element_sound {text} {g} {r} s c p static a w y e =
    let x = bind_some (read_method text r c (read_element_key text r c) a) _ _ e in
    given (ElementAt text g c p) _ _ y x.2
    (ElementAt.method static x.0.0 w (method_sound s c (ElementKeyAt text g c) _ (element_key_sound s c) a _ x.1))

element_by_sound : {text : Bytes} {g : Rules} {r : Readers} (s : AreSound text g r) (c : Context) (p : ℕ) (static : Option Token) (a : ℕ)
    (k : KeyOf Assign) (b : ℕ) → StaticAt text p static a → ElementKeyAt text g c a k b → (t : Token) → token text Operator b ≡ Some t
    → (y : Element × ℕ) → element_by text r c static k b t ≡ Some y → ElementAt text g c p y.0 y.1
unfolding element_by plain_method_element field_initialised plain_field
element_by_sound {text} {g} {r} s c p static a k b w is t at y e =
    elim (chosen (is_mark text (codes "(") t) (plain_method_element text r c static k b) _ _ e) [
      | when h f ↦ let x = bind_some (method_behind text r c None None k b) _ _ f in
          given (ElementAt text g c p) _ _ y x.2
          (ElementAt.method static x.0.0 w (method_behind_sound s c (ElementKeyAt text g c) a a a b None None k AsyncAt.none StarAt.none is _ x.1))
      | else h f ↦ elim (chosen (is_mark text (codes "=") t) (field_initialised text r c static k t) (plain_field text static k b) _ f) [
        | when i l ↦ let x = bind_some (initializer_behind text r (in_class c) t) _ _ l in
            let semi = bind_some (read_semi text x.0.1) _ _ x.2 in
            given (ElementAt text g c p) _ _ y semi.2
            (ElementAt.initialised static k x.0.0 semi.0.0 w is (initializer_behind_sound s (in_class c) b t (marked at i) _ x.1)
            (semi_sound text _ _ semi.1))
        | else i l ↦ let semi = bind_some (read_semi text (stop b (ending_of_key text k))) _ _ l in
            given (ElementAt text g c p) _ _ y semi.2 (ElementAt.field static k semi.0.0 w is (semi_sound text _ _ semi.1))
      ]
    ]

keyed_element_sound : {text : Bytes} {g : Rules} {r : Readers} (s : AreSound text g r) (c : Context) (p : ℕ) (static : Option Token) (a : ℕ)
    → StaticAt text p static a → (y : Element × ℕ) → keyed_element text r c static a ≡ Some y → ElementAt text g c p y.0 y.1
unfolding keyed_element
keyed_element_sound {text} {g} {r} s c p static a w y e =
    let k = bind_some (read_element_key text r c a) _ _ e in
    let t = bind_some (token text Operator k.0.1) _ _ k.2 in
    element_by_sound s c p static a k.0.0 k.0.1 w (element_key_sound s c a _ k.1) t.0 t.1 y t.2

element_behind_sound : {text : Bytes} {g : Rules} {r : Readers} (s : AreSound text g r) (c : Context) (p : ℕ) (static : Option Token) (a : ℕ) (t : Token)
    → StaticAt text p static a → (y : Element × ℕ) → element_behind text r c static a t ≡ Some y → ElementAt text g c p y.0 y.1
unfolding element_behind
element_behind_sound {text} {g} {r} s c p static a t w y e =
    elim (chosen (begins_method text t) (method_element text r c static a) (keyed_element text r c static a) _ e) [
      | when h f ↦ method_element_sound s c p static a w y f
      | else h f ↦ keyed_element_sound s c p static a w y f
    ]

static_element_sound : {text : Bytes} {g : Rules} {r : Readers} (s : AreSound text g r) (c : Context) (p : ℕ) (t : Token)
    → WordAt text Operand (codes "static") p t → (y : Element × ℕ) → static_element text r c t p ≡ Some y → ElementAt text g c p y.0 y.1
unfolding static_element static_by static_block
static_element_sound {text} {g} {r} s c p t w y e =
    let u = bind_some (token text Operand t.end) _ _ e in
    elim (chosen (is_mark text (codes "{") u.0) (static_block text r c t) _ _ u.2) [
      | when h f ↦ let x = bind_some (read_body text r (in_class c) t.end) _ _ f in
          given (ElementAt text g c p) _ _ y x.2 (ElementAt.block t x.0.0 w (body_sound s (in_class c) t.end _ x.1))
      | else h f ↦ elim (chosen (begins_starred_key text u.0) (element_behind text r c (Some t) t.end u.0) (keyed_element text r c None p) _ f) [
        | when i k ↦ element_behind_sound s c p (Some t) t.end u.0 (StaticAt.word t w) y k
        | else i k ↦ keyed_element_sound s c p None p StaticAt.none y k
      ]
    ]

element_sound : {text : Bytes} {g : Rules} {r : Readers} (s : AreSound text g r) (c : Context) → Sound (ElementAt text g c) (read_element text r c)
unfolding read_element
element_sound {text} {g} {r} s c p y e =
    let t = bind_some (token text Operand p) _ _ e in
    elim (chosen (is_mark text (codes ";") t.0) (Some (element_v.Empty t.0, t.0.end)) _ _ t.2) [
      | when h f ↦ given (ElementAt text g c p) _ _ y f (ElementAt.empty t.0 (marked t.1 h))
      | else h f ↦ elim (chosen (is_word text (codes "static") t.0) (static_element text r c t.0 p) (element_behind text r c None p t.0) _ f) [
        | when i k ↦ static_element_sound s c p t.0 (worded t.1 i) y k
        | else i k ↦ element_behind_sound s c p None p t.0 StaticAt.none y k
      ]
    ]

heritage_sound : {text : Bytes} {g : Rules} {r : Readers} (s : AreSound text g r) (c : Context) → Sound (HeritageAt text g c) (read_heritage text r c)
unfolding read_heritage heritage_behind
heritage_sound {text} {g} {r} s c p y e =
    let t = bind_some (token text Operand p) _ _ e in
    elim (chosen (is_word text (codes "extends") t.0) (heritage_behind r c t.0) (Some (None, p)) _ t.2) [
      | when h f ↦ let x = bind_some (r.extended c t.0.end) _ _ f in
          given (HeritageAt text g c p) _ _ y x.2 (HeritageAt.extended t.0 x.0.0 (worded t.1 h) (s.extended c _ _ x.1))
      | else h f ↦ given (HeritageAt text g c p) _ _ y f HeritageAt.none
    ]

class_named_sound : {text : Bytes} {g : Rules} {r : Readers} (s : AreSound text g r) (c : Context) (is_named : Bool) (p : ℕ) (t : Token)
    (n : Option Token) (a : ℕ) → WordAt text Operand (codes "class") p t → OptionalNameAt text c t.end n a → fits_name is_named n ≡ true
    → (y : Class × ℕ) → class_named text r c t n a ≡ Some y → ClassAt text g c is_named p y.0 y.1
unfolding class_named
class_named_sound {text} {g} {r} s c is_named p t n a w o fits y e =
    let h = bind_some (read_heritage text r c a) _ _ e in
    let left = bind_some (mark text Operator (codes "{") h.0.1) _ _ h.2 in
    let xs = bind_some (all_turns text (chain_turn text (is_mark text (codes "}")) (read_element text r c)) left.0.end) _ _ left.2 in
    let right = bind_some (mark text Operand (codes "}") xs.0.1) _ _ xs.2 in
    given (ClassAt text g c is_named p) _ _ y right.2
    (ClassAt.class t n h.0.0 left.0 xs.0.0 right.0 w o (name_fits is_named n fits) (heritage_sound s c a _ h.1) (mark_there left.1)
    (chain_sound text _ _ (ElementAt text g c) (element_sound s c) left.0.end _ xs.1) (mark_there right.1))

pub class_sound : {text : Bytes} {g : Rules} {r : Readers} (s : AreSound text g r) (c : Context) (is_named : Bool)
    → Sound (ClassAt text g c is_named) (read_class text r c is_named)
unfolding read_class
class_sound {text} {g} {r} s c is_named p y e =
    let t = bind_some (word text Operand (codes "class") p) _ _ e in
    let n = bind_some (read_optional_name text c t.0.end) _ _ t.2 in
    elim (chosen (fits_name is_named n.0.0) (class_named text r c t.0 n.0.0 n.0.1) None _ n.2) [
      | when h f ↦ class_named_sound s c is_named p t.0 n.0.0 n.0.1 (word_there t.1) (optional_name_sound text c _ _ n.1) h y f
      | else h f ↦ absurd cc
    ]

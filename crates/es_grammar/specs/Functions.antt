-- Bindings, parameters, functions, arrow functions, methods and classes (ECMA-262, clauses 14.3.3 and 15).
use Rattle.std.specs.Prelude.{◌≡◌, ℕ, Bool, true, false, List, [], ◌∷◌, Option, Some, None, codes, is_some, if◌then◌else◌}
use Rattle.std.specs.List.{list_any}
use Rattle.std.specs.Str.{bytes_eq}
use Rattle.es_tree.specs.declared.tokens.Token.{Token}
use Rattle.es_tree.specs.declared.tokens.TokenKind.TheVariants as kind
use Rattle.es_tree.specs.declared.tokens.Goal.TheVariants.{Operand, Operator}
use Rattle.es_tree.specs.declared.parts.Separated.{Separated}
use Rattle.es_tree.specs.declared.parts.Initializer.{Initializer}
use Rattle.es_tree.specs.declared.parts.Extends.{Extends}
use Rattle.es_tree.specs.declared.parts.Rest.{Rest}
use Rattle.es_tree.specs.declared.parts.Body.{Body}
use Rattle.es_tree.specs.declared.parts.KeyOf.{KeyOf}
use Rattle.es_tree.specs.declared.parts.KeyOf.TheVariants as key
use Rattle.es_tree.specs.declared.parts.PropertyKey.{PropertyKey}
use Rattle.es_tree.specs.declared.parts.ArrowParams.{ArrowParams}
use Rattle.es_tree.specs.declared.parts.ArrowParams.TheVariants as arrow_params
use Rattle.es_tree.specs.declared.cycle.Item.{Item}
use Rattle.es_tree.specs.declared.cycle.Assign.{Assign}
use Rattle.es_tree.specs.declared.cycle.Bind.{Bind}
use Rattle.es_tree.specs.declared.cycle.Bind.TheVariants as bind
use Rattle.es_tree.specs.declared.cycle.BindProperty.{BindProperty, roll-BindProperty}
use Rattle.es_tree.specs.declared.cycle.Decl.{Decl, roll-Decl}
use Rattle.es_tree.specs.declared.cycle.Params.{Params, roll-Params}
use Rattle.es_tree.specs.declared.cycle.Func.{Func, roll-Func}
use Rattle.es_tree.specs.declared.cycle.Method.{Method}
use Rattle.es_tree.specs.declared.cycle.Method.TheVariants as method_v
use Rattle.es_tree.specs.declared.cycle.Arrow.{Arrow}
use Rattle.es_tree.specs.declared.cycle.Arrow.TheVariants as arrow_v
use Rattle.es_tree.specs.declared.cycle.Element.{Element}
use Rattle.es_tree.specs.declared.cycle.Element.TheVariants as element_v
use Rattle.es_tree.specs.declared.cycle.Class.{Class, roll-Class}
use Rattle.es_tree.specs.declared.cycle.LHS.{LHS}
use Rattle.es_grammar.specs.declared.places.Context.{Context}
use Rattle.es_grammar.specs.Contexts.{bracketed, in_function, in_arrow, in_concise, in_class}
use Rattle.es_grammar.specs.Reading.{Bytes, IsAt, KindAt, MarkAt, NameAt, WordAt, IsOnLine, spelled}
use Rattle.es_grammar.specs.declared.places.Stop.{Stop}
use Rattle.es_grammar.specs.declared.places.Ending.{Ending}
use Rattle.es_grammar.specs.Semicolons.{stop, block_arrow, declared_name, field_key, accessor_key, static_key, IsClosedItem, SemiAt}
use Rattle.es_grammar.specs.Lists.{Chain, EachAt, EachElementAt, ElementsAt, ListAt}
use Rattle.es_grammar.specs.Rules.{Rules}

-- `=` Assign
pub data InitializerAt (text : Bytes) (r : Rules) (c : Context) : ℕ → Initializer Assign → Stop → Type 0 where
  initializer : {p : ℕ} {s : Stop} (equals : Token) (value : Assign) → MarkAt text Operator (codes "=") p equals → r.assign c equals.end value s
      → InitializerAt text r c p (record { equals = equals; value = value }) s

-- Bind: Name | a pattern
pub data BindAt (text : Bytes) (r : Rules) (c : Context) : ℕ → Bind → ℕ → Type 0 where
  name : {p : ℕ} (token : Token) → NameAt text Operand c p token → BindAt text r c p (bind.Name token) token.end
  pattern : {p q : ℕ} (x : Bind) → r.bind_pattern c p x q → BindAt text r c p x q

-- Decl: Bind (`=` Assign)?. A pattern without initialiser ends no declaration, so no semicolon is ever asked of it.
pub data DeclAt (text : Bytes) (r : Rules) (c : Context) : ℕ → Decl → Stop → Type 0 where
  plain : {p q : ℕ} (x : Bind) → BindAt text r c p x q → DeclAt text r c p (roll-Decl (record { bind = x; initial = None })) (stop q declared_name)
  initialised : {p q : ℕ} {s : Stop} (x : Bind) (i : Initializer Assign) → BindAt text r c p x q → InitializerAt text r c q i s
      → DeclAt text r c p (roll-Decl (record { bind = x; initial = Some i })) s

-- the same as a parameter or as an element of a pattern
pub data PartAt (text : Bytes) (r : Rules) (c : Context) : ℕ → Decl → ℕ → Type 0 where
  part : {p : ℕ} {s : Stop} (x : Decl) → DeclAt text r (bracketed c) p x s → PartAt text r c p x s.at

-- `...` and what follows
pub data RestAt {X : Type 0} (text : Bytes) (a_part : ℕ → X → ℕ → Type 0) : ℕ → Rest X → ℕ → Type 0 where
  rest : {p q : ℕ} (dots : Token) (x : X) → MarkAt text Operand (codes "...") p dots → a_part dots.end x q
      → RestAt text a_part p (record { dots = dots; item = x }) q

-- Key: IdName | String | Number | `[` Assign `]`
pub data KeyAt (text : Bytes) (r : Rules) (c : Context) : ℕ → KeyOf Assign → ℕ → Type 0 where
  id_name : {p : ℕ} (token : Token) → KindAt text Operand kind.IdName p token → KeyAt text r c p (key.IdName token) token.end
  string : {p : ℕ} (token : Token) → KindAt text Operand kind.String p token → KeyAt text r c p (key.String token) token.end
  number : {p : ℕ} (token : Token) → KindAt text Operand kind.Number p token → KeyAt text r c p (key.Number token) token.end
  computed : {p : ℕ} {s : Stop} (left : Token) (x : Assign) (right : Token)
      → MarkAt text Operand (codes "[") p left → r.assign (bracketed c) left.end x s → MarkAt text Operator (codes "]") s.at right
      → KeyAt text r c p (key.Computed left x right) right.end

-- in a class it may be private
pub data ElementKeyAt (text : Bytes) (r : Rules) (c : Context) : ℕ → KeyOf Assign → ℕ → Type 0 where
  public : {p q : ℕ} (x : KeyOf Assign) → KeyAt text r c p x q → ElementKeyAt text r c p x q
  private : {p : ℕ} (token : Token) → KindAt text Operand kind.Private p token → ElementKeyAt text r c p (key.Private token) token.end

pub data PropertyKeyAt (text : Bytes) (r : Rules) (c : Context) : ℕ → PropertyKey Assign → ℕ → Type 0 where
  property : {p q : ℕ} (x : KeyOf Assign) (colon : Token) → KeyAt text r c p x q → MarkAt text Operator (codes ":") q colon
      → PropertyKeyAt text r c p (record { key = x; colon = colon }) colon.end

-- a property of an object pattern: Key `:` Decl, or a Name and perhaps an initialiser
pub data BindPropertyAt (text : Bytes) (r : Rules) (c : Context) : ℕ → BindProperty → ℕ → Type 0 where
  keyed : {p a q : ℕ} (k : PropertyKey Assign) (x : Decl) → PropertyKeyAt text r c p k a → PartAt text r c a x q
      → BindPropertyAt text r c p (roll-BindProperty (record { key = Some k; decl = x })) q
  name : {p : ℕ} (token : Token) → NameAt text Operand c p token
      → BindPropertyAt text r c p (roll-BindProperty (record { key = None; decl = roll-Decl (record { bind = bind.Name token; initial = None }) })) token.end
  initialised : {p : ℕ} {s : Stop} (token : Token) (i : Initializer Assign) → NameAt text Operand c p token
      → InitializerAt text r (bracketed c) token.end i s
      → BindPropertyAt text r c p (roll-BindProperty (record { key = None; decl = roll-Decl (record { bind = bind.Name token; initial = Some i }) })) s.at

pub data NameBindAt (text : Bytes) (c : Context) : ℕ → Bind → ℕ → Type 0 where
  name : {p : ℕ} (token : Token) → NameAt text Operand c p token → NameBindAt text c p (bind.Name token) token.end

-- a pattern of Binds; what `...` takes in an object is a Name, and no comma stands behind it
pub data BindPatternAt (text : Bytes) (r : Rules) (c : Context) : ℕ → Bind → ℕ → Type 0 where
  array : {p a : ℕ} (left : Token) (xs : List (Separated (Option Decl))) (right : Token)
      → MarkAt text Operand (codes "[") p left → ElementsAt text (PartAt text r c) left.end xs a → MarkAt text Operator (codes "]") a right
      → BindPatternAt text r c p (bind.Array left xs None right) right.end
  array_rest : {p a b : ℕ} (left : Token) (xs : List (Separated (Option Decl))) (x : Rest Bind) (right : Token)
      → MarkAt text Operand (codes "[") p left → EachElementAt text (PartAt text r c) left.end xs a → RestAt text (BindAt text r c) a x b
      → MarkAt text Operator (codes "]") b right
      → BindPatternAt text r c p (bind.Array left xs (Some x) right) right.end
  object : {p a : ℕ} (left : Token) (xs : List (Separated BindProperty)) (right : Token)
      → MarkAt text Operand (codes "{") p left → ListAt text (BindPropertyAt text r c) left.end xs a → MarkAt text Operator (codes "}") a right
      → BindPatternAt text r c p (bind.Object left xs None right) right.end
  object_rest : {p a b : ℕ} (left : Token) (xs : List (Separated BindProperty)) (x : Rest Bind) (right : Token)
      → MarkAt text Operand (codes "{") p left → EachAt text (BindPropertyAt text r c) left.end xs a → RestAt text (NameBindAt text c) a x b
      → MarkAt text Operator (codes "}") b right
      → BindPatternAt text r c p (bind.Object left xs (Some x) right) right.end

-- Params: parts, and `... Bind` last
pub data ParamsAt (text : Bytes) (r : Rules) (c : Context) : ℕ → Params → ℕ → Type 0 where
  list : {p q : ℕ} (xs : List (Separated Decl)) → ListAt text (PartAt text r c) p xs q
      → ParamsAt text r c p (roll-Params (record { list = xs; rest = None })) q
  with_rest : {p a q : ℕ} (xs : List (Separated Decl)) (x : Rest Bind) → EachAt text (PartAt text r c) p xs a → RestAt text (BindAt text r c) a x q
      → ParamsAt text r c p (roll-Params (record { list = xs; rest = Some x })) q

-- an item of a list of items is closed: within a whole text this follows from what stands behind it
pub data ClosedItemAt (text : Bytes) (r : Rules) (c : Context) : ℕ → Item → ℕ → Type 0 where
  closed : {p q : ℕ} (x : Item) → r.item c p x q → IsClosedItem text q → ClosedItemAt text r c p x q

-- `{` Item* `}`
pub data BodyAt (text : Bytes) (r : Rules) (c : Context) : ℕ → Body Item → ℕ → Type 0 where
  body : {p q : ℕ} (left : Token) (xs : List Item) (right : Token)
      → MarkAt text Operand (codes "{") p left → Chain (ClosedItemAt text r c) left.end xs q → MarkAt text Operand (codes "}") q right
      → BodyAt text r c p (record { left = left; items = xs; right = right }) right.end

-- `async`, with no line terminator behind it
pub data AsyncAt (text : Bytes) : ℕ → Option Token → Bool → ℕ → Type 0 where
  none : {p : ℕ} → AsyncAt text p None false p
  word : {p : ℕ} (token next : Token) → WordAt text Operand (codes "async") p token → IsAt text Operand token.end next → IsOnLine next
      → AsyncAt text p (Some token) true token.end

pub data StarAt (text : Bytes) : ℕ → Option Token → Bool → ℕ → Type 0 where
  none : {p : ℕ} → StarAt text p None false p
  star : {p : ℕ} (token : Token) → MarkAt text Operator (codes "*") p token → StarAt text p (Some token) true token.end

pub data OptionalNameAt (text : Bytes) (c : Context) : ℕ → Option Token → ℕ → Type 0 where
  none : {p : ℕ} → OptionalNameAt text c p None p
  name : {p : ℕ} (token : Token) → NameAt text Operand c p token → OptionalNameAt text c p (Some token) token.end

-- Func, whose name may be left out where `named` doesn't hold
pub data FuncAt (text : Bytes) (r : Rules) (c : Context) (named : Bool) : ℕ → Func → ℕ → Type 0 where
  func : {p a b d e q : ℕ} (async : Option Token) {is_async : Bool} (word : Token) (star : Option Token) {is_generator : Bool} (name : Option Token)
      (left : Token) (params : Params) (right : Token) (body : Body Item)
      → AsyncAt text p async is_async a → WordAt text Operand (codes "function") a word → StarAt text word.end star is_generator b
      → OptionalNameAt text c b name d → (named ≡ true → is_some name ≡ true)
      → MarkAt text Operator (codes "(") d left → ParamsAt text r (in_function is_async is_generator c) left.end params e
      → MarkAt text Operator (codes ")") e right
      → BodyAt text r (in_function is_async is_generator c) right.end body q
      → FuncAt text r c named p (roll-Func (record {
        is_async = async;
        word = word;
        star = star;
        name = name;
        left = left;
        params = params;
        right = right;
        body = body;
      })) q

-- Method, with keys of a class or of an object
pub data MethodAt (text : Bytes) (r : Rules) (c : Context) (a_key : ℕ → KeyOf Assign → ℕ → Type 0) : ℕ → Method → ℕ → Type 0 where
  method : {p a b d e q : ℕ} (async : Option Token) {is_async : Bool} (star : Option Token) {is_generator : Bool} (x : KeyOf Assign) (left : Token)
      (params : Params) (right : Token) (body : Body Item)
      → AsyncAt text p async is_async a → StarAt text a star is_generator b → a_key b x d
      → MarkAt text Operator (codes "(") d left → ParamsAt text r (in_function is_async is_generator c) left.end params e
      → MarkAt text Operator (codes ")") e right
      → BodyAt text r (in_function is_async is_generator c) right.end body q
      → MethodAt text r c a_key p (method_v.Method async star x left params right body) q
  get : {p a q : ℕ} (word : Token) (x : KeyOf Assign) (left right : Token) (body : Body Item) → WordAt text Operand (codes "get") p word
      → a_key word.end x a → MarkAt text Operator (codes "(") a left → MarkAt text Operand (codes ")") left.end right
      → BodyAt text r (in_function false false c) right.end body q → MethodAt text r c a_key p (method_v.Get word x left right body) q
  set : {p a b q : ℕ} (word : Token) (x : KeyOf Assign) (left : Token) (parameter : Decl) (right : Token) (body : Body Item)
      → WordAt text Operand (codes "set") p word → a_key word.end x a
      → MarkAt text Operator (codes "(") a left → PartAt text r (in_function false false c) left.end parameter b
      → MarkAt text Operator (codes ")") b right
      → BodyAt text r (in_function false false c) right.end body q → MethodAt text r c a_key p (method_v.Set word x left parameter right body) q

pub data ArrowParamsAt (text : Bytes) (r : Rules) (c : Context) : ℕ → ArrowParams Params → ℕ → Type 0 where
  name : {p : ℕ} (token : Token) → NameAt text Operand c p token → ArrowParamsAt text r c p (arrow_params.Name token) token.end
  list : {p q : ℕ} (left : Token) (params : Params) (right : Token)
      → MarkAt text Operand (codes "(") p left → ParamsAt text r c left.end params q → MarkAt text Operator (codes ")") q right
      → ArrowParamsAt text r c p (arrow_params.List left params right) right.end

-- Arrow: no line terminator stands before `=>`, and a body that is an expression doesn't begin `{`
pub data ArrowAt (text : Bytes) (r : Rules) (c : Context) : ℕ → Arrow → Stop → Type 0 where
  block : {p a b q : ℕ} (async : Option Token) {is_async : Bool} (params : ArrowParams Params) (mark : Token) (body : Body Item)
      → AsyncAt text p async is_async a → ArrowParamsAt text r (in_arrow is_async c) a params b → MarkAt text Operator (codes "=>") b mark
      → IsOnLine mark → BodyAt text r (in_arrow is_async c) mark.end body q
      → ArrowAt text r c p (arrow_v.Block async params mark body) (stop q block_arrow)
  concise : {p a b : ℕ} {s : Stop} (async : Option Token) {is_async : Bool} (params : ArrowParams Params) (mark : Token) (x : Assign)
      → AsyncAt text p async is_async a → ArrowParamsAt text r (in_arrow is_async c) a params b → MarkAt text Operator (codes "=>") b mark
      → IsOnLine mark
      → ((token : Token) → MarkAt text Operand (codes "{") mark.end token → ⊥) → r.assign (in_concise is_async c) mark.end x s
      → ArrowAt text r c p (arrow_v.Concise async params mark x) s

-- what a field's key ends in
abbrev pub ending_of_key : Bytes → KeyOf Assign → Ending
ending_of_key text (key.IdName token) =
    if list_any (bytes_eq (spelled text token)) (codes "get" ∷ codes "set" ∷ []) then accessor_key
    else (if bytes_eq (spelled text token) (codes "static") then static_key else field_key)
ending_of_key text _ = field_key

pub data StaticAt (text : Bytes) : ℕ → Option Token → ℕ → Type 0 where
  none : {p : ℕ} → StaticAt text p None p
  word : {p : ℕ} (token : Token) → WordAt text Operand (codes "static") p token → StaticAt text p (Some token) token.end

-- Element of a class
pub data ElementAt (text : Bytes) (r : Rules) (c : Context) : ℕ → Element → ℕ → Type 0 where
  empty : {p : ℕ} (token : Token) → MarkAt text Operand (codes ";") p token → ElementAt text r c p (element_v.Empty token) token.end
  method : {p a q : ℕ} (word : Option Token) (x : Method) → StaticAt text p word a → MethodAt text r c (ElementKeyAt text r c) a x q
      → ElementAt text r c p (element_v.Method word x) q
  field : {p a b q : ℕ} (word : Option Token) (x : KeyOf Assign) (semi : Option Token) → StaticAt text p word a → ElementKeyAt text r c a x b
      → SemiAt text (stop b (ending_of_key text x)) semi q → ElementAt text r c p (element_v.Field word x None semi) q
  initialised : {p a b q : ℕ} {s : Stop} (word : Option Token) (x : KeyOf Assign) (i : Initializer Assign) (semi : Option Token)
      → StaticAt text p word a → ElementKeyAt text r c a x b → InitializerAt text r (in_class c) b i s → SemiAt text s semi q
      → ElementAt text r c p (element_v.Field word x (Some i) semi) q
  block : {p q : ℕ} (word : Token) (body : Body Item) → WordAt text Operand (codes "static") p word → BodyAt text r (in_class c) word.end body q
      → ElementAt text r c p (element_v.Static word body) q

pub data HeritageAt (text : Bytes) (r : Rules) (c : Context) : ℕ → Option (Extends LHS) → ℕ → Type 0 where
  none : {p : ℕ} → HeritageAt text r c p None p
  extended : {p q : ℕ} (word : Token) (x : LHS) → WordAt text Operand (codes "extends") p word → r.extended c word.end x q
      → HeritageAt text r c p (Some (record { word = word; lhs = x })) q

-- Class, whose name may be left out where `named` doesn't hold
pub data ClassAt (text : Bytes) (r : Rules) (c : Context) (named : Bool) : ℕ → Class → ℕ → Type 0 where
  class : {p a b q : ℕ} (word : Token) (name : Option Token) (heritage : Option (Extends LHS)) (left : Token) (xs : List Element) (right : Token)
      → WordAt text Operand (codes "class") p word → OptionalNameAt text c word.end name a → (named ≡ true → is_some name ≡ true)
      → HeritageAt text r c a heritage b
      → MarkAt text Operator (codes "{") b left → Chain (ElementAt text r c) left.end xs q → MarkAt text Operand (codes "}") q right
      → ClassAt text r c named p (roll-Class (record { word = word; name = name; extends = heritage; left = left; elements = xs; right = right })) right.end

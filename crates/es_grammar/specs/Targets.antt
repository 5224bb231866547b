-- What may be assigned to (ECMA-262, clauses 13.15.1 and 13.15.5).
use Rattle.std.specs.Prelude.{◌≡◌, ℕ, Bool, true, false, List, [], ◌∷◌, ◌++◌, length, Option, Some, None, codes}
use Rattle.std.specs.List.{list_any}
use Rattle.es_tree.specs.declared.tokens.Token.{Token}
use Rattle.es_tree.specs.declared.tokens.Goal.{Goal}
use Rattle.es_tree.specs.declared.tokens.Goal.TheVariants.{Operand, Operator}
use Rattle.es_tree.specs.declared.parts.Separated.{Separated}
use Rattle.es_tree.specs.declared.parts.Initializer.{Initializer}
use Rattle.es_tree.specs.declared.parts.Parenthesised.{Parenthesised}
use Rattle.es_tree.specs.declared.parts.PropertyKey.{PropertyKey}
use Rattle.es_tree.specs.declared.parts.Rest.{Rest}
use Rattle.es_tree.specs.declared.parts.SuffixOf.{SuffixOf}
use Rattle.es_tree.specs.declared.parts.SuffixOf.TheVariants as suffix_v
use Rattle.es_tree.specs.declared.cycle.Assign.{Assign}
use Rattle.es_tree.specs.declared.cycle.Base.{Base}
use Rattle.es_tree.specs.declared.cycle.LHS.{LHS, roll-LHS}
use Rattle.es_tree.specs.declared.cycle.Target.{Target}
use Rattle.es_tree.specs.declared.cycle.Target.TheVariants as target_v
use Rattle.es_tree.specs.declared.cycle.TargetPart.{TargetPart, roll-TargetPart}
use Rattle.es_grammar.specs.declared.places.Context.{Context}
use Rattle.es_grammar.specs.Contexts.{bracketed}
use Rattle.es_grammar.specs.Reading.{Bytes, MarkAt, NameAt}
use Rattle.es_grammar.specs.declared.places.Stop.{Stop}
use Rattle.es_grammar.specs.Lists.{Chain, EachAt, EachElementAt, ElementsAt, ListAt}
use Rattle.es_grammar.specs.Rules.{Rules}
use Rattle.es_grammar.specs.Functions.{InitializerAt, PropertyKeyAt, RestAt}
use Rattle.es_grammar.specs.Expressions.{LHSAt, is_optional}

-- the suffixes that name a member: those of a member expression but templates
abbrev pub names_member : SuffixOf Assign → Bool
names_member (suffix_v.Dot mark name) = true
names_member (suffix_v.Private mark name) = true
names_member (suffix_v.Index left x right) = true
names_member _ = false

-- it ends with a member, and `?.` stands nowhere in it
pub data IsMember : LHS → Type 0 where
  member : (x : Base) (before : List (SuffixOf Assign)) (last : SuffixOf Assign) → list_any is_optional before ≡ false → names_member last ≡ true
      → IsMember (roll-LHS (record { base = x; suffixes = before ++ last ∷ [] }))

-- a mark, as a part of a chain
pub data ChainedMarkAt (text : Bytes) (goal : Goal) (mark : List ℕ) : ℕ → Token → ℕ → Type 0 where
  mark : {p : ℕ} (token : Token) → MarkAt text goal mark p token → ChainedMarkAt text goal mark p token token.end

-- a part within one pair of parentheses or more
pub data ParenthesisedAt {X : Type 0} (text : Bytes) (a_part : ℕ → X → ℕ → Type 0) : ℕ → Parenthesised X → ℕ → Type 0 where
  parenthesised : {p a b q : ℕ} (left : Token) (more : List Token) (x : X) (closed : List Token) → MarkAt text Operand (codes "(") p left
      → Chain (ChainedMarkAt text Operand (codes "(")) left.end more a → a_part a x b → Chain (ChainedMarkAt text Operator (codes ")")) b closed q
      → length closed ≡ length (left ∷ more) → ParenthesisedAt text a_part p (record { opened = left ∷ more; item = x; closed = closed }) q

-- a Name that is assigned to
pub data TargetNameAt (text : Bytes) (c : Context) : ℕ → Token → ℕ → Type 0 where
  name : {p : ℕ} (token : Token) → NameAt text Operand c p token → TargetNameAt text c p token token.end

-- a member that is assigned to
pub data TargetMemberAt (text : Bytes) (r : Rules) (c : Context) : ℕ → LHS → ℕ → Type 0 where
  member : {p q : ℕ} (x : LHS) → LHSAt text r c p x q → IsMember x → TargetMemberAt text r c p x q

-- A Name, or a member without `?.`, either in parentheses. Parentheses count nothing for the nest, so any number of them may stand here.
pub data SimpleTargetAt (text : Bytes) (r : Rules) (c : Context) : ℕ → Target → ℕ → Type 0 where
  name : {p : ℕ} (token : Token) → NameAt text Operand c p token → SimpleTargetAt text r c p (target_v.Name token) token.end
  member : {p q : ℕ} (x : LHS) → LHSAt text r c p x q → IsMember x → SimpleTargetAt text r c p (target_v.Member x) q
  paren_name : {p q : ℕ} (x : Parenthesised Token) → ParenthesisedAt text (TargetNameAt text c) p x q
      → SimpleTargetAt text r c p (target_v.ParenName x) q
  paren_member : {p q : ℕ} (x : Parenthesised LHS) → ParenthesisedAt text (TargetMemberAt text r c) p x q
      → SimpleTargetAt text r c p (target_v.ParenMember x) q

-- Target: a simple one, or a pattern
pub data TargetAt (text : Bytes) (r : Rules) (c : Context) : ℕ → Target → ℕ → Type 0 where
  simple : {p q : ℕ} (x : Target) → SimpleTargetAt text r c p x q → TargetAt text r c p x q
  pattern : {p q : ℕ} (x : Target) → r.target_pattern c p x q → TargetAt text r c p x q

-- an element of an array pattern: Target (`=` Assign)?
pub data TargetElementAt (text : Bytes) (r : Rules) (c : Context) : ℕ → TargetPart → ℕ → Type 0 where
  plain : {p q : ℕ} (x : Target) → TargetAt text r (bracketed c) p x q
      → TargetElementAt text r c p (roll-TargetPart (record { key = None; target = x; initial = None })) q
  initialised : {p q : ℕ} {s : Stop} (x : Target) (i : Initializer Assign) → TargetAt text r (bracketed c) p x q
      → InitializerAt text r (bracketed c) q i s
      → TargetElementAt text r c p (roll-TargetPart (record { key = None; target = x; initial = Some i })) s.at

-- a property of an object pattern: Key `:` and an element, or a Name and perhaps an initialiser
pub data TargetPropertyAt (text : Bytes) (r : Rules) (c : Context) : ℕ → TargetPart → ℕ → Type 0 where
  keyed : {p a q : ℕ} (k : PropertyKey Assign) (x : Target) → PropertyKeyAt text r c p k a → TargetAt text r (bracketed c) a x q
      → TargetPropertyAt text r c p (roll-TargetPart (record { key = Some k; target = x; initial = None })) q
  keyed_initialised : {p a b : ℕ} {s : Stop} (k : PropertyKey Assign) (x : Target) (i : Initializer Assign) → PropertyKeyAt text r c p k a
      → TargetAt text r (bracketed c) a x b → InitializerAt text r (bracketed c) b i s
      → TargetPropertyAt text r c p (roll-TargetPart (record { key = Some k; target = x; initial = Some i })) s.at
  name : {p : ℕ} (token : Token) → NameAt text Operand c p token
      → TargetPropertyAt text r c p (roll-TargetPart (record { key = None; target = target_v.Name token; initial = None })) token.end
  name_initialised : {p : ℕ} {s : Stop} (token : Token) (i : Initializer Assign) → NameAt text Operand c p token
      → InitializerAt text r (bracketed c) token.end i s
      → TargetPropertyAt text r c p (roll-TargetPart (record { key = None; target = target_v.Name token; initial = Some i })) s.at

-- a pattern of Targets; what `...` takes in an object is no pattern, and no comma stands behind it
pub data TargetPatternAt (text : Bytes) (r : Rules) (c : Context) : ℕ → Target → ℕ → Type 0 where
  array : {p a : ℕ} (left : Token) (xs : List (Separated (Option TargetPart))) (right : Token)
      → MarkAt text Operand (codes "[") p left → ElementsAt text (TargetElementAt text r c) left.end xs a → MarkAt text Operator (codes "]") a right
      → TargetPatternAt text r c p (target_v.Array left xs None right) right.end
  array_rest : {p a b : ℕ} (left : Token) (xs : List (Separated (Option TargetPart))) (x : Rest Target) (right : Token)
      → MarkAt text Operand (codes "[") p left → EachElementAt text (TargetElementAt text r c) left.end xs a
      → RestAt text (TargetAt text r (bracketed c)) a x b → MarkAt text Operator (codes "]") b right
      → TargetPatternAt text r c p (target_v.Array left xs (Some x) right) right.end
  object : {p a : ℕ} (left : Token) (xs : List (Separated TargetPart)) (right : Token)
      → MarkAt text Operand (codes "{") p left → ListAt text (TargetPropertyAt text r c) left.end xs a → MarkAt text Operator (codes "}") a right
      → TargetPatternAt text r c p (target_v.Object left xs None right) right.end
  object_rest : {p a b : ℕ} (left : Token) (xs : List (Separated TargetPart)) (x : Rest Target) (right : Token)
      → MarkAt text Operand (codes "{") p left → EachAt text (TargetPropertyAt text r c) left.end xs a
      → RestAt text (SimpleTargetAt text r (bracketed c)) a x b → MarkAt text Operator (codes "}") b right
      → TargetPatternAt text r c p (target_v.Object left xs (Some x) right) right.end

-- What may be assigned to.
use Rattle.es_reader.specs.declared.pieces.InsideOf.{InsideOf}
use Rattle.es_reader.specs.declared.pieces.InsideOf.TheVariants.{Reached as reached}
use Rattle.es_reader.specs.declared.pieces.InsideOf.TheVariants.{Found as found}
use Rattle.es_reader.specs.declared.pieces.BareOf.{BareOf}
use Rattle.es_reader.specs.declared.pieces.BareOf.TheVariants.{Name as name}
use Rattle.es_reader.specs.declared.pieces.BareOf.TheVariants.{Member as member}
use Rattle.std.specs.Prelude.{ℕ, zero, suc, Bool, false, not, ◌&&◌, ◌||◌, List, [], ◌∷◌, ◌++◌, length, Option, Some, None, codes, if◌then◌else◌}
use Rattle.es_tree.specs.declared.tokens.Token.{Token}
use Rattle.es_tree.specs.declared.tokens.Goal.TheVariants.{Operand, Operator}
use Rattle.es_tree.specs.declared.parts.Separated.{Separated}
use Rattle.es_tree.specs.declared.parts.Initializer.{Initializer}
use Rattle.es_tree.specs.declared.parts.KeyOf.TheVariants as key
use Rattle.es_tree.specs.declared.parts.Parenthesised.{Parenthesised}
use Rattle.es_tree.specs.declared.parts.PropertyKey.{PropertyKey}
use Rattle.es_tree.specs.declared.cycle.Assign.{Assign}
use Rattle.es_tree.specs.declared.cycle.LHS.{LHS}
use Rattle.es_tree.specs.declared.cycle.Target.{Target}
use Rattle.es_tree.specs.declared.cycle.Target.TheVariants as target_v
use Rattle.es_tree.specs.declared.cycle.TargetPart.{TargetPart, roll-TargetPart}
use Rattle.es_grammar.specs.declared.places.Context.{Context}
use Rattle.es_grammar.specs.Contexts.{bracketed}
use Rattle.es_grammar.specs.Reading.{Bytes}
use Rattle.es_grammar.specs.Expressions.{is_optional}
use Rattle.es_grammar.specs.Targets.{names_member}
use Rattle.es_reader.specs.Basics.{◌>>=◌, or_else, Reader, token, is_mark, is_name, mark}
use Rattle.es_reader.specs.declared.pieces.TurnOf.{TurnOf}
use Rattle.es_reader.specs.declared.pieces.TurnOf.TheVariants.{Ended as ended}
use Rattle.es_reader.specs.declared.pieces.TurnOf.TheVariants.{More as more}
use Rattle.es_reader.specs.Loops.{all_turns}
use Rattle.es_reader.specs.Lists.{elements_turn, list_turn, rest_behind}
use Rattle.es_reader.specs.Readers.{Readers}
use Rattle.es_reader.specs.Functions.{ends_parts, initializer_behind, is_rest, read_property_key}
use Rattle.es_reader.specs.Expressions.{Parts, Suffix, begins_suffix, lhs_of, read_parts}

-- a Name, or a member
abbrev pub Bare : Type 0
Bare = BareOf LHS

-- they end with a member, and `?.` stands nowhere
abbrev pub end_with_member : List Suffix → Bool
end_with_member [] = false
end_with_member (x ∷ []) = names_member x
end_with_member (x ∷ y ∷ ys) = not (is_optional x) && end_with_member (y ∷ ys)

abbrev pub bare_name : Option Token → Option Bare
bare_name None = None
bare_name (Some t) = Some (name t)

abbrev pub bare_by : Parts → List Suffix → Option Bare
bare_by x [] = bare_name x.name
bare_by x (y ∷ ys) = if end_with_member (y ∷ ys) then Some (member (lhs_of x)) else None

-- what an LHS is where it may be assigned to
unfoldable pub bare_of : Parts → Option Bare
bare_of x = bare_by x x.suffixes

abbrev pub bare_target : Bare → Target
bare_target (name t) = target_v.Name t
bare_target (member x) = target_v.Member x

unfoldable pub read_bare : Bytes → Readers → Context → Reader Bare
read_bare text r c p = read_parts text r c p >>= λ x. bare_of x.0 >>= λ b. Some (b, x.1)

unfoldable pub bare_target_at : Bytes → Readers → Context → Reader Target
bare_target_at text r c p = read_bare text r c p >>= λ b. Some (bare_target b.0, b.1)

-- how far the parentheses around a target were read: up to a place, or with what they hold
abbrev pub Inside : Type 0
Inside = InsideOf Bare

abbrev pub found_turn : Bare × ℕ → TurnOf Inside Token
found_turn b = ended (found b.0 b.1)

unfoldable pub deeper : Bytes → ℕ → Option (TurnOf Inside Token)
deeper text p = mark text Operand (codes "(") p >>= λ t. Some (more t (reached t.end))

abbrev pub bare_or_deeper : Option (Bare × ℕ) → Option (TurnOf Inside Token) → Option (TurnOf Inside Token)
bare_or_deeper None turn = turn
bare_or_deeper (Some b) turn = Some (found_turn b)

-- behind a parenthesis stands a Name or a member, or one more parenthesis
abbrev pub paren_turn : Bytes → Readers → Context → Inside → Option (TurnOf Inside Token)
paren_turn text r c (reached p) = bare_or_deeper (read_bare text r c p) (deeper text p)
paren_turn text r c (found b p) = None

-- so many closing parentheses
unfoldable pub closing : Bytes → ℕ → List Token → ℕ → Option (List Token × ℕ)
closing text zero closed p = Some (closed, p)
closing text (suc n) closed p = mark text Operator (codes ")") p >>= λ t. closing text n (closed ++ t ∷ []) t.end

abbrev pub parenthesised : {X : Type 0} → List Token → X → List Token → Parenthesised X
parenthesised opened x closed = record { opened = opened; item = x; closed = closed }

abbrev pub paren_target : List Token → Bare → List Token → Target
paren_target opened (name t) closed = target_v.ParenName (parenthesised opened t closed)
paren_target opened (member x) closed = target_v.ParenMember (parenthesised opened x closed)

unfoldable pub paren_closed : Bytes → List Token → Bare → Reader Target
paren_closed text opened b p = closing text (length opened) [] p >>= λ ts. Some (paren_target opened b ts.0, ts.1)

abbrev pub paren_inside : Bytes → List Token → Inside → Option (Target × ℕ)
paren_inside text opened (reached p) = None
paren_inside text opened (found b p) = paren_closed text opened b p

-- a Name or a member in parentheses, the first of which was seen
unfoldable pub read_paren_target : Bytes → Readers → Context → Token → Option (Target × ℕ)
read_paren_target text r c left = all_turns text (paren_turn text r c) (reached left.end) >>= λ xs. paren_inside text (left ∷ xs.0) xs.1

-- a Name, or a member without `?.`, either in parentheses
unfoldable pub read_simple_target : Bytes → Readers → Context → Reader Target
read_simple_target text r c p = token text Operand p >>= λ t.
    if is_mark text (codes "(") t then or_else (bare_target_at text r c p) (read_paren_target text r c t) else bare_target_at text r c p

unfoldable pub begins_pattern : Bytes → Token → Bool
begins_pattern text t = is_mark text (codes "[") t || is_mark text (codes "{") t

-- a pattern, unless a suffix stands behind it
unfoldable pub pattern_alone : Bytes → Readers → Context → Reader Target
pattern_alone text r c p = r.target_pattern c p >>= λ x. token text Operator x.1 >>= λ u. if begins_suffix text u then None else Some x

-- Target
unfoldable pub read_target : Bytes → Readers → Context → Reader Target
read_target text r c p = token text Operand p >>= λ t.
    if begins_pattern text t then or_else (pattern_alone text r c p) (bare_target_at text r c p) else read_simple_target text r c p

-- Parts of patterns

abbrev pub target_part : Option (PropertyKey Assign) → Target → Option (Initializer Assign) → TargetPart
target_part k x initial = roll-TargetPart (record { key = k; target = x; initial = initial })

unfoldable pub part_initialised : Bytes → Readers → Context → Option (PropertyKey Assign) → Target → Token → Option (TargetPart × ℕ)
part_initialised text r c k x equals = initializer_behind text r (bracketed c) equals >>= λ i. Some (target_part k x (Some i.0), i.1.at)

unfoldable pub part_by : Bytes → Readers → Context → Option (PropertyKey Assign) → Target → ℕ → Token → Option (TargetPart × ℕ)
part_by text r c k x p u = if is_mark text (codes "=") u then part_initialised text r c k x u else Some (target_part k x None, p)

-- what may stand behind a Target
unfoldable pub part_behind : Bytes → Readers → Context → Option (PropertyKey Assign) → Target → Reader TargetPart
part_behind text r c k x p = token text Operator p >>= part_by text r c k x p

-- an element of an array pattern, or what a key names
unfoldable pub read_target_part : Bytes → Readers → Context → Option (PropertyKey Assign) → Reader TargetPart
read_target_part text r c k p = read_target text r (bracketed c) p >>= λ x. part_behind text r c k x.0 x.1

unfoldable pub keyed_target : Bytes → Readers → Context → Reader TargetPart
keyed_target text r c p = read_property_key text r c p >>= λ k. read_target_part text r c (Some k.0) k.1

unfoldable pub named_by : Bytes → Readers → Context → Token → Token → Option (TargetPart × ℕ)
named_by text r c t u =
    if is_mark text (codes ":") u then read_target_part text r c (Some (record { key = key.IdName t; colon = u })) u.end
    else part_by text r c None (target_v.Name t) t.end u

-- a Name, by the token behind it
unfoldable pub named_target : Bytes → Readers → Context → Token → Option (TargetPart × ℕ)
named_target text r c t = token text Operator t.end >>= named_by text r c t

-- a property of an object pattern
unfoldable pub read_target_property : Bytes → Readers → Context → Reader TargetPart
read_target_property text r c p = token text Operand p >>= λ t. if is_name text c t then named_target text r c t else keyed_target text r c p

-- Patterns

abbrev pub Elements : Type 0
Elements = List (Separated (Option TargetPart))

unfoldable pub array_with_rest : Bytes → Readers → Context → Token → Elements → Token → Option (Target × ℕ)
array_with_rest text r c left xs dots = rest_behind (read_target text r (bracketed c)) dots >>= λ x. mark text Operator (codes "]") x.1 >>= λ right.
    Some (target_v.Array left xs (Some x.0) right, right.end)

unfoldable pub array_without_rest : Bytes → Token → Elements → Reader Target
array_without_rest text left xs p = mark text Operator (codes "]") p >>= λ right. Some (target_v.Array left xs None right, right.end)

unfoldable pub array_behind : Bytes → Readers → Context → Token → Elements → Reader Target
array_behind text r c left xs p = token text Operand p >>= λ t.
    if is_rest text xs t then array_with_rest text r c left xs t else array_without_rest text left xs p

unfoldable pub read_array_target : Bytes → Readers → Context → Token → Option (Target × ℕ)
read_array_target text r c left = all_turns text (elements_turn text (ends_parts text (codes "]")) (read_target_part text r c None)) left.end >>= λ xs.
    array_behind text r c left xs.0 xs.1

abbrev pub Properties : Type 0
Properties = List (Separated TargetPart)

unfoldable pub object_with_rest : Bytes → Readers → Context → Token → Properties → Token → Option (Target × ℕ)
object_with_rest text r c left xs dots = rest_behind (read_simple_target text r (bracketed c)) dots >>= λ x.
    mark text Operator (codes "}") x.1 >>= λ right. Some (target_v.Object left xs (Some x.0) right, right.end)

unfoldable pub object_without_rest : Bytes → Token → Properties → Reader Target
object_without_rest text left xs p = mark text Operator (codes "}") p >>= λ right. Some (target_v.Object left xs None right, right.end)

unfoldable pub object_behind : Bytes → Readers → Context → Token → Properties → Reader Target
object_behind text r c left xs p = token text Operand p >>= λ t.
    if is_rest text xs t then object_with_rest text r c left xs t else object_without_rest text left xs p

unfoldable pub read_object_target : Bytes → Readers → Context → Token → Option (Target × ℕ)
read_object_target text r c left = all_turns text (list_turn text (ends_parts text (codes "}")) (read_target_property text r c)) left.end >>= λ xs.
    object_behind text r c left xs.0 xs.1

-- a pattern of Targets
unfoldable pub read_target_pattern : Bytes → Readers → Context → Reader Target
read_target_pattern text r c p = token text Operand p >>= λ t.
    if is_mark text (codes "[") t then read_array_target text r c t
    else (if is_mark text (codes "{") t then read_object_target text r c t else None)

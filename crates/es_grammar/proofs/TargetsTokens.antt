-- The tokens of what is assigned to stand where their production does.
use Rattle.std.specs.Prelude.{ℕ, List, Some, None}
use Rattle.es_tree.specs.declared.tokens.Token.{Token}
use Rattle.es_tree.specs.declared.tokens.Goal.{Goal}
use Rattle.es_tree.specs.declared.cycle.LHS.{LHS}
use Rattle.es_tree.specs.declared.parts.Parenthesised.{Parenthesised}
use Rattle.es_tree.specs.declared.cycle.Target.{Target}
use Rattle.es_tree.specs.declared.cycle.TargetPart.{TargetPart}
use Rattle.es_tree.specs.declared.cycle.Target.TheVariants as target_v
use Rattle.es_tree.specs.Yield.{Tokens, one, lhs_tokens, parenthesised_tokens, target_tokens, target_part_tokens}
use Rattle.es_grammar.specs.declared.places.Context.{Context}
use Rattle.es_grammar.specs.Reading.{Bytes}
use Rattle.es_grammar.specs.Rules.{Rules}
use Rattle.es_grammar.specs.Targets.{ChainedMarkAt, ParenthesisedAt, TargetNameAt, TargetMemberAt, SimpleTargetAt, TargetAt, TargetElementAt, TargetPropertyAt, TargetPatternAt}
use Rattle.es_grammar.specs.Tokens.{TokensAt}
use Rattle.es_grammar.proofs.Laws.{target-Name, target-Member, target-ParenName, target-ParenMember, target-Array, target-Object}
use Rattle.es_grammar.proofs.Rolled.{target_part_rolled}
use Rattle.es_grammar.proofs.Standing.{Stands, over, nothing, mark_at, name_at, chain_stands, list_stands, each_stands, elements_stand, each_element_stands, rest_stands, ◌▹◌}
use Rattle.es_grammar.proofs.Tells.{Tells}
use Rattle.es_grammar.proofs.FunctionsTokens.{initializer_stands, property_key_stands}
use Rattle.es_grammar.proofs.ExpressionsTokens.{lhs_stands}

pub chained_mark_stands : {text : Bytes} {goal : Goal} {mark : List ℕ} {p : ℕ} {x : Token} {q : ℕ} → ChainedMarkAt text goal mark p x q
    → TokensAt text p (one x) q
chained_mark_stands (ChainedMarkAt.mark token h) = mark_at h

pub parenthesised_stands : {X : Type 0} {text : Bytes} {a_part : ℕ → X → ℕ → Type 0} {p : ℕ} {x : Parenthesised X} {q : ℕ} (f : X → Tokens)
    → ParenthesisedAt text a_part p x q → Stands text f a_part → TokensAt text p (parenthesised_tokens f x) q
parenthesised_stands f (ParenthesisedAt.parenthesised left more x closed h1 h2 h3 h4 same) part =
    mark_at h1 ▹ chain_stands one h2 (λ p x q h. chained_mark_stands h) ▹ part _ x _ h3 ▹ chain_stands one h4 (λ p x q h. chained_mark_stands h)

pub target_name_stands : {text : Bytes} {c : Context} {p : ℕ} {x : Token} {q : ℕ} → TargetNameAt text c p x q → TokensAt text p (one x) q
target_name_stands (TargetNameAt.name token h) = name_at h

pub target_member_stands : {text : Bytes} {r : Rules} {c : Context} {p : ℕ} {x : LHS} {q : ℕ} (t : Tells text r) → TargetMemberAt text r c p x q
    → TokensAt text p (lhs_tokens x) q
target_member_stands t (TargetMemberAt.member x h1 h2) = lhs_stands t h1

pub simple_target_stands : {text : Bytes} {r : Rules} {c : Context} {p : ℕ} {x : Target} {q : ℕ} (t : Tells text r) → SimpleTargetAt text r c p x q
    → TokensAt text p (target_tokens x) q
simple_target_stands t (SimpleTargetAt.name token h1) = over (target-Name token) (name_at h1)
simple_target_stands t (SimpleTargetAt.member x h1 h2) = over (target-Member x) (lhs_stands t h1)
simple_target_stands t (SimpleTargetAt.paren_name x h1) =
    over (target-ParenName x) (parenthesised_stands one h1 (λ p x q h. target_name_stands h))
simple_target_stands t (SimpleTargetAt.paren_member x h1) =
    over (target-ParenMember x) (parenthesised_stands lhs_tokens h1 (λ p x q h. target_member_stands t h))

pub target_stands : {text : Bytes} {r : Rules} {c : Context} {p : ℕ} {x : Target} {q : ℕ} (t : Tells text r) → TargetAt text r c p x q
    → TokensAt text p (target_tokens x) q
target_stands t (TargetAt.simple x h1) = simple_target_stands t h1
target_stands t (TargetAt.pattern x h1) = t.target_pattern _ _ _ _ h1

pub target_element_stands : {text : Bytes} {r : Rules} {c : Context} {p : ℕ} {x : TargetPart} {q : ℕ} (t : Tells text r)
    → TargetElementAt text r c p x q → TokensAt text p (target_part_tokens x) q
target_element_stands t (TargetElementAt.plain x h1) =
    over (target_part_rolled (record { key = None; target = x; initial = None })) (target_stands t h1 ▹ nothing)
target_element_stands t (TargetElementAt.initialised x i h1 h2) =
    over (target_part_rolled (record { key = None; target = x; initial = Some i })) (target_stands t h1 ▹ initializer_stands t h2)

pub target_property_stands : {text : Bytes} {r : Rules} {c : Context} {p : ℕ} {x : TargetPart} {q : ℕ} (t : Tells text r)
    → TargetPropertyAt text r c p x q → TokensAt text p (target_part_tokens x) q
target_property_stands t (TargetPropertyAt.keyed k x h1 h2) =
    over (target_part_rolled (record { key = Some k; target = x; initial = None })) (property_key_stands t h1 ▹ target_stands t h2 ▹ nothing)
target_property_stands t (TargetPropertyAt.keyed_initialised k x i h1 h2 h3) =
    over (target_part_rolled (record { key = Some k; target = x; initial = Some i })) (property_key_stands t h1 ▹ target_stands t h2
    ▹ initializer_stands t h3)
target_property_stands t (TargetPropertyAt.name token h1) =
    over (target_part_rolled (record { key = None; target = target_v.Name token; initial = None })) (over (target-Name token) (name_at h1) ▹ nothing)
target_property_stands t (TargetPropertyAt.name_initialised token i h1 h2) =
    over (target_part_rolled (record { key = None; target = target_v.Name token; initial = Some i })) (over (target-Name token) (name_at h1)
    ▹ initializer_stands t h2)

pub target_pattern_stands : {text : Bytes} {r : Rules} {c : Context} {p : ℕ} {x : Target} {q : ℕ} (t : Tells text r) → TargetPatternAt text r c p x q
    → TokensAt text p (target_tokens x) q
target_pattern_stands t (TargetPatternAt.array left xs right h1 h2 h3) =
    over (target-Array left xs None right) (mark_at h1 ▹ elements_stand target_part_tokens h2 (λ p x q h. target_element_stands t h) ▹ nothing
    ▹ mark_at h3)
target_pattern_stands t (TargetPatternAt.array_rest left xs x right h1 h2 h3 h4) =
    over (target-Array left xs (Some x) right) (mark_at h1 ▹ each_element_stands target_part_tokens h2 (λ p x q h. target_element_stands t h)
    ▹ rest_stands target_tokens h3 (λ p x q h. target_stands t h) ▹ mark_at h4)
target_pattern_stands t (TargetPatternAt.object left xs right h1 h2 h3) =
    over (target-Object left xs None right) (mark_at h1 ▹ list_stands target_part_tokens h2 (λ p x q h. target_property_stands t h) ▹ nothing
    ▹ mark_at h3)
target_pattern_stands t (TargetPatternAt.object_rest left xs x right h1 h2 h3 h4) =
    over (target-Object left xs (Some x) right) (mark_at h1 ▹ each_stands target_part_tokens h2 (λ p x q h. target_property_stands t h)
    ▹ rest_stands target_tokens h3 (λ p x q h. simple_target_stands t h) ▹ mark_at h4)

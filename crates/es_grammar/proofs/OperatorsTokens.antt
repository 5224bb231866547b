-- The tokens of operators and assignments stand where their production does.
use Rattle.std.specs.Prelude.{ℕ, List, Some, None}
use Rattle.es_tree.specs.declared.tokens.Token.{Token}
use Rattle.es_tree.specs.declared.parts.Joined.{Joined}
use Rattle.es_tree.specs.declared.parts.Yielded.{Yielded}
use Rattle.es_tree.specs.declared.parts.BinaryOf.{BinaryOf}
use Rattle.es_tree.specs.declared.cycle.Assign.{Assign}
use Rattle.es_tree.specs.declared.cycle.Cond.{Cond}
use Rattle.es_tree.specs.declared.cycle.Operand.{Operand}
use Rattle.es_tree.specs.Yield.{one, listed, joined_tokens, yielded_tokens, assign_tokens, cond_tokens, operand_tokens, binary_tokens}
use Rattle.es_grammar.specs.declared.places.Context.{Context}
use Rattle.es_grammar.specs.Reading.{Bytes}
use Rattle.es_grammar.specs.declared.places.Stop.{Stop}
use Rattle.es_grammar.specs.Rules.{Rules}
use Rattle.es_grammar.specs.Operators.{OperandAt, PrefixedAt, OperatorAt, ListedAt, JoinedAt, BinaryAt, CondAt, YieldedAt, AssignAt}
use Rattle.es_grammar.specs.Tokens.{TokensAt}
use Rattle.es_grammar.proofs.Laws.{assign-Cond, assign-Arrow, assign-Set, assign-Compound, assign-Yield, operand-Private, operand-Prefix, operand-Await, operand-Update, operand-LHS, operand-Postfix}
use Rattle.es_grammar.proofs.Rolled.{cond_rolled}
use Rattle.es_grammar.proofs.Standing.{over, nothing, kind_at, mark_at, one_mark_at, word_at, one_word_at, ◌▹◌}
use Rattle.es_grammar.proofs.Tells.{Tells}
use Rattle.es_grammar.proofs.FunctionsTokens.{arrow_stands}
use Rattle.es_grammar.proofs.ExpressionsTokens.{lhs_stands}
use Rattle.es_grammar.proofs.TargetsTokens.{simple_target_stands, target_stands}

pub operand_stands : {text : Bytes} {r : Rules} {c : Context} {p : ℕ} {x : Operand} {s : Stop} (t : Tells text r) → OperandAt text r c p x s
    → TokensAt text p (operand_tokens x) s.at
operand_stands t (OperandAt.prefixed x h1) = t.prefixed _ _ _ _ h1
operand_stands t (OperandAt.lhs x h1) = over (operand-LHS x) (lhs_stands t h1)
operand_stands t (OperandAt.postfix_of x token h1 h2 h3) = over (operand-Postfix x token) (simple_target_stands t h1 ▹ one_mark_at h2)

pub prefixed_stands : {text : Bytes} {r : Rules} {c : Context} {p : ℕ} {x : Operand} {s : Stop} (t : Tells text r) → PrefixedAt text r c p x s
    → TokensAt text p (operand_tokens x) s.at
prefixed_stands t (PrefixedAt.word token x h1 h2) = over (operand-Prefix token x) (one_word_at h1 ▹ operand_stands t h2)
prefixed_stands t (PrefixedAt.mark token x h1 h2) = over (operand-Prefix token x) (one_mark_at h1 ▹ operand_stands t h2)
prefixed_stands t (PrefixedAt.await token x h1 h2 h3) = over (operand-Await token x) (word_at h2 ▹ operand_stands t h3)
prefixed_stands t (PrefixedAt.update token x h1 h2) = over (operand-Update token x) (one_mark_at h1 ▹ simple_target_stands t h2)

pub operator_stands : {text : Bytes} {c : Context} {p : ℕ} {x : Token} → OperatorAt text c p x → TokensAt text p (one x) x.end
operator_stands (OperatorAt.mark token h1) = one_mark_at h1
operator_stands (OperatorAt.instance token h1) = word_at h1
operator_stands (OperatorAt.member token h1 h2) = word_at h2

pub listed_stands : {text : Bytes} {r : Rules} {c : Context} {p : ℕ} {x : Operand} {s : Stop} (t : Tells text r) → ListedAt text r c p x s
    → TokensAt text p (operand_tokens x) s.at
listed_stands t (ListedAt.operand x h1) = operand_stands t h1
listed_stands t (ListedAt.private token h1) = over (operand-Private token) (kind_at h1)

pub joined_stands : {text : Bytes} {r : Rules} {c : Context} {s : Stop} {xs : List (Joined Operand)} {z : Stop} (t : Tells text r)
    → JoinedAt text r c s xs z → TokensAt text s.at (listed (joined_tokens operand_tokens) xs) z.at
joined_stands t JoinedAt.none = nothing
joined_stands t (JoinedAt.more op x xs h1 h2 h3) = operator_stands h1 ▹ listed_stands t h2 ▹ joined_stands t h3

pub binary_stands : {text : Bytes} {r : Rules} {c : Context} {p : ℕ} {x : BinaryOf Operand} {s : Stop} (t : Tells text r) → BinaryAt text r c p x s
    → TokensAt text p (binary_tokens x) s.at
binary_stands t (BinaryAt.binary x xs h1 h2 h3 h4 h5) = listed_stands t h1 ▹ joined_stands t h2

pub cond_stands : {text : Bytes} {r : Rules} {c : Context} {p : ℕ} {x : Cond} {s : Stop} (t : Tells text r) → CondAt text r c p x s
    → TokensAt text p (cond_tokens x) s.at
cond_stands t (CondAt.test x h1) = over (cond_rolled (record { test = x; arms = None })) (binary_stands t h1 ▹ nothing)
cond_stands t (CondAt.choice x question when_true colon when_false h1 h2 h3 h4 h5) =
    over (cond_rolled (record {
      test = x;
      arms = Some (record { question = question; when_true = when_true; colon = colon; when_false = when_false });
    })) (binary_stands t h1
    ▹ (mark_at h2 ▹ t.assign _ _ _ _ h3 ▹ mark_at h4 ▹ t.assign _ _ _ _ h5))

pub yielded_stands : {text : Bytes} {r : Rules} {c : Context} {p : ℕ} {x : Yielded Assign} {s : Stop} (t : Tells text r) → YieldedAt text r c p x s
    → TokensAt text p (yielded_tokens assign_tokens x) s.at
yielded_stands t (YieldedAt.plain x next h1 h2 h3) = t.assign _ _ _ _ h3
yielded_stands t (YieldedAt.delegated star x h1 h2 h3) = mark_at h1 ▹ t.assign _ _ _ _ h3

pub assign_stands : {text : Bytes} {r : Rules} {c : Context} {p : ℕ} {x : Assign} {s : Stop} (t : Tells text r) → AssignAt text r c p x s
    → TokensAt text p (assign_tokens x) s.at
assign_stands t (AssignAt.cond x h1) = over (assign-Cond x) (cond_stands t h1)
assign_stands t (AssignAt.arrow x h1) = over (assign-Arrow x) (arrow_stands t h1)
assign_stands t (AssignAt.set x op value h1 h2 h3) = over (assign-Set x op value) (target_stands t h1 ▹ mark_at h2 ▹ t.assign _ _ _ _ h3)
assign_stands t (AssignAt.compound x op value h1 h2 h3) =
    over (assign-Compound x op value) (simple_target_stands t h1 ▹ one_mark_at h2 ▹ t.assign _ _ _ _ h3)
assign_stands t (AssignAt.yield_alone word h1 h2) = over (assign-Yield word None) (word_at h2)
assign_stands t (AssignAt.yield word x h1 h2 h3) = over (assign-Yield word (Some x)) (word_at h2 ▹ yielded_stands t h3)

use Rattle.std.proofs.Common.{◌≡◌, ap}
use Rattle.node_resolve.specs.Candidates.{End, Verdict, Scope, resolved, scoped, ends, decided}
use Rattle.node_resolve.specs.Present.{present}
use Rattle.node_resolve.specs.Resolution.{candidates, scopes}
use Rattle.node_resolve.proofs.Agreeing.{one_end, agreeing}
use Rattle.node_resolve.proofs.law.agreeing_trees_resolve_alike.Goals as goal

verdict_in : Verdict → End → Verdict
verdict_in other (resolved verdict) = verdict
verdict_in other (scoped scope) = other

scope_in : Scope → End → Scope
scope_in other (resolved verdict) = other
scope_in other (scoped scope) = scope

same_verdict : (a b : Verdict) → resolved a ≡ resolved b → a ≡ b
unfolding verdict_in
same_verdict a b e = ap (verdict_in a) e

same_scope : (a b : Scope) → scoped a ≡ scoped b → a ≡ b
unfolding scope_in
same_scope a b e = ap (scope_in a) e

pub returns-clause-one : goal.returns-clause-one
returns-clause-one c t folder request form a b asked other h k =
    let s = one_end (present t) (resolved a) (resolved b) (candidates form folder request) asked other h k in (same_verdict a b s.0, s.1)

pub returns-clause-same : goal.returns-clause-same
returns-clause-same c t u folder request form a asked agree h = agreeing (present t) (present u) (decided a) (candidates form folder request) asked agree h

pub returns-clause-one_scope : goal.returns-clause-one_scope
returns-clause-one_scope c t folder a b asked other h k =
    let s = one_end (present t) (scoped a) (scoped b) (scopes folder) asked other h k in (same_scope a b s.0, s.1)

pub returns-clause-same_scope : goal.returns-clause-same_scope
returns-clause-same_scope c t u folder a asked agree h = agreeing (present t) (present u) (ends (scoped a)) (scopes folder) asked agree h

-- The active edges of the graph of the barrel, where it may have side effects.
use Rattle.std.proofs.Common.{◌≡◌, inl, inr, ℕ, zero, suc, true, false, true≢false, List, [], ◌∷◌, Contains, Some, slice_get, refl, sym, subst}
use Rattle.std.proofs.lemmas.Option.{none-some, same_Some}
use Rattle.pk_types.specs.declared.graph.Row.{Row}
use Rattle.pk_types.specs.Use.{HasUse}
use Rattle.pk_types.specs.ActiveEdges.{HasEdges, IsLedTo, IsActive}
use Rattle.pk_types.proofs.Parts.{Contains-one, Contains-head, Contains-tail, Contains-cases, one_only, none_within}
use Rattle.graph_laws.specs.SmallUse.{v1, v2, v3, user, owner, barrel_used}
use Rattle.graph_laws.specs.OpenBarrel.{open_barrel, open_graph, open_owner, plain_graph, open_active, plain_active}
use Rattle.graph_laws.proofs.BarrelUse.{calls_require, calls_import, same_use}
use Rattle.graph_laws.proofs.OpenBarrel.{user_edges, barrel_edges, plain_user_edges, plain_barrel_edges}

pub open_use : HasUse open_graph barrel_used
open_use = same_use false true

pub plain_use : HasUse plain_graph barrel_used
plain_use = same_use false false

-- where the owners have no side effects
data Open : ℕ → Type 0 where
  user_open : Open 0
  barrel_open : Open 1
  second_open : Open 3

open_target : (number : ℕ) → Open number → (target : ℕ) (targets : List ℕ) → slice_get open_active.edges number ≡ Some targets → Contains targets target → Open target
open_target _ Open.user_open target targets e m =
    subst Open (one_only 1 target (subst (λ l. Contains l target) (sym (same_Some (1 ∷ []) targets e)) m)) Open.barrel_open
open_target _ Open.barrel_open target targets e m =
    subst Open (one_only 3 target (subst (λ l. Contains l target) (sym (same_Some (3 ∷ []) targets e)) m)) Open.second_open
open_target _ Open.second_open target targets e m = none_within target (subst (λ l. Contains l target) (sym (same_Some [] targets e)) m)

open_only : (number : ℕ) → IsLedTo open_graph open_active.edges number → Open number
open_only _ (IsLedTo.entry number c) = subst Open (one_only 0 number c) Open.user_open
open_only _ (IsLedTo.along number target targets l e m) = open_target number (open_only number l) target targets e m
open_only _ (IsLedTo.required number target l c) = absurd (calls_require false true number target c)
open_only _ (IsLedTo.imported number target l c) = absurd (calls_import false true number target c)

open_user_led : IsLedTo open_graph open_active.edges 0
open_user_led = IsLedTo.entry 0 (Contains-one 0)

open_barrel_led : IsLedTo open_graph open_active.edges 1
open_barrel_led = IsLedTo.along 0 1 (1 ∷ []) open_user_led refl (Contains-one 1)

open_led : (number : ℕ) → slice_get open_active.reached number ≡ Some true → IsLedTo open_graph open_active.edges number
open_led zero e = open_user_led
open_led (suc zero) e = open_barrel_led
open_led (suc (suc zero)) e = absurd (true≢false (sym (same_Some false true e)))
open_led (suc (suc (suc zero))) e = IsLedTo.along 1 3 (3 ∷ []) open_barrel_led refl (Contains-one 3)
open_led (suc (suc (suc (suc zero)))) e = absurd (true≢false (sym (same_Some false true e)))
open_led (suc (suc (suc (suc (suc number))))) e = absurd (none-some true e)

open_reached : (number : ℕ) → Open number → slice_get open_active.reached number ≡ Some true
open_reached _ Open.user_open = refl
open_reached _ Open.barrel_open = refl
open_reached _ Open.second_open = refl

OpenEdges : ℕ → Row → List ℕ → Type 0
OpenEdges number row edges = (names : List (List ℕ)) × (slice_get barrel_used.names number ≡ Some names) × HasEdges open_graph number row names edges

open_edges_at : (number : ℕ) → Open number → (row : Row) (edges : List ℕ) → slice_get open_graph.rows number ≡ Some row
    → slice_get open_active.edges number ≡ Some edges → OpenEdges number row edges
unfolding OpenEdges
open_edges_at _ Open.user_open row edges e g =
    subst (λ w. OpenEdges 0 w edges) (same_Some user row e) (subst (OpenEdges 0 user) (same_Some (1 ∷ []) edges g) ([], refl, user_edges))
open_edges_at _ Open.barrel_open row edges e g =
    subst (λ w. OpenEdges 1 w edges) (same_Some open_barrel row e) (subst (OpenEdges 1 open_barrel) (same_Some (3 ∷ []) edges g) (v2 ∷ [], refl, barrel_edges))
open_edges_at _ Open.second_open row edges e g =
    subst (λ w. OpenEdges 3 w edges) (same_Some (owner v2) row e) (subst (OpenEdges 3 (owner v2)) (same_Some [] edges g) (v2 ∷ [], refl, ([], tt, refl)))

open_none : (number : ℕ) → slice_get open_active.reached number ≡ Some false → slice_get open_active.edges number ≡ Some []
open_none zero e = absurd (true≢false (same_Some true false e))
open_none (suc zero) e = absurd (true≢false (same_Some true false e))
open_none (suc (suc zero)) e = refl
open_none (suc (suc (suc zero))) e = refl
open_none (suc (suc (suc (suc zero)))) e = refl
open_none (suc (suc (suc (suc (suc number))))) e = absurd (none-some false e)

pub open_graph_edges : IsActive open_graph barrel_used open_active
unfolding OpenEdges
open_graph_edges = record {
  each_edges = refl;
  each_reached = refl;
  reached = λ number. (λ e. open_led number e, λ l. open_reached number (open_only number l));
  edges = λ number row edges r e g. open_edges_at number (open_only number (open_led number r)) row edges e g;
  others = λ number e. open_none number e;
}

-- where no module is flagged
data Plain : ℕ → Type 0 where
  user_plain : Plain 0
  barrel_plain : Plain 1
  first_plain : Plain 2
  second_plain : Plain 3
  third_plain : Plain 4

of_owners : (P : ℕ → Type 0) → P 2 → P 3 → P 4 → (number : ℕ) → Contains (2 ∷ 3 ∷ 4 ∷ []) number → P number
of_owners P first second third number c = elim (Contains-cases 2 (3 ∷ 4 ∷ []) number c) [
  | inl e ↦ subst P e first
  | inr h ↦ elim (Contains-cases 3 (4 ∷ []) number h) [ inl e ↦ subst P e second | inr w ↦ subst P (one_only 4 number w) third ]
]

plain_target : (number : ℕ) → Plain number → (target : ℕ) (targets : List ℕ) → slice_get plain_active.edges number ≡ Some targets → Contains targets target
    → Plain target
plain_target _ Plain.user_plain target targets e m =
    subst Plain (one_only 1 target (subst (λ l. Contains l target) (sym (same_Some (1 ∷ []) targets e)) m)) Plain.barrel_plain
plain_target _ Plain.barrel_plain target targets e m =
    of_owners Plain Plain.first_plain Plain.second_plain Plain.third_plain target
    (subst (λ l. Contains l target) (sym (same_Some (2 ∷ 3 ∷ 4 ∷ []) targets e)) m)
plain_target _ Plain.first_plain target targets e m = none_within target (subst (λ l. Contains l target) (sym (same_Some [] targets e)) m)
plain_target _ Plain.second_plain target targets e m = none_within target (subst (λ l. Contains l target) (sym (same_Some [] targets e)) m)
plain_target _ Plain.third_plain target targets e m = none_within target (subst (λ l. Contains l target) (sym (same_Some [] targets e)) m)

plain_only : (number : ℕ) → IsLedTo plain_graph plain_active.edges number → Plain number
plain_only _ (IsLedTo.entry number c) = subst Plain (one_only 0 number c) Plain.user_plain
plain_only _ (IsLedTo.along number target targets l e m) = plain_target number (plain_only number l) target targets e m
plain_only _ (IsLedTo.required number target l c) = absurd (calls_require false false number target c)
plain_only _ (IsLedTo.imported number target l c) = absurd (calls_import false false number target c)

plain_user_led : IsLedTo plain_graph plain_active.edges 0
plain_user_led = IsLedTo.entry 0 (Contains-one 0)

plain_barrel_led : IsLedTo plain_graph plain_active.edges 1
plain_barrel_led = IsLedTo.along 0 1 (1 ∷ []) plain_user_led refl (Contains-one 1)

behind_barrel : (target : ℕ) → Contains (2 ∷ 3 ∷ 4 ∷ []) target → IsLedTo plain_graph plain_active.edges target
behind_barrel target m = IsLedTo.along 1 target (2 ∷ 3 ∷ 4 ∷ []) plain_barrel_led refl m

plain_led : (number : ℕ) → slice_get plain_active.reached number ≡ Some true → IsLedTo plain_graph plain_active.edges number
plain_led zero e = plain_user_led
plain_led (suc zero) e = plain_barrel_led
plain_led (suc (suc zero)) e = behind_barrel 2 (Contains-head 2 (3 ∷ 4 ∷ []))
plain_led (suc (suc (suc zero))) e = behind_barrel 3 (Contains-tail 2 (3 ∷ 4 ∷ []) 3 (Contains-head 3 (4 ∷ [])))
plain_led (suc (suc (suc (suc zero)))) e = behind_barrel 4 (Contains-tail 2 (3 ∷ 4 ∷ []) 4 (Contains-tail 3 (4 ∷ []) 4 (Contains-one 4)))
plain_led (suc (suc (suc (suc (suc number))))) e = absurd (none-some true e)

plain_reached : (number : ℕ) → Plain number → slice_get plain_active.reached number ≡ Some true
plain_reached _ Plain.user_plain = refl
plain_reached _ Plain.barrel_plain = refl
plain_reached _ Plain.first_plain = refl
plain_reached _ Plain.second_plain = refl
plain_reached _ Plain.third_plain = refl

PlainEdges : ℕ → Row → List ℕ → Type 0
PlainEdges number row edges = (names : List (List ℕ)) × (slice_get barrel_used.names number ≡ Some names) × HasEdges plain_graph number row names edges

plain_edges_at : (number : ℕ) → Plain number → (row : Row) (edges : List ℕ) → slice_get plain_graph.rows number ≡ Some row
    → slice_get plain_active.edges number ≡ Some edges → PlainEdges number row edges
unfolding PlainEdges
plain_edges_at _ Plain.user_plain row edges e g =
    subst (λ w. PlainEdges 0 w edges) (same_Some user row e) (subst (PlainEdges 0 user) (same_Some (1 ∷ []) edges g) ([], refl, plain_user_edges))
plain_edges_at _ Plain.barrel_plain row edges e g =
    subst (λ w. PlainEdges 1 w edges) (same_Some open_barrel row e)
    (subst (PlainEdges 1 open_barrel) (same_Some (2 ∷ 3 ∷ 4 ∷ []) edges g) (v2 ∷ [], refl, plain_barrel_edges))
plain_edges_at _ Plain.first_plain row edges e g =
    subst (λ w. PlainEdges 2 w edges) (same_Some (open_owner v1) row e) (subst (PlainEdges 2 (open_owner v1)) (same_Some [] edges g) ([], refl, ([], tt, refl)))
plain_edges_at _ Plain.second_plain row edges e g =
    subst (λ w. PlainEdges 3 w edges) (same_Some (open_owner v2) row e) (subst (PlainEdges 3 (open_owner v2)) (same_Some [] edges g) (v2 ∷ [], refl, ([], tt, refl)))
plain_edges_at _ Plain.third_plain row edges e g =
    subst (λ w. PlainEdges 4 w edges) (same_Some (open_owner v3) row e) (subst (PlainEdges 4 (open_owner v3)) (same_Some [] edges g) ([], refl, ([], tt, refl)))

plain_none : (number : ℕ) → slice_get plain_active.reached number ≡ Some false → ⊥
plain_none zero e = true≢false (same_Some true false e)
plain_none (suc zero) e = true≢false (same_Some true false e)
plain_none (suc (suc zero)) e = true≢false (same_Some true false e)
plain_none (suc (suc (suc zero))) e = true≢false (same_Some true false e)
plain_none (suc (suc (suc (suc zero)))) e = true≢false (same_Some true false e)
plain_none (suc (suc (suc (suc (suc number))))) e = none-some false e

pub plain_graph_edges : IsActive plain_graph barrel_used plain_active
unfolding PlainEdges
plain_graph_edges = record {
  each_edges = refl;
  each_reached = refl;
  reached = λ number. (λ e. plain_led number e, λ l. plain_reached number (plain_only number l));
  edges = λ number row edges r e g. plain_edges_at number (plain_only number (plain_led number r)) row edges e g;
  others = λ number e. absurd (plain_none number e);
}

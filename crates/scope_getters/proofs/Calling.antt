-- The modules that are called for, and the namespaces that are asked for.
use Rattle.std.proofs.Common.{◌≡◌, ◌⊎◌, ◌↔◌, inl, inr, ⊎_elim, ◌<◌, ◌+◌, ◌++◌, Option, None, ℕ, Bool, true, false, nat_eq, List, [], ◌∷◌, length, get_or, Some, slice_get, option_map, Contains, IsTrue, refl, sym, ap, subst, ◌∙◌, arith}
use Rattle.std.specs.List.{list_any}
use Rattle.std.proofs.lemmas.Bool.{true≢false, eq-eqb}
use Rattle.std.proofs.lemmas.List.{get_or_append_left, get_or_push, length-append}
use Rattle.std.proofs.lemmas.Map.Views.{Contains-from_any, exact_unsigned_eq}
use Rattle.std.proofs.lemmas.Option.{none-some, same_Some, slice_get-get_or, slice_get_within, get_or_from_slice_get}
use Rattle.pk_types.specs.declared.facts.SiteKind.{SiteKind}
use Rattle.pk_types.specs.declared.facts.SiteKind.TheVariants.{Init, Read, Write, Member, Space, Require, Import}
use Rattle.pk_types.specs.declared.facts.Kind.{Kind}
use Rattle.pk_types.specs.declared.facts.Kind.TheVariants.{Es}
use Rattle.pk_types.specs.declared.graph.Graph.{Graph}
use Rattle.pk_types.specs.declared.graph.Row.{Row}
use Rattle.pk_types.specs.declared.plan.Active.{Active}
use Rattle.pk_types.specs.declared.plan.Used.{Used}
use Rattle.pk_types.specs.ChunkGroups.{IsImportTarget}
use Rattle.pk_types.specs.HoistSets.{IsReachedModule, IsRequired}
use Rattle.pk_types.specs.Requests.{site_kinds}
use Rattle.pk_types.specs.Sites.{called_requests}
use Rattle.pk_types.proofs.ListMembers.{none_in, here, any_true}
use Rattle.prune_graph.specs.Meeting.{Meets, IsCalled}
use Rattle.module_spelling.specs.Layout.{Layout}
use Rattle.scope_getters.specs.Gaining.{Gains, Below, CallsFor, AreCalled, AreSpaces}
use Rattle.scope_getters.specs.Scopes.{IsAsked, HasSpace}
use Rattle.scope_getters.proofs.Gaining.{gains_none}

-- a flag that is read as true
pub flag_set : (flags : List Bool) (place : ℕ) → place < length flags → get_or flags place false ≡ true → slice_get flags place ≡ Some true
flag_set flags place within e = slice_get-get_or flags place false within ∙ ap Some e

pub flag_read : (flags : List Bool) (place : ℕ) → slice_get flags place ≡ Some true → get_or flags place false ≡ true
flag_read flags place e = get_or_from_slice_get flags place true false e

pub flag_unset : (flags : List Bool) (place : ℕ) → get_or flags place false ≡ false → slice_get flags place ≡ Some true → ⊥
flag_unset flags place e at = true≢false (sym (flag_read flags place at) ∙ e)

pub called_gains : (graph : Graph) (active : Active) (from : ℕ) (row : Row) (old new : List ℕ) → IsReachedModule active from → slice_get graph.rows from ≡ Some row
    → Meets old (IsCalled row) new → Gains old (CallsFor graph active from) new
called_gains graph active from row old new reached at meets = record {
  each = λ target. (
    λ c. ⊎_elim (λ was. inl was) (λ called. inr (row, reached, at, called)) ((meets.each target).0 c),
    λ e. (meets.each target).1 (⊎_elim (λ was. inl was) (λ (calls : CallsFor graph active from target).
        inr (subst (λ (r : Row). IsCalled r target) (same_Some calls.0 row (sym calls.2 ∙ at)) calls.3)) e),
  );
}

pub none_called : (graph : Graph) (active : Active) (from : ℕ) (old : List ℕ) → get_or active.reached from false ≡ false
    → Gains old (CallsFor graph active from) old
none_called graph active from old unset = gains_none old (CallsFor graph active from) (λ target calls. flag_unset active.reached from unset calls.1)

pub all_called : (graph : Graph) (active : Active) (called : List ℕ) (count : ℕ) → count ≡ length graph.rows → Gains [] (Below count (CallsFor graph active)) called
    → AreCalled graph active called
all_called graph active called count is gains = record {
  each = λ target. (
    λ c. ⊎_elim (λ c. absurd (none_in target c)) (λ (b : Below count (CallsFor graph active) target). (b.0, b.2)) ((gains.each target).0 c),
    λ calls. (gains.each target).1 (inr (calls.0, subst (λ n. calls.0 < n) (sym is) (slice_get_within graph.rows calls.0 calls.1.0 calls.1.2), calls.1)),
  );
}

-- ---- by which kind of site

only_request : (one other : ℕ) → one ∷ [] ≡ other ∷ [] → one ≡ other
only_request one other e = grind arith

calls_by : (kinds : List SiteKind) (kind : SiteKind) (request : ℕ) → Contains kinds kind → called_requests kind ≡ request ∷ []
    → Contains kinds (Require request) ⊎ Contains kinds (Import request)
calls_by kinds (Init binding) request c e = absurd (clash e)
  where
    clash : [] ≡ request ∷ [] → ⊥
    clash e = grind arith
calls_by kinds (Read named) request c e = absurd (none_in request (subst (λ l. Contains l request) (sym e) (here request [])))
calls_by kinds (Write named) request c e = absurd (none_in request (subst (λ l. Contains l request) (sym e) (here request [])))
calls_by kinds (Member place name) request c e = absurd (none_in request (subst (λ l. Contains l request) (sym e) (here request [])))
calls_by kinds (Space place) request c e = absurd (none_in request (subst (λ l. Contains l request) (sym e) (here request [])))
calls_by kinds (Require place) request c e = inl (subst (λ n. Contains kinds (Require n)) (only_request place request e) c)
calls_by kinds (Import place) request c e = inr (subst (λ n. Contains kinds (Import n)) (only_request place request e) c)

-- a module is called for where a reached module requires or imports it
pub asked_by_call : (graph : Graph) (active : Active) (number from : ℕ) → CallsFor graph active from number → IsRequired graph active number ⊎ IsImportTarget graph active number
asked_by_call graph active number from calls =
    let one = calls.3 in
    ⊎_elim (λ c. inl (from, calls.1, (calls.0, one.1, calls.2, c, one.4))) (λ c. inr (from, calls.1, (calls.0, one.1, calls.2, c, one.4)))
    (calls_by (site_kinds calls.0) one.0 one.1 one.2 one.3)

pub call_by_asked : (graph : Graph) (active : Active) (number : ℕ) → IsRequired graph active number ⊎ IsImportTarget graph active number
    → (from : ℕ) × CallsFor graph active from number
call_by_asked graph active number e = ⊎_elim
    (λ (r : IsRequired graph active number). (r.0, (r.2.0, r.1, r.2.2, (Require r.2.1, r.2.1, r.2.3, refl, r.2.4))))
    (λ (i : IsImportTarget graph active number). (i.0, (i.2.0, i.1, i.2.2, (Import i.2.1, i.2.1, i.2.3, refl, i.2.4)))) e

-- whether it stands among those that are called for
pub asked_or : (graph : Graph) (active : Active) (used : Used) (called : List ℕ) (number : ℕ) (b : Bool) → AreCalled graph active called
    → get_or used.whole number false ≡ false → b ≡ list_any (nat_eq number) called
    → (IsTrue b → IsAsked graph active used number) × (IsAsked graph active used number → IsTrue b)
asked_or graph active used called number true are unset is = (
  λ t. let c : Contains called number = Contains-from_any exact_unsigned_eq number called (sym is) in let from = (are.each number).0 c in inr (asked_by_call graph active number from.0 from.1),
  λ a. refl,
)
asked_or graph active used called number false are unset is = (
  λ t. absurd (true≢false (sym t)),
  λ a. ⊎_elim (λ w. absurd (flag_unset used.whole number unset w))
      (λ e. let c = (are.each number).1 (call_by_asked graph active number e) in absurd (true≢false (sym (any_true (nat_eq number) called number c (eq-eqb number number refl)) ∙ sym is))) a,
)

-- ---- for each module whether its namespace has a list

-- for the first modules
pub record AreFirst (layout : Layout) (active : Active) (used : Used) (spaces : List Bool) (count : ℕ) : Type 0 where
  pub each : length spaces ≡ count
  pub listed : (root : ℕ) → root < count → (get_or spaces root false ≡ true) ↔ HasSpace layout active used root

next_place : (n k : ℕ) → k < n + 1 → (k < n) ⊎ (n ≡ k)
next_place n k h = grind arith

pub first_more : (layout : Layout) (active : Active) (used : Used) (spaces more : List Bool) (count : ℕ) (b : Bool) → more ≡ spaces ++ b ∷ []
    → AreFirst layout active used spaces count → (IsTrue b ↔ HasSpace layout active used count) → AreFirst layout active used more (count + 1)
first_more layout active used spaces more count b is are one = subst (λ l. AreFirst layout active used l (count + 1)) (sym is) (record {
  each = omega (arith, length-append spaces (b ∷ []), are.each);
  listed = λ root h. ⊎_elim
      (λ before. let same = get_or_append_left spaces (b ∷ []) false root (omega (arith, before, are.each)) in
      (λ e. (are.listed root before).0 (sym same ∙ e), λ s. same ∙ (are.listed root before).1 s))
      (λ here. let same = get_or_push spaces b false root (are.each ∙ here) in (
        λ e. subst (HasSpace layout active used) here (one.0 (sym same ∙ e)),
        λ s. same ∙ (one.1 (subst (HasSpace layout active used) (sym here) s)),
      ))
      (next_place count root h);
})

row_there : (row : Option Row) (kind : Kind) → option_map (λ r. r.facts.kind) row ≡ Some kind → (r : Row) × (row ≡ Some r)
row_there None kind e = absurd (none-some kind e)
row_there (Some row) kind e = (row, refl)

pub all_spaces : (layout : Layout) (active : Active) (used : Used) (spaces : List Bool) (count : ℕ) → count ≡ length layout.graph.rows
    → AreFirst layout active used spaces count → AreSpaces layout active used spaces
all_spaces layout active used spaces count is are = record {
  each = are.each ∙ is;
  listed = λ root. (
    λ at. (are.listed root (subst (λ n. root < n) are.each (slice_get_within spaces root true at))).0 (flag_read spaces root at),
    λ (s : HasSpace layout active used root).
        let r = row_there (slice_get layout.graph.rows root) Es s.kind in
        let within : root < count = subst (λ n. root < n) (sym is) (slice_get_within layout.graph.rows root r.0 r.1) in
        flag_set spaces root (subst (λ n. root < n) (sym are.each) within) ((are.listed root within).1 s),
  );
}

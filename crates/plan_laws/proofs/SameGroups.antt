-- In a bare graph the groups are those of the entries.
use Rattle.std.proofs.Common.{◌≡◌, ℕ, zero, suc, List, [], ◌∷◌, length, map, get_or, Contains, Some, slice_get, sym, ap, subst, ◌∙◌, arith}
use Rattle.std.specs.List.{AllZip}
use Rattle.std.specs.List.Sorted.{IsStrictlyIncreasing}
use Rattle.std.proofs.lemmas.Option.{none-some, same_Some, slice_get-get_or, get_or_from_slice_get}
use Rattle.std.proofs.lemmas.List.{append-nil, length-map}
use Rattle.std.proofs.lemmas.Slice.Zip.{AllZip-long}
use Rattle.pk_types.specs.declared.graph.Graph.{Graph}
use Rattle.pk_types.specs.declared.plan.Active.{Active}
use Rattle.pk_types.specs.declared.plan.Groups.{Groups}
use Rattle.pk_types.specs.ChunkGroups.{IsInClosure, IsImportTarget, LeadsTo, AreAll, IsGroups}
use Rattle.emit_chunk.specs.Bare.{IsBare}
use Rattle.plan_core.specs.Closure.{IsReached, IsClosure}
use Rattle.plan_core.specs.Plans.{AreEntryGroups}
use Rattle.pk_types.proofs.ListMembers.{in_row}
use Rattle.pk_types.proofs.Parts.{none_within}
use Rattle.plan_laws.proofs.Unused.{no_require, no_import}

pub zip_at : {A B : Type 0} (R : A → B → Type 0) (xs : List A) (ys : List B) (k : ℕ) (x : A) (y : B) → AllZip R xs ys
    → slice_get xs k ≡ Some x → slice_get ys k ≡ Some y → R x y
zip_at R [] ys k x y z e f = absurd (none-some x e)
zip_at R (a ∷ xs) [] k x y z e f = absurd (none-some y f)
zip_at R (a ∷ xs) (b ∷ ys) zero x y z e f = subst (λ u. R u y) (same_Some a x e) (subst (R a) (same_Some b y f) z.0)
zip_at R (a ∷ xs) (b ∷ ys) (suc k) x y z e f = zip_at R xs ys k x y z.1 e f

pub empty_at : {A : Type 0} (xs : List A) (k : ℕ) (y : List ℕ) → slice_get (map (λ _. []) xs) k ≡ Some y → [] ≡ y
empty_at [] k y e = absurd (none-some y e)
empty_at (x ∷ xs) zero y e = same_Some [] y e
empty_at (x ∷ xs) (suc k) y e = empty_at xs k y e

none_rising : IsStrictlyIncreasing []
none_rising k l = absurd (omega (arith, l))

are_none : (P : ℕ → Type 0) → ((number : ℕ) → P number → ⊥) → AreAll P []
are_none P never = record { ascending = none_rising; each = λ number. (λ c. none_within number c, λ p. absurd (never number p)) }

module _ (graph : Graph) (bare : IsBare graph) where
  module _ (edges : List (List ℕ)) (from : ℕ) where
    to_closure : (number : ℕ) → IsReached edges from number → IsInClosure graph edges from number
    to_closure _ IsReached.itself = IsInClosure.itself
    to_closure _ (IsReached.along number target path m) =
        IsInClosure.along number target (get_or edges number []) (to_closure number path) (slice_get-get_or edges number [] (in_row edges number target m)) m

    from_closure : (number : ℕ) → IsInClosure graph edges from number → IsReached edges from number
    from_closure _ IsInClosure.itself = IsReached.itself
    from_closure _ (IsInClosure.along number target targets i e m) =
        IsReached.along number target (from_closure number i) (subst (λ l. Contains l target) (sym (get_or_from_slice_get edges number targets [] e)) m)
    from_closure _ (IsInClosure.required number target i c) = absurd (no_require graph bare number target c)

    is_closure : (modules : List ℕ) → IsClosure edges from modules → AreAll (IsInClosure graph edges from) modules
    is_closure modules closure = record {
      ascending = closure.ascending;
      each = λ number. (λ c. to_closure number ((closure.reached number).0 c), λ i. (closure.reached number).1 (from_closure number i));
    }

  pub are_groups : (active : Active) (groups : Groups) → AreEntryGroups graph active.edges groups → IsGroups graph active groups
  are_groups active groups planned = record {
    targets = record {
      entries = planned.entries;
      imported = [];
      targets = planned.targets ∙ sym (append-nil graph.entries);
      others = are_none (IsImportTarget graph active) (λ target t. no_import graph bare t.0 target t.2);
    };
    each_closure = AllZip-long (IsClosure active.edges) groups.targets groups.closures planned.closures;
    each_lead = ap length planned.leads ∙ length-map graph.entries (λ _. []) ∙ sym (ap length planned.targets);
    closures = λ group target modules e f. is_closure active.edges target modules (zip_at (IsClosure active.edges) groups.targets groups.closures group target modules planned.closures e f);
    leads = λ group modules next e f. subst (AreAll (LeadsTo graph groups modules))
        (empty_at graph.entries group next (subst (λ l. slice_get l group ≡ Some next) planned.leads f))
        (are_none (LeadsTo graph groups modules) (λ place l. no_import graph bare l.3.0 l.0 l.3.2));
  }

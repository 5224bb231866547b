-- What the groups of small graphs bring.
use Rattle.std.proofs.Common.{◌≡◌, ◌⊎◌, inl, inr, ℕ, zero, suc, ◌<◌, true, false, true≢false, List, [], ◌∷◌, Contains, Some, slice_get, refl, sym, subst, ◌∙◌, lit<, lit≤}
use Rattle.std.specs.List.{list_any, AllByRecursion}
use Rattle.std.proofs.lemmas.Option.{same_Some}
use Rattle.std.proofs.lemmas.List.Elements.{All-from_recursion, All-contains}
use Rattle.pk_types.specs.declared.plan.Groups.{Groups}
use Rattle.pk_types.specs.Availability.{Holds, Leads, IsWalk, IsAvailable}
use Rattle.pk_types.proofs.Availabilities.{walk_begins, walk_goes_on, by_all_parents}
use Rattle.graph_laws.specs.RequiredModule.{require_groups}
use Rattle.graph_laws.specs.SmallGroups.{BringsExactly, one_parent, both_parents, entry_itself, two_entries}
use Rattle.graph_laws.proofs.Tests.{has, passes, tested, holds, leads, to_holds, to_leads, of_leads, none_holds}

-- either the group brings the module, and it isn't available, or the other way round
Decided : Groups → ℕ → List ℕ → ℕ → Type 0
Decided groups group kept number = (Contains kept number × ¬ IsAvailable groups group number) ⊎ ((¬ Contains kept number) × IsAvailable groups group number)

brought : (groups : Groups) (group : ℕ) (kept : List ℕ) (number : ℕ) → Decided groups group kept number → ¬ IsAvailable groups group number → Contains kept number
unfolding Decided
brought groups group kept number (inl d) n = d.0
brought groups group kept number (inr d) n = absurd (n d.1)

missing : (groups : Groups) (group : ℕ) (kept : List ℕ) (number : ℕ) → Decided groups group kept number → Contains kept number → ¬ IsAvailable groups group number
unfolding Decided
missing groups group kept number (inl d) m = d.1
missing groups group kept number (inr d) m = absurd (d.0 m)

places : (groups : Groups) (group : ℕ) (modules kept : List ℕ) → slice_get groups.closures group ≡ Some modules
    → AllByRecursion (λ number. has modules number ≡ true) kept → AllByRecursion (Decided groups group kept) modules → BringsExactly groups group kept
places groups group modules kept e within decided number = (
  λ placed. brought groups group kept number (at number (subst (λ l. Contains l number) (same_Some placed.0.0 modules (sym placed.0.1 ∙ e)) placed.0.2)) placed.1,
  λ m. let c : Contains modules number = passes modules number (All-contains (λ n. has modules n ≡ true) kept number (All-from_recursion (λ n. has modules n ≡ true) kept within) m) in
      ((modules, e, c), missing groups group kept number (at number c) m),
)
  where
    at : (number : ℕ) → Contains modules number → Decided groups group kept number
    at number c = All-contains (Decided groups group kept) modules number (All-from_recursion (Decided groups group kept) modules decided) c

-- a walk that meets no group with the module
is_brought : (groups : Groups) (group : ℕ) (kept before : List ℕ) (number : ℕ) → IsWalk groups before group → list_any (holds groups number) before ≡ false
    → has kept number ≡ true → Decided groups group kept number
unfolding Decided
is_brought groups group kept before number walk e h = inl (passes kept number h, λ available. none_holds groups number before e (available before walk))

is_there : (groups : Groups) (group : ℕ) (kept : List ℕ) (number : ℕ) → IsAvailable groups group number → has kept number ≡ false → Decided groups group kept number
unfolding Decided
is_there groups group kept number available e = inr (λ m. true≢false (sym (tested kept number m) ∙ e), available)

first : (groups : Groups) → 0 < groups.entries → IsWalk groups [] 0
first groups h = walk_begins groups 0 h

step : (groups : Groups) (next : ℕ) → 0 < groups.entries → leads groups 0 next ≡ true → IsWalk groups (0 ∷ []) next
step groups next h e = walk_goes_on groups [] 0 next (first groups h) (to_leads groups 0 next e)

steps : (groups : Groups) (group next : ℕ) → 0 < groups.entries → leads groups 0 group ≡ true → leads groups group next ≡ true → IsWalk groups (0 ∷ group ∷ []) next
steps groups group next h e f = walk_goes_on groups (0 ∷ []) group next (step groups group h e) (to_leads groups group next f)

pub one_parent_entry : BringsExactly one_parent 0 (0 ∷ [])
one_parent_entry = places one_parent 0 (0 ∷ []) (0 ∷ []) refl (refl, tt) (is_brought one_parent 0 (0 ∷ []) [] 0 (first one_parent (lit< tt)) refl refl, tt)

pub one_parent_first : BringsExactly one_parent 1 (1 ∷ 3 ∷ [])
one_parent_first =
    let walk : IsWalk one_parent (0 ∷ []) 1 = step one_parent 1 (lit< tt) refl in
    places one_parent 1 (1 ∷ 3 ∷ []) (1 ∷ 3 ∷ []) refl (refl, (refl, tt))
    (is_brought one_parent 1 (1 ∷ 3 ∷ []) (0 ∷ []) 1 walk refl refl, (is_brought one_parent 1 (1 ∷ 3 ∷ []) (0 ∷ []) 3 walk refl refl, tt))

pub one_parent_second : BringsExactly one_parent 2 (2 ∷ [])
one_parent_second = places one_parent 2 (2 ∷ []) (2 ∷ []) refl (refl, tt)
    (is_brought one_parent 2 (2 ∷ []) (0 ∷ []) 2 (step one_parent 2 (lit< tt) refl) refl refl, tt)

-- by the way through 2 the module 3 isn't there yet
pub one_parent_last : BringsExactly one_parent 3 (3 ∷ 4 ∷ [])
one_parent_last =
    let walk : IsWalk one_parent (0 ∷ 2 ∷ []) 3 = steps one_parent 2 3 (lit< tt) refl refl in
    places one_parent 3 (3 ∷ 4 ∷ []) (3 ∷ 4 ∷ []) refl (refl, (refl, tt))
    (is_brought one_parent 3 (3 ∷ 4 ∷ []) (0 ∷ 2 ∷ []) 3 walk refl refl, (is_brought one_parent 3 (3 ∷ 4 ∷ []) (0 ∷ 2 ∷ []) 4 walk refl refl, tt))

pub both_parents_entry : BringsExactly both_parents 0 (0 ∷ [])
both_parents_entry = places both_parents 0 (0 ∷ []) (0 ∷ []) refl (refl, tt) (is_brought both_parents 0 (0 ∷ []) [] 0 (first both_parents (lit< tt)) refl refl, tt)

pub both_parents_first : BringsExactly both_parents 1 (1 ∷ 3 ∷ [])
both_parents_first =
    let walk : IsWalk both_parents (0 ∷ []) 1 = step both_parents 1 (lit< tt) refl in
    places both_parents 1 (1 ∷ 3 ∷ []) (1 ∷ 3 ∷ []) refl (refl, (refl, tt))
    (is_brought both_parents 1 (1 ∷ 3 ∷ []) (0 ∷ []) 1 walk refl refl, (is_brought both_parents 1 (1 ∷ 3 ∷ []) (0 ∷ []) 3 walk refl refl, tt))

pub both_parents_second : BringsExactly both_parents 2 (2 ∷ 3 ∷ [])
both_parents_second =
    let walk : IsWalk both_parents (0 ∷ []) 2 = step both_parents 2 (lit< tt) refl in
    places both_parents 2 (2 ∷ 3 ∷ []) (2 ∷ 3 ∷ []) refl (refl, (refl, tt))
    (is_brought both_parents 2 (2 ∷ 3 ∷ []) (0 ∷ []) 2 walk refl refl, (is_brought both_parents 2 (2 ∷ 3 ∷ []) (0 ∷ []) 3 walk refl refl, tt))

both_have_it : (parent : ℕ) → Leads both_parents parent 3 → Holds both_parents 3 parent ⊎ IsAvailable both_parents parent 3
both_have_it zero l = absurd (true≢false (sym (of_leads both_parents 0 3 l)))
both_have_it (suc zero) l = inl (to_holds both_parents 3 1 refl)
both_have_it (suc (suc zero)) l = inl (to_holds both_parents 3 2 refl)
both_have_it (suc (suc (suc zero))) l = absurd (true≢false (sym (of_leads both_parents 3 3 l)))
both_have_it (suc (suc (suc (suc parent)))) l = absurd (true≢false (sym (of_leads both_parents (suc (suc (suc (suc parent)))) 3 l)))

-- whichever way was taken, the module 3 is there
pub both_parents_last : BringsExactly both_parents 3 (4 ∷ [])
both_parents_last = places both_parents 3 (3 ∷ 4 ∷ []) (4 ∷ []) refl (refl, tt) (
  is_there both_parents 3 (4 ∷ []) 3 (by_all_parents both_parents 3 3 (lit≤ tt) both_have_it) refl,
  (is_brought both_parents 3 (4 ∷ []) (0 ∷ 1 ∷ []) 4 (steps both_parents 1 3 (lit< tt) refl refl) refl refl, tt),
)

pub entry_itself_entry : BringsExactly entry_itself 0 (0 ∷ 1 ∷ [])
entry_itself_entry =
    let walk : IsWalk entry_itself [] 0 = first entry_itself (lit< tt) in
    places entry_itself 0 (0 ∷ 1 ∷ []) (0 ∷ 1 ∷ []) refl (refl, (refl, tt))
    (is_brought entry_itself 0 (0 ∷ 1 ∷ []) [] 0 walk refl refl, (is_brought entry_itself 0 (0 ∷ 1 ∷ []) [] 1 walk refl refl, tt))

entry_has_it : (parent : ℕ) → Leads entry_itself parent 1 → Holds entry_itself 1 parent ⊎ IsAvailable entry_itself parent 1
entry_has_it zero l = inl (to_holds entry_itself 1 0 refl)
entry_has_it (suc zero) l = absurd (true≢false (sym (of_leads entry_itself 1 1 l)))
entry_has_it (suc (suc parent)) l = absurd (true≢false (sym (of_leads entry_itself (suc (suc parent)) 1 l)))

-- nothing is left for the group of the `import()`
pub entry_itself_later : BringsExactly entry_itself 1 []
entry_itself_later = places entry_itself 1 (1 ∷ []) [] refl tt
    (is_there entry_itself 1 [] 1 (by_all_parents entry_itself 1 1 (lit≤ tt) entry_has_it) refl, tt)

pub two_entries_first : BringsExactly two_entries 0 (0 ∷ [])
two_entries_first = places two_entries 0 (0 ∷ []) (0 ∷ []) refl (refl, tt) (is_brought two_entries 0 (0 ∷ []) [] 0 (first two_entries (lit< tt)) refl refl, tt)

pub two_entries_second : BringsExactly two_entries 1 (1 ∷ [])
two_entries_second = places two_entries 1 (1 ∷ []) (1 ∷ []) refl (refl, tt) (is_brought two_entries 1 (1 ∷ []) [] 1 (walk_begins two_entries 1 (lit< tt)) refl refl, tt)

pub two_entries_later : BringsExactly two_entries 2 (2 ∷ [])
two_entries_later = places two_entries 2 (2 ∷ []) (2 ∷ []) refl (refl, tt)
    (is_brought two_entries 2 (2 ∷ []) (0 ∷ []) 2 (step two_entries 2 (lit< tt) refl) refl refl, tt)

-- a group of an entry that has a required module, and one that it leads to
pub required_entry : BringsExactly require_groups 0 (0 ∷ 1 ∷ 3 ∷ [])
required_entry = places require_groups 0 (0 ∷ 1 ∷ 3 ∷ []) (0 ∷ 1 ∷ 3 ∷ []) refl (refl, (refl, (refl, tt))) (
  is_brought require_groups 0 (0 ∷ 1 ∷ 3 ∷ []) [] 0 (first require_groups (lit< tt)) refl refl,
  (
    is_brought require_groups 0 (0 ∷ 1 ∷ 3 ∷ []) [] 1 (first require_groups (lit< tt)) refl refl,
    (is_brought require_groups 0 (0 ∷ 1 ∷ 3 ∷ []) [] 3 (first require_groups (lit< tt)) refl refl, tt),
  ),
)

pub required_later : BringsExactly require_groups 1 (2 ∷ [])
required_later = places require_groups 1 (2 ∷ []) (2 ∷ []) refl (refl, tt)
    (is_brought require_groups 1 (2 ∷ []) (0 ∷ []) 2 (step require_groups 1 (lit< tt) refl) refl refl, tt)

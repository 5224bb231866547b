-- The cache groups have different names, in byte order: the keys of an object do, and a name that isn't there is put where it belongs.
use Rattle.std.proofs.Common.{◌≡◌, ℕ, ◌<◌, List, [], ◌∷◌, ◌++◌, Option, Some, None, map, Bool, true, false, String, Global, string_bytes, string_cmp, codes, option_to_list, if◌then◌else◌, Ordering, Less, Equal, Greater, nat_cmp, refl, sym, ap, subst, ◌∙◌, arith, zero, suc}
use Rattle.std.specs.List.{AllByRecursion}
use Rattle.std.specs.List.Sorted.{IsStrictlySortedBy}
use Rattle.std.specs.Map.{keys_of}
use Rattle.std.specs.Ordering.{match_ordering, ordering_reverse}
use Rattle.std.specs.Str.{bytes_eq}
use Rattle.std.specs.Cmp.Lexicographic.{slice_cmp, nat_list_cmp_total}
use Rattle.std.proofs.lemmas.Map.Keys.{Less-from_sorted}
use Rattle.pk_types.specs.CacheGroups.{AreNamedApart}
use Rattle.pk_types.specs.declared.settings.CacheGroup.{CacheGroup}
use Rattle.serde_json.specs.Data.{Data, object, Members, no_members, member}
use Rattle.serde_json.specs.View.{view, members_view}
use Rattle.serde_json.proofs.Views.{Entry}
use Rattle.pack_config.specs.declared.groups.Shared.{Shared}
use Rattle.pack_config.specs.Faults.{is_false}
use Rattle.pack_config.specs.Settings.{group_default, group_of, if_kept, kept_groups, with_name}

abbrev IsBelow : List ℕ → List ℕ → Type 0
IsBelow name other = slice_cmp nat_cmp name other ≡ Less

-- the keys of the members come behind the name
abbrev AreBehind : List ℕ → Members → Type 0
AreBehind name no_members = Unit {0}
AreBehind name (member key d ms) = IsBelow name key × AreBehind name ms

-- each key comes behind those before it
abbrev Ascend : Members → Type 0
Ascend no_members = Unit {0}
Ascend (member key d ms) = AreBehind key ms × Ascend ms

further : (name key : List ℕ) (ms : Members) → IsBelow name key → AreBehind key ms → AreBehind name ms
further name key no_members below behind = tt
further name key (member next d ms) below behind = (nat_list_cmp_total.trans name key next below behind.0, further name key ms below behind.1)

turned : (name key : List ℕ) → slice_cmp nat_cmp name key ≡ Greater → IsBelow key name
turned name key greater = nat_list_cmp_total.antisymm key name ∙ ap ordering_reverse greater

-- the cases of a name beside a first key
abbrev beside : Ordering → List ℕ → List ℕ → Data → Members → Members
beside o name key d ms = match_ordering o (member name (object no_members) (member key d ms)) (member key d ms) (member key d (with_name name ms))

still_behind : (low name : List ℕ) (ms : Members) → IsBelow low name → AreBehind low ms → AreBehind low (with_name name ms)
unfolding with_name
still_behind low name no_members below behind = (below, tt)
still_behind low name (member key d ms) below behind = by (slice_cmp nat_cmp name key) (still_behind low name ms below behind.1)
  where
    by : (o : Ordering) → AreBehind low (with_name name ms) → AreBehind low (beside o name key d ms)
    by Less rest = (below, behind)
    by Equal rest = behind
    by Greater rest = (behind.0, rest)

still_ascend : (name : List ℕ) (ms : Members) → Ascend ms → Ascend (with_name name ms)
unfolding with_name
still_ascend name no_members ascend = (tt, tt)
still_ascend name (member key d ms) ascend = by (slice_cmp nat_cmp name key) refl (still_ascend name ms ascend.1)
  where
    by : (o : Ordering) → slice_cmp nat_cmp name key ≡ o → Ascend (with_name name ms) → Ascend (beside o name key d ms)
    by Less e rest = ((e, further name key ms e ascend.0), ascend)
    by Equal e rest = ascend
    by Greater e rest = (still_behind key name ms (turned name key e) ascend.0, rest)

-- a group has the name that it is given for
name_of : (shared : Shared) (name : List ℕ) (d : Data) → (group_of shared name (Some d)).name ≡ name
unfolding group_of
name_of shared name d = by (bytes_eq name (codes "defaultVendors")) refl (bytes_eq name (codes "default")) refl
  where
    by : (b : Bool) → bytes_eq name (codes "defaultVendors") ≡ b → (c : Bool) → bytes_eq name (codes "default") ≡ c → (group_default shared name).name ≡ name
    by true e c f = rw e refl
    by false e true f = rw (e, f) refl
    by false e false f = rw (e, f) refl

abbrev names_of : List CacheGroup → List (List ℕ)
names_of groups = map (λ group. group.name) groups

kept_behind : (shared : Shared) (name : List ℕ) (ms : Members) → AreBehind name ms → AllByRecursion (IsBelow name) (names_of (kept_groups shared ms))
unfolding kept_groups
kept_behind shared name no_members behind = tt
kept_behind shared name (member key d ms) behind = by (is_false d) (kept_behind shared name ms behind.1)
  where
    by : (b : Bool) → AllByRecursion (IsBelow name) (names_of (kept_groups shared ms)) → AllByRecursion (IsBelow name) (names_of (option_to_list (if b then None else Some (group_of shared key (Some d))) ++ kept_groups shared ms))
    by true rest = rest
    by false rest = (subst (IsBelow name) (sym (name_of shared key d)) behind.0, rest)

kept_sorted : (shared : Shared) (ms : Members) → Ascend ms → IsStrictlySortedBy (slice_cmp nat_cmp) (names_of (kept_groups shared ms))
unfolding kept_groups IsStrictlySortedBy
kept_sorted shared no_members ascend = tt
kept_sorted shared (member key d ms) ascend = by (is_false d) (kept_sorted shared ms ascend.1)
  where
    by : (b : Bool) → IsStrictlySortedBy (slice_cmp nat_cmp) (names_of (kept_groups shared ms)) → IsStrictlySortedBy (slice_cmp nat_cmp) (names_of (option_to_list (if b then None else Some (group_of shared key (Some d))) ++ kept_groups shared ms))
    by true rest = rest
    by false rest = (
      subst (λ name. AllByRecursion (IsBelow name) (names_of (kept_groups shared ms))) (sym (name_of shared key d)) (kept_behind shared key ms ascend.0),
      rest,
    )

kept_apart : (shared : Shared) (ms : Members) → Ascend ms → AreNamedApart (kept_groups shared ms)
kept_apart shared ms ascend i j d less inside = Less-from_sorted (slice_cmp nat_cmp) (names_of (kept_groups shared ms)) i j d (kept_sorted shared ms ascend) less inside

-- a map shows its keys in order
shown_behind : (key : String Global) (es : List Entry) → AllByRecursion (λ other. string_cmp key other ≡ Less) (keys_of es) → AreBehind (string_bytes key) (members_view es)
shown_behind key [] all = tt
shown_behind key (e ∷ es) all = (all.0, shown_behind key es all.1)

shown_ascend : (es : List Entry) → IsStrictlySortedBy string_cmp (keys_of es) → Ascend (members_view es)
unfolding IsStrictlySortedBy
shown_ascend [] sorted = tt
shown_ascend (e ∷ es) sorted = (shown_behind e.0 es sorted.0, shown_ascend es sorted.1)

abbrev both : Members → Members
both ms = with_name (codes "defaultVendors") (with_name (codes "default") ms)

both_apart : (shared : Shared) (ms : Members) → Ascend ms → AreNamedApart (kept_groups shared (both ms))
both_apart shared ms ascend = kept_apart shared (both ms)
    (still_ascend (codes "defaultVendors") (with_name (codes "default") ms) (still_ascend (codes "default") ms ascend))

-- the groups of an object
pub given_apart : (shared : Shared) (es : List Entry) → IsStrictlySortedBy string_cmp (keys_of es) → AreNamedApart (kept_groups shared (both (members_view es)))
given_apart shared es sorted = both_apart shared (members_view es) (shown_ascend es sorted)

-- and those that are there without one
pub built_in_apart : (shared : Shared) → AreNamedApart (kept_groups shared (both no_members))
built_in_apart shared = both_apart shared no_members tt

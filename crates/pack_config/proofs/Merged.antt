-- The turns of the pass over the groups.
use Rattle.std.proofs.Common.{◌≡◌, ℕ, List, [], ◌∷◌, ◌++◌, Bool, true, false, Some, None, codes, option_to_list, Ordering, Less, Equal, Greater, nat_cmp, refl, sym, ap, ◌∙◌, append_assoc, if◌then◌else◌}
use Rattle.std.specs.Cmp.Lexicographic.{slice_cmp}
use Rattle.std.specs.Ordering.{match_ordering}
use Rattle.pk_types.specs.declared.settings.CacheGroup.{CacheGroup}
use Rattle.pack_config.specs.declared.groups.Shared.{Shared}
use Rattle.serde_json.specs.Data.{Data, object, Members, no_members, member}
use Rattle.pack_config.specs.Settings.{group_of, if_kept, kept_groups, with_name}
use Rattle.pack_config.specs.Merging.{stays_due, put_before, due, both_due}

-- a group with no keys is as one that isn't there
pub group_of-empty : (s : Shared) (name : List ℕ) → group_of s name (Some (object no_members)) ≡ group_of s name None
unfolding group_of
group_of-empty s name = refl

abbrev first : (s : Shared) → Bool → List ℕ → List ℕ → List CacheGroup
first s d name key = put_before d (slice_cmp nat_cmp name key) (group_of s name None)

abbrev rest : Bool → List ℕ → List ℕ → Bool
rest d name key = stays_due d (slice_cmp nat_cmp name key)

-- The cases of one name beside a first key.
abbrev chosen : Ordering → List ℕ → List ℕ → Data → Members → Members
chosen o name key d ms = match_ordering o (member name (object no_members) (member key d ms)) (member key d ms) (member key d (with_name name ms))

kept_chosen : (s : Shared) (o : Ordering) (name key : List ℕ) (d : Data) (ms : Members)
    → kept_groups s (chosen o name key d ms) ≡ put_before true o (group_of s name None) ++ kept_groups s (member key d (due (stays_due true o) name ms))
unfolding kept_groups
kept_chosen s Less name key d ms = ap (λ g. g ∷ kept_groups s (member key d ms)) (group_of-empty s name)
kept_chosen s Equal name key d ms = refl
kept_chosen s Greater name key d ms = refl

-- one name that is due, or not
pub kept-due : (s : Shared) (b : Bool) (name key : List ℕ) (d : Data) (ms : Members)
    → kept_groups s (due b name (member key d ms)) ≡ first s b name key ++ kept_groups s (member key d (due (rest b name key) name ms))
unfolding with_name
kept-due s false name key d ms = refl
kept-due s true name key d ms = kept_chosen s (slice_cmp nat_cmp name key) name key d ms

-- the same for the name that comes first, below the one that comes behind
kept_below : (s : Shared) (v : Bool) (o : Ordering) (key : List ℕ) (d : Data) (ms : Members)
    → kept_groups s (due v (codes "defaultVendors") (chosen o (codes "default") key d ms))
    ≡ put_before true o (group_of s (codes "default") None) ++ kept_groups s (due v (codes "defaultVendors") (member key d (due (stays_due true o) (codes "default") ms)))
unfolding kept_groups with_name
kept_below s false Less key d ms = ap (λ g. g ∷ kept_groups s (member key d ms)) (group_of-empty s (codes "default"))
kept_below s true Less key d ms = ap (λ g. g ∷ kept_groups s (with_name (codes "defaultVendors") (member key d ms))) (group_of-empty s (codes "default"))
kept_below s v Equal key d ms = refl
kept_below s v Greater key d ms = refl

pub kept-both_due : (s : Shared) (b v : Bool) (key : List ℕ) (d : Data) (ms : Members)
    → kept_groups s (both_due b v (member key d ms))
    ≡ first s b (codes "default") key ++ (first s v (codes "defaultVendors") key ++ (option_to_list (if_kept s key d) ++ kept_groups s (both_due (rest b (codes "default") key) (rest v (codes "defaultVendors") key) ms)))
unfolding kept_groups with_name
kept-both_due s false v key d ms = kept-due s v (codes "defaultVendors") key d ms
kept-both_due s true v key d ms =
    kept_below s v (slice_cmp nat_cmp (codes "default") key) key d ms
    ∙ ap (λ gs. first s true (codes "default") key ++ gs) (kept-due s v (codes "defaultVendors") key d (due (rest true (codes "default") key) (codes "default") ms))

-- at the end
kept-none_left : (s : Shared) (b v : Bool)
    → kept_groups s (both_due b v no_members) ≡ (if b then group_of s (codes "default") None ∷ [] else []) ++ (if v then group_of s (codes "defaultVendors") None ∷ [] else [])
unfolding kept_groups with_name
kept-none_left s false false = refl
kept-none_left s true false = ap (λ g. g ∷ []) (group_of-empty s (codes "default"))
kept-none_left s false true = ap (λ g. g ∷ []) (group_of-empty s (codes "defaultVendors"))
kept-none_left s true true =
    ap (λ g. g ∷ kept_groups s (member (codes "defaultVendors") (object no_members) no_members)) (group_of-empty s (codes "default"))
    ∙ ap (λ g. group_of s (codes "default") None ∷ g ∷ []) (group_of-empty s (codes "defaultVendors"))

pub built_in : (s : Shared) → kept_groups s (both_due true true no_members) ≡ group_of s (codes "default") None ∷ group_of s (codes "defaultVendors") None ∷ []
built_in s = kept-none_left s true true

pub one_turn : (s : Shared) (b v b2 v2 : Bool) (key : List ℕ) (d : Data) (ms iter : Members) (before after all : List CacheGroup) → iter ≡ member key d ms
    → before ++ kept_groups s (both_due b v iter) ≡ all → b2 ≡ rest b (codes "default") key → v2 ≡ rest v (codes "defaultVendors") key
    → after ≡ ((before ++ first s b (codes "default") key) ++ first s v (codes "defaultVendors") key) ++ option_to_list (if_kept s key d)
    → after ++ kept_groups s (both_due b2 v2 ms) ≡ all
one_turn s b v b2 v2 key d ms iter before after all split kept still_b still_v pushed =
    let more = kept_groups s (both_due (rest b (codes "default") key) (rest v (codes "defaultVendors") key) ms) in
    let one = first s b (codes "default") key in
    let two = first s v (codes "defaultVendors") key in
    let own = option_to_list (if_kept s key d) in
    rw (pushed, still_b, still_v)
    (append_assoc ((before ++ one) ++ two) own more ∙ append_assoc (before ++ one) two (own ++ more) ∙ append_assoc before one (two ++ (own ++ more))
    ∙ ap (λ gs. before ++ gs) (sym (kept-both_due s b v key d ms)) ∙ ap (λ i. before ++ kept_groups s (both_due b v i)) (sym split) ∙ kept)

pub last_turn : (s : Shared) (b v : Bool) (iter : Members) (before after all : List CacheGroup) → iter ≡ no_members → before ++ kept_groups s (both_due b v iter) ≡ all
    → after ≡ (before ++ (if b then group_of s (codes "default") None ∷ [] else [])) ++ (if v then group_of s (codes "defaultVendors") None ∷ [] else []) → after ≡ all
last_turn s b v iter before after all none kept pushed =
    pushed ∙ append_assoc before _ _ ∙ ap (λ gs. before ++ gs) (sym (kept-none_left s b v)) ∙ ap (λ i. before ++ kept_groups s (both_due b v i)) (sym none) ∙ kept

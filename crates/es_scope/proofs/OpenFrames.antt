-- The frames at a place, by the list of the parts that are open there.
use Rattle.std.proofs.Common.{◌≡◌, ℕ, zero, suc, ◌+◌, ◌≤◌, ◌⊎◌, inl, inr, ⊎_elim, Bool, true, false, cond, List, [], ◌∷◌, Option, Some, None, Contains, AllPairs, slice_get, slice_index_or, refl, sym, ap, subst, ◌∙◌, arith}
use Rattle.std.proofs.lemmas.List.Elements.{Contains-get_or}
use Rattle.pk_types.proofs.ListMembers.{here, there, one_of, none_in}
use Rattle.es_outline.specs.declared.mark.Mark.{Mark}
use Rattle.es_outline.specs.declared.mark.Mark.TheVariants as mark
use Rattle.es_outline.specs.declared.mark.Part.{Part}
use Rattle.es_outline.specs.declared.mark.Part.TheVariants as part
use Rattle.es_outline.specs.Outline.{Marks}
use Rattle.es_scope.specs.declared.frame.Frame.{Frame}
use Rattle.es_scope.specs.declared.frame.Binder.{Binder}
use Rattle.es_scope.specs.declared.frame.Binder.TheVariants as binder
use Rattle.es_scope.specs.Occurrences.{is_binder}
use Rattle.es_scope.specs.Scopes.{is_scope, is_var_scope}
use Rattle.es_scope.specs.Frames.{entered, left, behind_any, innermost, binder_in, frames_at, scopes_of}
use Rattle.es_scope.proofs.Enclosing.{Opened, outer, opened_behind, open_at}
use Rattle.es_scope.proofs.Nearest.{Falls, first_of, first_found, within, highest}

abbrev pub frames_of : List Opened → List Frame
frames_of [] = []
frames_of (one ∷ others) = entered one.0 one.1 (frames_of others)

left_of : (parts : List Opened) → left (frames_of parts) ≡ frames_of (outer parts)
left_of [] = refl
left_of (one ∷ others) = refl

frames_behind : (place : ℕ) (parts : List Opened) (one_mark : Option Mark) → behind_any one_mark place (frames_of parts) ≡ frames_of (opened_behind one_mark place parts)
frames_behind place parts None = refl
frames_behind place parts (Some (mark.Begin which)) = refl
frames_behind place parts (Some (mark.End which)) = left_of parts
frames_behind place parts (Some _) = refl

pub frames_are : (marks : Marks) (place : ℕ) → frames_at marks place ≡ frames_of (open_at marks place)
unfolding frames_at open_at
frames_are marks zero = refl
frames_are marks (suc place) = ap (behind_any (slice_get marks place) place) (frames_are marks place) ∙ frames_behind place (open_at marks place) (slice_get marks place)

-- a frame tells the first part of some kinds
chosen : (is_kind : Bool) (one : Opened) (further : ℕ) (found : Option Opened) → further ≡ within found
    → cond is_kind (one.1 + 1) further ≡ within (cond is_kind (Some one) found)
chosen true one further found e = refl
chosen false one further found e = e

pub scope_of : (parts : List Opened) → (innermost (frames_of parts)).scope ≡ within (first_of is_scope parts)
scope_of [] = refl
scope_of (one ∷ others) = chosen (is_scope one.0) one (innermost (frames_of others)).scope (first_of is_scope others) (scope_of others)

pub var_scope_of : (parts : List Opened) → (innermost (frames_of parts)).var_scope ≡ within (first_of is_var_scope parts)
var_scope_of [] = refl
var_scope_of (one ∷ others) = chosen (is_var_scope one.0) one (innermost (frames_of others)).var_scope (first_of is_var_scope others) (var_scope_of others)

-- what such a part binds
abbrev pub bound_in : Option Opened → Binder
bound_in None = binder.None
bound_in (Some one) = binder_in one.0 one.1 binder.None

binds : (which : Part) (opening : ℕ) (further : Binder) (found : Option Opened) → further ≡ bound_in found
    → binder_in which opening further ≡ bound_in (cond (is_binder which) (Some (which, opening)) found)
binds part.Declaration opening further found e = refl
binds part.Function opening further found e = refl
binds part.Arrow opening further found e = refl
binds part.Catch opening further found e = refl
binds _ opening further found e = e

pub binder_of : (parts : List Opened) → (innermost (frames_of parts)).binder ≡ bound_in (first_of is_binder parts)
binder_of [] = refl
binder_of (one ∷ others) = binds one.0 one.1 (innermost (frames_of others)).binder (first_of is_binder others) (binder_of others)

-- a scope in the list is the top or begins with a part
pub IsOneOf : List Opened → ℕ → Type 0
IsOneOf parts scope = (scope ≡ 0) ⊎ ((one : Opened) × Contains parts one × (is_scope one.0 ≡ true) × (one.1 + 1 ≡ scope))

pub top_of : (parts : List Opened) → IsOneOf parts 0
unfolding IsOneOf
top_of parts = inl refl

pub part_of : (parts : List Opened) (one : Opened) → Contains parts one → is_scope one.0 ≡ true → IsOneOf parts (one.1 + 1)
unfolding IsOneOf
part_of parts one c kind = inr (one, c, kind, refl)

pub from_one_of : {A : Type 0} (parts : List Opened) (scope : ℕ) → IsOneOf parts scope → (scope ≡ 0 → A)
    → ((one : Opened) → Contains parts one → is_scope one.0 ≡ true → one.1 + 1 ≡ scope → A) → A
unfolding IsOneOf
from_one_of parts scope h top some = ⊎_elim top (λ one. some one.0 one.1 one.2 one.3) h

one_further : (one : Opened) (others : List Opened) (scope : ℕ) → IsOneOf others scope → IsOneOf (one ∷ others) scope
unfolding IsOneOf
one_further one others scope h = ⊎_elim (λ top. inl top) (λ other. inr (other.0, there one others other.0 other.1, other.2, other.3)) h

first_is_one : (parts : List Opened) (found : Option Opened) → first_of is_scope parts ≡ found → IsOneOf parts (within found)
first_is_one parts None e = top_of parts
first_is_one parts (Some one) e = let at = first_found is_scope parts one e in part_of parts one at.0 at.1

pub listed_is_one : (parts : List Opened) (scope : ℕ) → Contains (scopes_of (frames_of parts)) scope → IsOneOf parts scope
listed_is_one [] scope c = ⊎_elim (λ same. subst (IsOneOf []) same (top_of [])) (λ none. absurd (none_in scope none)) (one_of 0 [] scope c)
listed_is_one (one ∷ others) scope c = ⊎_elim
    (λ same. subst (IsOneOf (one ∷ others)) (sym (scope_of (one ∷ others)) ∙ same) (first_is_one (one ∷ others) (first_of is_scope (one ∷ others)) refl))
    (λ further. one_further one others scope (listed_is_one others scope further))
    (one_of (innermost (frames_of (one ∷ others))).scope (scopes_of (frames_of others)) scope c)

pub top_listed : (parts : List Opened) → Contains (scopes_of (frames_of parts)) 0
top_listed [] = here 0 []
top_listed (one ∷ others) = there (innermost (frames_of (one ∷ others))).scope (scopes_of (frames_of others)) 0 (top_listed others)

pub part_listed : (parts : List Opened) (one : Opened) → Contains parts one → is_scope one.0 ≡ true → Contains (scopes_of (frames_of parts)) (one.1 + 1)
part_listed [] one c kind = absurd (none_in one c)
part_listed (first ∷ others) one c kind = ⊎_elim
    (λ same. let is : (innermost (frames_of (first ∷ others))).scope ≡ one.1 + 1 = chosen_first first one (innermost (frames_of others)).scope same kind in
    subst (λ s. Contains (s ∷ scopes_of (frames_of others)) (one.1 + 1)) (sym is) (here (one.1 + 1) (scopes_of (frames_of others))))
    (λ further. there (innermost (frames_of (first ∷ others))).scope (scopes_of (frames_of others)) (one.1 + 1) (part_listed others one further kind))
    (one_of first others one c)
  where
    chosen_first : (first one : Opened) (further : ℕ) → first ≡ one → is_scope one.0 ≡ true → cond (is_scope first.0) (first.1 + 1) further ≡ one.1 + 1
    chosen_first first one further same kind =
        ap (λ o. cond (is_scope o.0) (o.1 + 1) further) same ∙ ap (λ b. cond b (one.1 + 1) further) kind

-- each scope in the list lies within those behind it
pairs_more : (x : ℕ) (xs : List ℕ) → ((y : ℕ) → Contains xs y → y ≤ x) → AllPairs (λ inner further. further ≤ inner) xs → AllPairs (λ inner further. further ≤ inner) (x ∷ xs)
pairs_more x xs below pairs i zero d h inside = absurd (omega arith)
pairs_more x xs below pairs zero (suc j) d h inside = below (slice_index_or xs j d) (Contains-get_or xs j d (omega arith))
pairs_more x xs below pairs (suc i) (suc j) d h inside = pairs i j d (omega arith) (omega arith)

none_further : (parts : List Opened) (bound scope : ℕ) → Falls bound parts → IsOneOf parts scope → scope ≤ (innermost (frames_of parts)).scope
none_further parts bound scope falls h =
    let is = scope_of parts in
    from_one_of parts scope h (λ top. omega arith) (λ one c kind same. let far = highest is_scope bound parts one falls c kind in omega arith)

pub scopes_descend : (bound : ℕ) (parts : List Opened) → Falls bound parts → AllPairs (λ inner further. further ≤ inner) (scopes_of (frames_of parts))
scopes_descend bound [] falls = pairs_more 0 [] (λ y c. absurd (none_in y c)) (λ i j d h inside. absurd (omega arith))
scopes_descend bound (one ∷ others) falls = pairs_more (innermost (frames_of (one ∷ others))).scope (scopes_of (frames_of others))
    (λ y c. none_further (one ∷ others) bound y falls (one_further one others y (listed_is_one others y c)))
    (scopes_descend one.1 others falls.1)

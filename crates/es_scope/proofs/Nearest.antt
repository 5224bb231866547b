-- Of the parts of some kinds that enclose a place, the first in the list of open parts is the innermost.
use Rattle.std.proofs.Common.{◌≡◌, ℕ, zero, suc, ◌+◌, ◌<◌, ◌≤◌, ◌⊎◌, ◌↔◌, inl, inr, ⊎_elim, Bool, true, false, cond, List, [], ◌∷◌, Option, Some, None, Contains, find, slice_get, refl, sym, ap, subst, ◌∙◌, arith, true≢false}
use Rattle.std.specs.Prelude.{⊤}
use Rattle.std.proofs.lemmas.Option.{none-some, same_Some}
use Rattle.pk_types.proofs.ListMembers.{here, there, one_of, none_in}
use Rattle.es_outline.specs.declared.mark.Mark.{Mark}
use Rattle.es_outline.specs.declared.mark.Mark.TheVariants as mark
use Rattle.es_outline.specs.declared.mark.Part.{Part}
use Rattle.es_outline.specs.Outline.{Marks}
use Rattle.es_scope.specs.Parts.{Encloses, NearestPart}
use Rattle.es_scope.specs.Scopes.{StandsIn, NearestScope}
use Rattle.es_scope.proofs.Enclosing.{Opened, outer, opened_behind, open_at, enclosing, enclosing_listed}

-- each begins before the bound, and before the part that stands before it
abbrev pub Falls : ℕ → List Opened → Type 0
Falls bound [] = ⊤
Falls bound (one ∷ others) = (one.1 < bound) × Falls one.1 others

falls_below : (bound higher : ℕ) (parts : List Opened) → bound ≤ higher → Falls bound parts → Falls higher parts
falls_below bound higher [] h falls = tt
falls_below bound higher (one ∷ others) h falls = (let b = falls.0 in omega arith, falls.1)

falls_outer : (bound higher : ℕ) (parts : List Opened) → bound ≤ higher → Falls bound parts → Falls higher (outer parts)
falls_outer bound higher [] h falls = tt
falls_outer bound higher (one ∷ others) h falls = falls_below one.1 higher others (let b = falls.0 in omega arith) falls.1

falls_behind : (place : ℕ) (parts : List Opened) → Falls place parts → (one_mark : Option Mark) → Falls (suc place) (opened_behind one_mark place parts)
falls_behind place parts falls (Some (mark.Begin which)) = (omega arith, falls)
falls_behind place parts falls (Some (mark.End which)) = falls_outer place (suc place) parts (omega arith) falls
falls_behind place parts falls _ = falls_below place (suc place) parts (omega arith) falls

pub falls_at : (marks : Marks) (place : ℕ) → Falls place (open_at marks place)
unfolding open_at
falls_at marks zero = tt
falls_at marks (suc place) = falls_behind place (open_at marks place) (falls_at marks place) (slice_get marks place)

pub begins_below : (bound : ℕ) (parts : List Opened) (one : Opened) → Falls bound parts → Contains parts one → one.1 < bound
begins_below bound [] one falls c = absurd (none_in one c)
begins_below bound (first ∷ others) one falls c = ⊎_elim
    (λ same. let at : first.1 ≡ one.1 = ap (λ o. o.1) same in let b = falls.0 in omega arith)
    (λ further. let below = begins_below first.1 others one falls.1 further in let b = falls.0 in omega arith)
    (one_of first others one c)

-- the first part of some kinds
abbrev pub first_of : (Part → Bool) → List Opened → Option Opened
first_of kinds parts = find (λ one. kinds one.0) parts

found_one : (kinds : Part → Bool) (one : Opened) (others : List Opened) (found : Option Opened) (is_kind : Bool) → kinds one.0 ≡ is_kind
    → ((other : Opened) → found ≡ Some other → Contains others other × (kinds other.0 ≡ true)) → (other : Opened) → cond is_kind (Some one) found ≡ Some other
    → Contains (one ∷ others) other × (kinds other.0 ≡ true)
found_one kinds one others found true e rest other f =
    let same = same_Some one other f in
    (subst (λ o. Contains (one ∷ others) o) same (here one others), sym (ap (λ o. kinds o.0) same) ∙ e)
found_one kinds one others found false e rest other f = (there one others other (rest other f).0, (rest other f).1)

pub first_found : (kinds : Part → Bool) (parts : List Opened) (one : Opened) → first_of kinds parts ≡ Some one → Contains parts one × (kinds one.0 ≡ true)
first_found kinds [] one f = absurd (none-some one f)
first_found kinds (first ∷ others) one f =
    found_one kinds first others (first_of kinds others) (kinds first.0) refl (first_found kinds others) one f

-- how far it reaches: behind its first mark, and 0 where there is none
abbrev pub within : Option Opened → ℕ
within None = 0
within (Some one) = one.1 + 1

highest_one : (kinds : Part → Bool) (first : Opened) (others : List Opened) (found : Option Opened) (is_kind : Bool) (one : Opened) → kinds first.0 ≡ is_kind
    → Falls first.1 others → (Contains others one → one.1 + 1 ≤ within found) → kinds one.0 ≡ true → (first ≡ one) ⊎ Contains others one
    → one.1 + 1 ≤ within (cond is_kind (Some first) found)
highest_one kinds first others found true one e falls rest kind (inl same) = let at : first.1 ≡ one.1 = ap (λ o. o.1) same in omega arith
highest_one kinds first others found true one e falls rest kind (inr further) = let below = begins_below first.1 others one falls further in omega arith
highest_one kinds first others found false one e falls rest kind (inl same) = absurd (true≢false (sym kind ∙ (sym (ap (λ o. kinds o.0) same) ∙ e)))
highest_one kinds first others found false one e falls rest kind (inr further) = rest further

-- none of these kinds reaches further
pub highest : (kinds : Part → Bool) (bound : ℕ) (parts : List Opened) (one : Opened) → Falls bound parts → Contains parts one → kinds one.0 ≡ true
    → one.1 + 1 ≤ within (first_of kinds parts)
highest kinds bound [] one falls c kind = absurd (none_in one c)
highest kinds bound (first ∷ others) one falls c kind = highest_one kinds first others (first_of kinds others) (kinds first.0) one refl falls.1
    (λ further. highest kinds first.1 others one falls.1 further kind) kind (one_of first others one c)

highest_at : (kinds : Part → Bool) (marks : Marks) (place opening : ℕ) (which : Part) → kinds which ≡ true → Encloses marks which opening place
    → opening + 1 ≤ within (first_of kinds (open_at marks place))
highest_at kinds marks place opening which kind h =
    highest kinds place (open_at marks place) (which, opening) (falls_at marks place) (enclosing_listed marks place opening which h) kind

found_is : (kinds : Part → Bool) (marks : Marks) (place opening : ℕ) (which : Part) → NearestPart kinds marks place which opening → (found : Option Opened)
    → first_of kinds (open_at marks place) ≡ found → found ≡ Some (which, opening)
found_is kinds marks place opening which h None e =
    absurd (let far = highest_at kinds marks place opening which h.kind h.encloses in let none = ap within e in omega arith)
found_is kinds marks place opening which h (Some one) e =
    let there = first_found kinds (open_at marks place) one e in
    let encloses = enclosing marks place one.1 one.0 there.0 in
    let far = highest_at kinds marks place opening which h.kind h.encloses in
    let reaches : within (first_of kinds (open_at marks place)) ≡ one.1 + 1 = ap within e in
    let near = h.nearest one.0 one.1 there.1 encloses in
    let same : one.1 ≡ opening = omega arith in
    let marked : Some (mark.Begin one.0) ≡ Some (mark.Begin which) = sym encloses.begins ∙ (ap (slice_get marks) same ∙ h.encloses.begins) in
    let kind : one.0 ≡ which = cc in
    ap (λ w. Some (w, one.1)) kind ∙ ap (λ o. Some (which, o)) same

-- the innermost part is the first in the list
pub nearest_part : (kinds : Part → Bool) (marks : Marks) (place : ℕ) (which : Part) (opening : ℕ)
    → NearestPart kinds marks place which opening ↔ (first_of kinds (open_at marks place) ≡ Some (which, opening))
nearest_part kinds marks place which opening = (
  λ h. found_is kinds marks place opening which h (first_of kinds (open_at marks place)) refl,
  λ e. let there = first_found kinds (open_at marks place) (which, opening) e in
      record {
        kind = there.1;
        encloses = enclosing marks place opening which there.0;
        nearest = λ other further kind h.
            let far = highest_at kinds marks place further other kind h in let reaches : within (first_of kinds (open_at marks place)) ≡ opening + 1 = ap within e in omega arith;
      },
)

-- the place stands in the scope of the first in the list, and in none that begins further on
stands_first : (kinds : Part → Bool) (marks : Marks) (place : ℕ) (found : Option Opened) → first_of kinds (open_at marks place) ≡ found
    → StandsIn kinds marks place (within found)
stands_first kinds marks place None e = StandsIn.top
stands_first kinds marks place (Some one) e =
    let there = first_found kinds (open_at marks place) one e in StandsIn.enclosed one.0 one.1 there.1 (enclosing marks place one.1 one.0 there.0)

stands_below : (kinds : Part → Bool) (marks : Marks) (place : ℕ) (scope : ℕ) → StandsIn kinds marks place scope → scope ≤ within (first_of kinds (open_at marks place))
stands_below kinds marks place _ StandsIn.top = omega arith
stands_below kinds marks place _ (StandsIn.enclosed which opening kind h) = highest_at kinds marks place opening which kind h

first_scope : (kinds : Part → Bool) (marks : Marks) (place : ℕ) → NearestScope kinds marks place (within (first_of kinds (open_at marks place)))
first_scope kinds marks place = record {
  stands = stands_first kinds marks place (first_of kinds (open_at marks place)) refl;
  nearest = λ other h. stands_below kinds marks place other h;
}

pub nearest_stands : (kinds : Part → Bool) (marks : Marks) (place scope : ℕ)
    → NearestScope kinds marks place scope ↔ (scope ≡ within (first_of kinds (open_at marks place)))
nearest_stands kinds marks place scope = (
  λ h. let first = first_scope kinds marks place in
      let above = first.nearest scope h.stands in let below = h.nearest (within (first_of kinds (open_at marks place))) first.stands in omega arith,
  λ e. subst (λ s. NearestScope kinds marks place s) (sym e) (first_scope kinds marks place),
)

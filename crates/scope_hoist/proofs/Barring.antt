-- Flags of modules.
use Rattle.std.proofs.Common.{◌≡◌, ◌≢◌, ◌⊎◌, ◌↔◌, inl, inr, ⊎_elim, ℕ, ◌+◌, ◌<◌, ◌≤◌, Bool, true, false, true≢false, Some, List, [], ◌∷◌, ◌++◌, length, get_or, refl, sym, ap, subst, ◌∙◌, arith, slice_get}
use Rattle.std.proofs.Math.ListN.{set}
use Rattle.std.specs.List.{Contains}
use Rattle.std.specs.Option.{option_map}
use Rattle.std.proofs.lemmas.Bool.{cases_eq, cases_lt}
use Rattle.std.proofs.lemmas.Option.{none-some, slice_get-get_or, slice_get_within, same_Some, slice_get_past}
use Rattle.std.proofs.lemmas.List.{length-set, get_or-set_same, get_or-set_other, get_or_past, get_or_append_left, length_push}
use Rattle.std.proofs.Math.Seq.{get_or-append_seam}
use Rattle.pk_types.specs.declared.facts.Kind.TheVariants.{Es}
use Rattle.pk_types.specs.declared.facts.Site.{Site}
use Rattle.pk_types.specs.declared.facts.SiteKind.{SiteKind}
use Rattle.pk_types.specs.declared.facts.SiteKind.TheVariants.{Require, Import}
use Rattle.pk_types.specs.declared.graph.Graph.{Graph}
use Rattle.pk_types.specs.declared.graph.Row.{Row}
use Rattle.pk_types.specs.declared.plan.Active.{Active}
use Rattle.pk_types.specs.Requests.{CallsRequire, CallsImport}
use Rattle.pk_types.specs.HoistSets.{IsReachedModule}
use Rattle.pk_types.specs.Resolving.{kind_at}
use Rattle.chunk_groups.specs.Gathered.{IsGathered}
use Rattle.chunk_groups.proofs.Gathering.{goes_on, passes, pushes}
use Rattle.chunk_groups.proofs.Calls.{same_require, same_import, one_call, no_call, some_call}
use Rattle.scope_hoist.specs.Scopes.{IsBarred, CallsAtSite, AreSharing}

-- ---- the calls of a module

require-import : (a b : ℕ) → Require a ≡ Import b → ⊥
require-import a b e = cc

module _ (row : Row) (before numbers : List ℕ) (place : ℕ) (site : Site) (so_far : IsGathered before (CallsAtSite row) place numbers) (inside : place < length row.facts.sites)
    (is : site ≡ get_or row.facts.sites place site) where
  at : slice_get row.facts.sites place ≡ Some site
  at = slice_get-get_or row.facts.sites place site inside ∙ ap Some (sym is)

  pub with_require : (request : ℕ) (targets more : List ℕ) → site.kind ≡ Require request → targets ≡ row.targets → request < length row.targets
      → more ≡ numbers ++ get_or targets request 0 ∷ [] → IsGathered before (CallsAtSite row) (place + 1) more
  with_require request targets more calls read within e =
      let to = slice_get-get_or row.targets request 0 within ∙ ap (λ l. Some (get_or l request 0)) (sym read) in
      let one = one_call Require same_require row place site at request (get_or targets request 0) calls to in
      let other = no_call Import same_import row place site at (λ r f. require-import request r (sym calls ∙ f)) in
      subst (IsGathered before (CallsAtSite row) (place + 1)) (sym e) (pushes before (CallsAtSite row) place numbers so_far (get_or targets request 0) (λ number. (
        λ either. ⊎_elim (λ requires_it. (one number).0 requires_it) (λ imports_it. absurd (other number imports_it)) either,
        λ same. inl ((one number).1 same),
      )))

  pub with_import : (request : ℕ) (targets more : List ℕ) → site.kind ≡ Import request → targets ≡ row.targets → request < length row.targets
      → more ≡ numbers ++ get_or targets request 0 ∷ [] → IsGathered before (CallsAtSite row) (place + 1) more
  with_import request targets more calls read within e =
      let to = slice_get-get_or row.targets request 0 within ∙ ap (λ l. Some (get_or l request 0)) (sym read) in
      let one = one_call Import same_import row place site at request (get_or targets request 0) calls to in
      let other = no_call Require same_require row place site at (λ r f. require-import r request (sym f ∙ calls)) in
      subst (IsGathered before (CallsAtSite row) (place + 1)) (sym e) (pushes before (CallsAtSite row) place numbers so_far (get_or targets request 0) (λ number. (
        λ either. ⊎_elim (λ requires_it. absurd (other number requires_it)) (λ imports_it. (one number).0 imports_it) either,
        λ same. inr ((one number).1 same),
      )))

  pub with_neither : (more : List ℕ) → ((request : ℕ) → site.kind ≡ Require request → ⊥) → ((request : ℕ) → site.kind ≡ Import request → ⊥) → more ≡ numbers
      → IsGathered before (CallsAtSite row) (place + 1) more
  with_neither more no_require no_import e = subst (IsGathered before (CallsAtSite row) (place + 1)) (sym e) (passes before (CallsAtSite row) place numbers so_far
      (λ number either. ⊎_elim (λ requires_it. no_call Require same_require row place site at no_require number requires_it)
      (λ imports_it. no_call Import same_import row place site at no_import number imports_it) either))

-- what a reached module calls for
abbrev pub CalledBy : Graph → Active → ℕ → ℕ → Type 0
CalledBy graph active number target = IsReachedModule active number × (CallsRequire graph number target ⊎ CallsImport graph number target)

module _ (graph : Graph) (active : Active) (before numbers : List ℕ) (number : ℕ) (so_far : IsGathered before (CalledBy graph active) number numbers) where
  pub called_more : (row : Row) (more : List ℕ) → slice_get graph.rows number ≡ Some row → IsReachedModule active number
      → IsGathered numbers (CallsAtSite row) (length row.facts.sites) more → IsGathered before (CalledBy graph active) (number + 1) more
  called_more row more at reached gathered = goes_on before (CalledBy graph active) number numbers so_far more (λ target. (
    λ c. ⊎_elim (λ old. inl old) (λ some. inr (
      reached,
      ⊎_elim
          (λ requires_it. let call = (some_call Require row target).0 (some.0, some.1, requires_it) in inl (row, call.0, at, call.1, call.2))
          (λ imports_it. let call = (some_call Import row target).0 (some.0, some.1, imports_it) in inr (row, call.0, at, call.1, call.2))
          some.2,
    )) ((gathered target).0 c),
    λ either. (gathered target).1 (⊎_elim (λ old. inl old) (λ called. inr (⊎_elim
        (λ requires_it. let call = (some_call Require row target).1 (there Require row target at requires_it) in (call.0, call.1, inl call.2))
        (λ imports_it. let call = (some_call Import row target).1 (there Import row target at imports_it) in (call.0, call.1, inr call.2))
        called.1)) either),
  ))
    where
      there : (kind : ℕ → SiteKind) (row : Row) (target : ℕ) → slice_get graph.rows number ≡ Some row
          → ((other : Row) × (request : ℕ) × (slice_get graph.rows number ≡ Some other) × Contains (Rattle.pk_types.specs.Requests.site_kinds other) (kind request) × (slice_get other.targets request ≡ Some target))
          → (request : ℕ) × Contains (Rattle.pk_types.specs.Requests.site_kinds row) (kind request) × (slice_get row.targets request ≡ Some target)
      there kind row target at call =
          let same = same_Some call.0 row (sym call.2 ∙ at) in
          (call.1, subst (λ (r : Row). Contains (Rattle.pk_types.specs.Requests.site_kinds r) (kind call.1)) same call.3, subst (λ (r : Row). slice_get r.targets call.1 ≡ Some target) same call.4)

  pub called_none : (more : List ℕ) → ¬ IsReachedModule active number → more ≡ numbers → IsGathered before (CalledBy graph active) (number + 1) more
  called_none more unreached e = subst (IsGathered before (CalledBy graph active) (number + 1)) (sym e)
      (passes before (CalledBy graph active) number numbers so_far (λ target called. unreached called.0))

pub all_barred : (graph : Graph) (active : Active) (numbers : List ℕ) (count : ℕ) → IsGathered graph.entries (CalledBy graph active) count numbers → length active.reached ≤ count
    → (member : ℕ) → Contains numbers member ↔ IsBarred graph active member
all_barred graph active numbers count gathered all member = (
  λ c. ⊎_elim (λ entry. inl entry)
      (λ some. inr (⊎_elim (λ requires_it. inr (some.0, some.2.0, requires_it)) (λ imports_it. inl (some.0, some.2.0, imports_it)) some.2.1))
      ((gathered member).0 c),
  λ barred. (gathered member).1 (⊎_elim (λ entry. inl entry)
      (λ called. inr (⊎_elim
      (λ imported. (imported.0, omega (arith, all, slice_get_within active.reached imported.0 true imported.1), (imported.1, inr imported.2)))
      (λ required. (required.0, omega (arith, all, slice_get_within active.reached required.0 true required.1), (required.1, inl required.2)))
      called)) barred),
)

-- ---- flags that are cleared

pub record AreCleared (P : ℕ → Type 0) (old new : List Bool) : Type 0 where
  pub long : length new ≡ length old
  pub flags : (member : ℕ) → (get_or new member false ≡ true) ↔ ((get_or old member false ≡ true) × ¬ P member)

pub cleared_none : (P : ℕ → Type 0) (flags : List Bool) → ((member : ℕ) → ¬ P member) → AreCleared P flags flags
cleared_none P flags none = record { long = refl; flags = λ member. (λ is. (is, none member), λ two. two.0) }

pub cleared_more : (P Q : ℕ → Type 0) (old mid : List Bool) (member : ℕ) → AreCleared P old mid → member < length mid → ((other : ℕ) → P other → Q other) → Q member
    → ((other : ℕ) → Q other → other ≢ member → P other) → AreCleared Q old (set mid member false)
cleared_more P Q old mid member so_far inside more here_too only = record {
  long = length-set mid member false ∙ so_far.long;
  flags = λ other. ⊎_elim
      (λ e. (
        λ is. absurd (true≢false (sym (subst (λ m. get_or (set mid member false) m false ≡ true) e is) ∙ get_or-set_same mid member false false inside)),
        λ two. absurd (two.1 (subst Q (sym e) here_too)),
      ))
      (λ ne. let same = get_or-set_other mid member other false false ne in (
        λ is. let was = (so_far.flags other).0 (sym same ∙ is) in (was.0, λ q. was.1 (only other q ne)),
        λ two. same ∙ (so_far.flags other).1 (two.0, λ p. two.1 (more other p)),
      ))
      (cases_eq other member);
}

pub cleared_same : (P Q : ℕ → Type 0) (old new : List Bool) → AreCleared P old new → ((other : ℕ) → P other ↔ Q other) → AreCleared Q old new
cleared_same P Q old new so_far same = record {
  long = so_far.long;
  flags = λ other. (
    λ is. let was = (so_far.flags other).0 is in (was.0, λ q. was.1 ((same other).1 q)),
    λ two. (so_far.flags other).1 (two.0, λ p. two.1 ((same other).0 p)),
  );
}

-- ---- modules that may share their scope

abbrev pub Shares : Graph → List (List ℕ) → Bool → ℕ → Type 0
Shares graph homes concatenate member = (concatenate ≡ true) × (kind_at graph member ≡ Some Es) × ((chunk : ℕ) × Contains (get_or homes member []) chunk)

pub record SharingUpTo (graph : Graph) (homes : List (List ℕ)) (concatenate : Bool) (count : ℕ) (sharing : List Bool) : Type 0 where
  pub each : length sharing ≡ count
  pub flags : (member : ℕ) → member < count → (get_or sharing member false ≡ true) ↔ Shares graph homes concatenate member

pub sharing_more : (graph : Graph) (homes : List (List ℕ)) (concatenate : Bool) (count : ℕ) (old new : List Bool) (flag : Bool) → SharingUpTo graph homes concatenate count old
    → new ≡ old ++ flag ∷ [] → (flag ≡ true) ↔ Shares graph homes concatenate count → SharingUpTo graph homes concatenate (count + 1) new
sharing_more graph homes concatenate count old new flag so_far is right = record {
  each = ap length is ∙ length_push old flag ∙ ap (λ n. n + 1) so_far.each;
  flags = λ member h. ⊎_elim
      (λ e. subst (λ m. (get_or new m false ≡ true) ↔ Shares graph homes concatenate m) (sym e) (
        λ t. right.0 (sym (ap (λ l. get_or l count false) is ∙ last) ∙ t),
        λ s. ap (λ l. get_or l count false) is ∙ last ∙ right.1 s,
      ))
      (λ ne.
      let low : member < count = omega (arith, h, ne) in
      let same = ap (λ l. get_or l member false) is ∙ get_or_append_left old (flag ∷ []) false member (let each = so_far.each in omega (arith, low)) in (
        λ t. (so_far.flags member low).0 (sym same ∙ t),
        λ s. same ∙ (so_far.flags member low).1 s,
      ))
      (cases_eq member count);
}
  where
    last : get_or (old ++ flag ∷ []) count false ≡ flag
    last = ap (λ n. get_or (old ++ flag ∷ []) n false) (sym so_far.each) ∙ get_or-append_seam old flag [] false

pub all_sharing : (graph : Graph) (homes : List (List ℕ)) (concatenate : Bool) (sharing : List Bool) → SharingUpTo graph homes concatenate (length graph.rows) sharing
    → AreSharing graph homes concatenate sharing
all_sharing graph homes concatenate sharing done = record {
  each = done.each;
  flags = λ member. (
    λ is. (done.flags member (low member is)).0 is,
    λ shares. (done.flags member (row_there member shares.1)).1 shares,
  );
}
  where
    low : (member : ℕ) → get_or sharing member false ≡ true → member < length graph.rows
    low member is = ⊎_elim (λ h. h) (λ past. absurd (true≢false (sym is ∙ get_or_past sharing member false (let each = done.each in omega (arith, past))))) (cases_lt member (length graph.rows))

    row_there : (member : ℕ) → kind_at graph member ≡ Some Es → member < length graph.rows
    row_there member is = ⊎_elim (λ h. h)
        (λ past. absurd (none-some Es (sym (ap (option_map (λ (row : Row). row.facts.kind)) (slice_get_past graph.rows member past)) ∙ is))) (cases_lt member (length graph.rows))

-- The stops of a used name are reached, and so is a module whose namespace is used.
use Rattle.std.proofs.Common.{◌≡◌, inl, inr, ℕ, Bool, true, false, true≢false, IsTrue, List, [], ◌∷◌, map, Contains, Some, slice_get, refl, sym, ap, subst, ◌∙◌, arith}
use Rattle.std.proofs.lemmas.Option.{same_Some}
use Rattle.std.proofs.lemmas.List.Elements.{All-contains}
use Rattle.pk_types.specs.declared.facts.Kind.{Kind}
use Rattle.pk_types.specs.declared.facts.Kind.TheVariants.{Es, Cjs, Json}
use Rattle.pk_types.specs.declared.facts.Origin.{Origin}
use Rattle.pk_types.specs.declared.facts.Origin.TheVariants.{Other, Space}
use Rattle.pk_types.specs.declared.facts.Ref.TheVariants.{Imported}
use Rattle.pk_types.specs.declared.facts.Site.{Site}
use Rattle.pk_types.specs.declared.facts.SiteKind.{SiteKind}
use Rattle.pk_types.specs.declared.facts.SiteKind.TheVariants as site
use Rattle.pk_types.specs.declared.graph.Graph.{Graph}
use Rattle.pk_types.specs.declared.graph.Row.{Row}
use Rattle.pk_types.specs.declared.found.Found.{Found}
use Rattle.pk_types.specs.declared.found.Found.TheVariants.{Namespace}
use Rattle.pk_types.specs.Fitting.{Fits, RowFits}
use Rattle.pk_types.specs.Lawful.{IsLawfulAs, IsLawfulEs, AreOrdered}
use Rattle.pk_types.specs.Origins.{origin_requests}
use Rattle.pk_types.specs.Sites.{is_call, space_requests}
use Rattle.pk_types.specs.Resolving.{origin_of, ResolvesTo}
use Rattle.pk_types.specs.Requests.{site_kinds, NamesAtSite, UsesSpaceAtSite}
use Rattle.pk_types.specs.Reexports.{FindsOne, PassesOn, ExportsSpace}
use Rattle.pk_types.specs.Stops.{IsPassed, IsStopOf}
use Rattle.pk_types.specs.Use.{IsReached, IsUsed, IsUsedThrough, IsWholeThrough, IsWhole}
use Rattle.pk_types.proofs.Indirect.{indirect_finds}
use Rattle.pk_types.proofs.Members.{Contains-at}
use Rattle.pk_types.proofs.Parts.{Contains-one, Contains-head, Contains-tail, Contains-cases, none_within, export_of}

from_map : {A B : Type 0} (f : A → B) (xs : List A) (y : B) → Contains (map f xs) y → (x : A) × Contains xs x × (f x ≡ y)
from_map f [] y m = none_within y m
from_map f (x ∷ xs) y m = elim (Contains-cases (f x) (map f xs) y m) [
  | inl e ↦ (x, Contains-head x xs, e)
  | inr h ↦ let r = from_map f xs y h in (r.0, Contains-tail x xs r.0 r.1, r.2)
]

site_of : (row : Row) (kind : SiteKind) → Contains (site_kinds row) kind → (s : Site) × Contains row.facts.sites s × (s.kind ≡ kind)
site_of row kind m = from_map (λ s. s.kind) row.facts.sites kind m

-- only a module of ECMAScript has sites that call for nothing, and exports
es_by_site : (kind : Kind) (row : Row) (at : SiteKind) → IsLawfulAs kind row.facts → Contains (site_kinds row) at → is_call at ≡ false → kind ≡ Es
es_by_site Es row at l m e = refl
es_by_site Cjs row at l m e =
    let s = site_of row at m in
    absurd (true≢false (sym (All-contains (λ t. IsTrue (is_call t.kind)) row.facts.sites s.0 l.calls s.1) ∙ ap is_call s.2 ∙ e))
es_by_site Json row at l m e = let s = site_of row at m in none_within s.0 (subst (λ l. Contains l s.0) l.sites s.1)

es_by_export : (kind : Kind) (row : Row) (name : List ℕ) (origin : Origin) → IsLawfulAs kind row.facts → origin_of row.facts name ≡ Some origin → kind ≡ Es
es_by_export Es row name origin l e = refl
es_by_export Cjs row name origin l e = let x = export_of row.facts name origin e in none_within x.0 (subst (λ l. Contains l x.0) l.exports x.1)
es_by_export Json row name origin l e = let x = export_of row.facts name origin e in none_within x.0 (subst (λ l. Contains l x.0) l.exports x.1)

es_by_star : (kind : Kind) (row : Row) (star : ℕ) → IsLawfulAs kind row.facts → Contains row.facts.stars star → kind ≡ Es
es_by_star Es row star l m = refl
es_by_star Cjs row star l m = none_within star (subst (λ l. Contains l star) l.stars m)
es_by_star Json row star l m = none_within star (subst (λ l. Contains l star) l.stars m)

module _ (graph : Graph) (fits : Fits graph) where
  lawful : (number : ℕ) (row : Row) → slice_get graph.rows number ≡ Some row → IsLawfulAs row.facts.kind row.facts
  lawful number row at = (All-contains (RowFits graph) graph.rows row fits.rows (Contains-at graph.rows number row at)).facts.lawful.kind

  as_es : (row : Row) → IsLawfulAs row.facts.kind row.facts → row.facts.kind ≡ Es → IsLawfulEs row.facts
  as_es row l e = subst (λ k. IsLawfulAs k row.facts) e l

  ordered_export : (row : Row) (name : List ℕ) (origin : Origin) (request : ℕ) → IsLawfulEs row.facts → origin_of row.facts name ≡ Some origin
      → Contains (origin_requests origin) request → Contains row.facts.order request
  ordered_export row name origin request l e m =
      let x = export_of row.facts name origin e in
      All-contains (Contains row.facts.order) (origin_requests x.0.origin) request
      (All-contains (λ entry. AreOrdered row.facts (origin_requests entry.origin)) row.facts.exports x.0 l.exports x.1)
      (subst (λ o. Contains (origin_requests o) request) (sym x.2) m)

  ordered_space : (row : Row) (request : ℕ) (at : SiteKind) → IsLawfulEs row.facts → Contains (site_kinds row) at → Contains (space_requests at) request
      → Contains row.facts.order request
  ordered_space row request at l m c =
      let s = site_of row at m in
      All-contains (Contains row.facts.order) (space_requests s.0.kind) request
      (All-contains (λ t. AreOrdered row.facts (space_requests t.kind)) row.facts.sites s.0 l.spaces s.1)
      (subst (λ k. Contains (space_requests k) request) (sym s.2) c)

  ordered_site : (row : Row) (request : ℕ) (name : List ℕ) → IsLawfulAs row.facts.kind row.facts → NamesAtSite row request name → Contains row.facts.order request
  ordered_site row _ _ l (NamesAtSite.reads place request name c a) =
      let e = as_es row l (es_by_site row.facts.kind row (site.Read (Imported place)) l c refl) in
      subst (Contains row.facts.order) a.2 (All-contains (λ entry. Contains row.facts.order entry.request) row.facts.imports a.0 e.imports (Contains-at row.facts.imports place a.0 a.1))
  ordered_site row _ _ l (NamesAtSite.writes place request name c a) =
      let e = as_es row l (es_by_site row.facts.kind row (site.Write (Imported place)) l c refl) in
      subst (Contains row.facts.order) a.2 (All-contains (λ entry. Contains row.facts.order entry.request) row.facts.imports a.0 e.imports (Contains-at row.facts.imports place a.0 a.1))
  ordered_site row _ _ l (NamesAtSite.member request name c) =
      let e = as_es row l (es_by_site row.facts.kind row (site.Member request name) l c refl) in
      ordered_space row request (site.Member request name) e c (Contains-one request)

  -- from a reached module the stops of its used names are reached
  stops_of_reached : (number : ℕ) (name : List ℕ) (stop : ℕ) → IsReached graph number → IsUsed graph number name → IsStopOf graph number name stop → IsReached graph stop
  stops_of_reached _ _ _ r u (IsStopOf.here number name row found at finds e) = r
  stops_of_reached _ _ _ r u (IsStopOf.namespace number name row request target p o t) =
      let c = ordered_export row name (Space request) request (as_es row (lawful number row p.at) p.kind) o (Contains-one request) in
      IsReached.declared_whole number request target r (row, p.at, c, t) (IsWholeThrough.space_exported number request name row u p.at o)
  stops_of_reached _ _ _ r u (IsStopOf.by_name number name row request target other stop p o t d) =
      let c = ordered_export row name (Other request other) request (as_es row (lawful number row p.at) p.kind) o (Contains-one request) in
      IsReached.stopped number request target stop other r (row, p.at, c, t) (IsUsedThrough.passed_on number request name other row u p.at (PassesOn.by_name request other o)) d
  stops_of_reached _ _ _ r u (IsStopOf.by_star number name row star target stop p f t d) =
      let c = All-contains (Contains row.facts.order) row.facts.stars star (as_es row (lawful number row p.at) p.kind).stars f.among in
      IsReached.stopped number star target stop name r (row, p.at, c, t) (IsUsedThrough.passed_on number star name name row u p.at (PassesOn.by_star star f)) d

  -- a name that has a stop leads to one thing
  stop_finds : (number : ℕ) (name : List ℕ) (stop : ℕ) → IsStopOf graph number name stop → (found : Found) × FindsOne graph number name found
  stop_finds _ _ _ (IsStopOf.here number name row found at finds e) = (found, finds)
  stop_finds _ _ _ (IsStopOf.namespace number name row request target p o t) = (p.found, p.finds)
  stop_finds _ _ _ (IsStopOf.by_name number name row request target other stop p o t d) = (p.found, p.finds)
  stop_finds _ _ _ (IsStopOf.by_star number name row star target stop p f t d) = (p.found, p.finds)

  -- a used name that its module passes on: the module is skipped, or it is a stop itself
  by_flag : (number request target stop : ℕ) (exported name : List ℕ) (row : Row) (flagged : Bool) → row.flagged ≡ flagged → row.facts.kind ≡ Es
      → slice_get graph.rows number ≡ Some row → (found : Found) → FindsOne graph number exported found
      → ((s : ℕ) → IsStopOf graph number exported s → IsReached graph s)
      → (IsPassed graph number exported row → IsStopOf graph number exported stop) → (IsReached graph number → IsReached graph stop) → IsReached graph stop
  by_flag number request target stop exported name row true e kind at found finds ih further reached =
      ih stop (further (record { at = at; found = found; finds = finds; flagged = e; kind = kind }))
  by_flag number request target stop exported name row false e kind at found finds ih further reached =
      reached (ih number (IsStopOf.here number exported row found at finds (inl e)))

  mutual
    pub used_stop_is_reached : (number : ℕ) (name : List ℕ) → IsUsed graph number name → (stop : ℕ) → IsStopOf graph number name stop → IsReached graph stop
    used_stop_is_reached _ _ (IsUsed.by_request number request target name row w at t) stop d = through_stop number request name w row target at t stop d
    used_stop_is_reached _ _ (IsUsed.by_require number target name r c x) stop d =
        stops_of_reached target name stop (IsReached.required number target r c) (IsUsed.by_require number target name r c x) d
    used_stop_is_reached _ _ (IsUsed.by_import number target name r c x) stop d =
        stops_of_reached target name stop (IsReached.imported number target r c) (IsUsed.by_import number target name r c x) d
    used_stop_is_reached _ _ (IsUsed.by_space number request target name row w at t x) stop d =
        stops_of_reached target name stop (whole_is_reached number request w row target at t) (IsUsed.by_space number request target name row w at t x) d

    through_stop : (number request : ℕ) (name : List ℕ) → IsUsedThrough graph number request name → (row : Row) (target : ℕ)
        → slice_get graph.rows number ≡ Some row → slice_get row.targets request ≡ Some target → (stop : ℕ) → IsStopOf graph target name stop → IsReached graph stop
    through_stop _ _ _ (IsUsedThrough.at_site number request name other r e s) row target at t stop d =
        let q = same_Some other row (sym e ∙ at) in
        let c = ordered_site row request name (lawful number row at) (subst (λ w. NamesAtSite w request name) q s) in
        IsReached.stopped number request target stop name r (row, at, c, t) (IsUsedThrough.at_site number request name other r e s) d
    through_stop _ _ _ (IsUsedThrough.passed_on number request exported name other u e p) row target at t stop d =
        passed number request exported name row u at (subst (λ w. PassesOn graph number w exported request name) (same_Some other row (sym e ∙ at)) p) target t stop d
        (used_stop_is_reached number exported u)
      where
        passed : (number request : ℕ) (exported name : List ℕ) (row : Row) → IsUsed graph number exported → slice_get graph.rows number ≡ Some row
            → PassesOn graph number row exported request name → (target : ℕ) → slice_get row.targets request ≡ Some target → (stop : ℕ) → IsStopOf graph target name stop
            → ((s : ℕ) → IsStopOf graph number exported s → IsReached graph s) → IsReached graph stop
        passed number _ exported _ row u at (PassesOn.by_name request name o) target t stop d ih =
            let kind = es_by_export row.facts.kind row exported (Other request name) (lawful number row at) o in
            let c = ordered_export row exported (Other request name) request (as_es row (lawful number row at) kind) o (Contains-one request) in
            let s = stop_finds target name stop d in
            let finds = indirect_finds graph number request target exported name row s.0 at kind o t s.1 in
            by_flag number request target stop exported name row row.flagged refl kind at s.0 finds ih
            (λ p. IsStopOf.by_name number exported row request target name stop p o t d)
            (λ r. IsReached.stopped number request target stop name r (row, at, c, t) (IsUsedThrough.passed_on number request exported name row u at (PassesOn.by_name request name o)) d)
        passed number _ exported _ row u at (PassesOn.by_star star f) target t stop d ih =
            let kind = es_by_star row.facts.kind row star (lawful number row at) f.among in
            let c = All-contains (Contains row.facts.order) row.facts.stars star (as_es row (lawful number row at) kind).stars f.among in
            by_flag number star target stop exported exported row row.flagged refl kind at f.found f.here ih
            (λ p. IsStopOf.by_star number exported row star target stop p f t d)
            (λ r. IsReached.stopped number star target stop exported r (row, at, c, t) (IsUsedThrough.passed_on number star exported exported row u at (PassesOn.by_star star f)) d)

    whole_is_reached : (number request : ℕ) → IsWholeThrough graph number request → (row : Row) (target : ℕ)
        → slice_get graph.rows number ≡ Some row → slice_get row.targets request ≡ Some target → IsReached graph target
    whole_is_reached _ _ (IsWholeThrough.space_at_site number request other r e s) row target at t =
        let m = subst (λ w. UsesSpaceAtSite w request) (same_Some other row (sym e ∙ at)) s in
        let l = as_es row (lawful number row at) (es_by_site row.facts.kind row (site.Space request) (lawful number row at) m refl) in
        let c = ordered_space row request (site.Space request) l m (Contains-one request) in
        IsReached.declared_whole number request target r (row, at, c, t) (IsWholeThrough.space_at_site number request other r e s)
    whole_is_reached _ _ (IsWholeThrough.space_exported number request name other u e x) row target at t =
        let o = subst (λ w. ExportsSpace w name request) (same_Some other row (sym e ∙ at)) x in
        let kind = es_by_export row.facts.kind row name (Space request) (lawful number row at) o in
        let c = ordered_export row name (Space request) request (as_es row (lawful number row at) kind) o (Contains-one request) in
        let finds : FindsOne graph number name (Namespace target) = record {
          resolves = ((number, name) ∷ [], ResolvesTo.space [] number name row request target (record { at = at; kind = kind; first = λ c. none_within (number, name) c }) o t);
          something = λ q. grind arith;
          one = λ q. grind arith;
        } in
        by_flag number request target target name name row row.flagged refl kind at (Namespace target) finds (used_stop_is_reached number name u)
        (λ p. IsStopOf.namespace number name row request target p o t)
        (λ r. IsReached.declared_whole number request target r (row, at, c, t) (IsWholeThrough.space_exported number request name other u e x))

  pub space_is_reached : (target : ℕ) → IsWhole graph target → IsReached graph target
  space_is_reached target w = whole_is_reached w.0 w.1 w.3 w.2 target w.4 w.5

-- What is made known is what follows.
use Rattle.std.proofs.Common.{◌≡◌, ◌↔◌, ◌⊎◌, inl, inr, ⊎_elim, ℕ, ◌+◌, true, false, List, [], length, Contains, Some, None, slice_get, sym, ap, subst, ◌∙◌, arith}
use Rattle.std.proofs.lemmas.Option.{same_Some, none-some, slice_get_within}
use Rattle.std.proofs.lemmas.Bool.{cases_eq}
use Rattle.pk_types.specs.declared.facts.Origin.{Origin}
use Rattle.pk_types.specs.declared.facts.Origin.TheVariants.{Own, Other, Space}
use Rattle.pk_types.specs.declared.graph.Graph.{Graph}
use Rattle.pk_types.specs.declared.graph.Row.{Row}
use Rattle.pk_types.specs.ExportedNames.{ExportedNames}
use Rattle.pk_types.specs.Reexports.{PassesOn, IsFoundThrough}
use Rattle.pk_types.specs.Requests.{flag_of, NamesAtSite, UsesSpaceAtSite}
use Rattle.pk_types.specs.StopSearch.{HasStops}
use Rattle.pk_types.proofs.Parts.{none_within}
use Rattle.pk_types.specs.Resolving.{origin_of}
use Rattle.pk_types.proofs.Stops.{found_is_stop, stop_is_found, own_other, own_space, other_space, same_space, same_other}
use Rattle.prune_graph.specs.declared.passing.Passing.TheVariants as passing
use Rattle.prune_graph.specs.declared.through.Through.{Through}
use Rattle.prune_graph.specs.Gathering.{IsNamed, IsSpaced, IsUnused, Gains}
use Rattle.prune_graph.specs.PassingOn.{IsPassedBy}
use Rattle.prune_graph.specs.Meeting.{Meets, IsCalled}
use Rattle.prune_graph.proofs.Led.{calls, requires, imports}
use Rattle.export_usage.specs.declared.facts.Facts.{Facts}
use Rattle.export_usage.specs.Claims.{Claim, AreExposed, AreUsed, AreReached, Learns, IsTheClaim}
use Rattle.export_usage.specs.Rules.{FollowsCalls, FollowsDeclared, FollowsSites, FollowsPassing, FollowsStops, FollowsExposed}
use Rattle.export_usage.specs.Steps.{Each, SaysDeclared, SaysRequest, SaysRequests, SaysStar, SaysUnflagged}
use Rattle.export_usage.proofs.Learning.{learns_none, learns_same, learns_then}

pub called_claims : (graph : Graph) (number : ℕ) (row : Row) (before list : List ℕ) → slice_get graph.rows number ≡ Some row → before ≡ [] → Meets before (IsCalled row) list
    → (claim : Claim) → AreExposed list claim ↔ FollowsCalls graph number claim
called_claims graph number row before list at empty meets claim = (
  λ one. (
    one.0,
    calls graph number row at one.0
        (⊎_elim (λ old. none_within one.0 (subst (λ l. Contains l one.0) empty old)) (λ called. called) ((meets.each one.0).0 one.1)),
    one.2,
  ),
  λ f. (f.0, (meets.each f.0).1 (inr (⊎_elim (λ c. requires graph number row at f.0 c) (λ c. imports graph number row at f.0 c) f.1)), f.2),
)

pub declared_claims : (graph : Graph) (row : Row) (claim : Claim) → Each (SaysDeclared graph row) row.facts.order claim ↔ FollowsDeclared graph row claim
declared_claims graph row claim = (
  λ one. (one.0, one.2.0, one.1, one.2.1, one.2.2.0, one.2.2.1),
  λ f. (f.0, f.2, (f.1, f.3, (f.4, f.5))),
)

pub site_claims : (row : Row) (none through : Through) (count : ℕ) → IsUnused count none → Gains none (NamesAtSite row) (UsesSpaceAtSite row) through
    → (claim : Claim) → SaysRequests through row.targets (length row.targets) claim ↔ FollowsSites row claim
site_claims row none through count unused gains claim = (
  λ says. (
    says.0,
    says.1,
    says.3,
    ⊎_elim
        (λ one. inl (one.0, ⊎_elim (λ old. absurd (unused.names says.0 one.0 old)) (λ at. at) ((gains.names says.0 one.0).0 one.1), one.2))
        (λ one. inr (⊎_elim (λ old. absurd (unused.spaces says.0 old)) (λ at. at) ((gains.spaces says.0).0 one.0), one.1)) says.4,
  ),
  λ f. (
    f.0,
    f.1,
    slice_get_within row.targets f.0 f.1 f.2,
    f.2,
    ⊎_elim
        (λ one. inl (one.0, (gains.names f.0 one.0).1 (inr one.1), one.2))
        (λ one. inr ((gains.spaces f.0).1 (inr one.0), one.1)) f.3,
  ),
)

pub stop_claims : (graph : Graph) (number : ℕ) (name stops : List ℕ) → HasStops graph number name stops → (claim : Claim)
    → AreReached stops claim ↔ FollowsStops graph number name claim
stop_claims graph number name stops has claim = (
  λ one. (one.0, found_is_stop graph [] has.0 number name stops has.1 one.0 one.1, one.2),
  λ f. (f.0, stop_is_found graph number name stops f.0 has f.1, f.2),
)

pub exposed_claims : (graph : Graph) (number : ℕ) (names : List (List ℕ)) → ExportedNames graph number names → (claim : Claim)
    → AreUsed number names claim ↔ FollowsExposed graph number claim
exposed_claims graph number names are claim = (
  λ one. (one.0, (are.each one.0).0 one.1, one.2),
  λ f. (f.0, (are.each f.0).1 f.1, f.2),
)

-- ---- a request

module _ (through : Through) (request target : ℕ) (names : List (List ℕ)) (each : (name : List ℕ) → Contains names name ↔ IsNamed through request name)
    (old between new : Facts) (used : Learns old (AreUsed target names) between) where
  pub with_space : IsSpaced through request → Learns between (IsTheClaim (Claim.is_space target)) new → Learns old (SaysRequest through request target) new
  with_space space learns = learns_same old new (λ claim. AreUsed target names claim ⊎ IsTheClaim (Claim.is_space target) claim) (SaysRequest through request target)
      (learns_then old between new (AreUsed target names) (IsTheClaim (Claim.is_space target)) used learns)
      (λ claim. (
        λ either. ⊎_elim (λ one. inl (one.0, (each one.0).0 one.1, one.2)) (λ same. inr (space, same)) either,
        λ says. ⊎_elim (λ one. inl (one.0, (each one.0).1 one.1, one.2)) (λ one. inr one.1) says,
      ))

  pub without_space : ¬ IsSpaced through request → Learns old (SaysRequest through request target) between
  without_space none = learns_same old between (AreUsed target names) (SaysRequest through request target) used
      (λ claim. (
        λ one. inl (one.0, (each one.0).0 one.1, one.2),
        λ says. ⊎_elim (λ one. (one.0, (each one.0).1 one.1, one.2)) (λ one. absurd (none one.0)) says,
      ))

module _ (through : Through) (targets : List ℕ) where
  pub requests_none : (facts : Facts) → Learns facts (SaysRequests through targets 0) facts
  requests_none facts = learns_none facts (SaysRequests through targets 0) (λ claim says. omega (arith, says.2))

  pub requests_more : (old between new : Facts) (count target : ℕ) → slice_get targets count ≡ Some target → Learns old (SaysRequests through targets count) between
      → Learns between (SaysRequest through count target) new → Learns old (SaysRequests through targets (count + 1)) new
  requests_more old between new count target t first second =
      learns_same old new (λ claim. SaysRequests through targets count claim ⊎ SaysRequest through count target claim) (SaysRequests through targets (count + 1))
      (learns_then old between new (SaysRequests through targets count) (SaysRequest through count target) first second)
      (λ claim. (
        λ either. ⊎_elim (λ says. (says.0, says.1, omega (arith, says.2), says.3, says.4)) (λ says. (count, target, omega arith, t, says)) either,
        λ says. ⊎_elim
            (λ e. inr (subst (λ k. SaysRequest through count k claim) (same_Some says.1 target (sym says.3 ∙ ap (slice_get targets) e ∙ t))
            (subst (λ r. SaysRequest through r says.1 claim) e says.4)))
            (λ ne. inl (says.0, says.1, omega (arith, says.2, ne), says.3, says.4))
            (cases_eq says.0 count),
      ))

-- ---- a declaration

module _ (graph : Graph) (target : ℕ) where
  pub says_unflagged : (old new : Facts) → flag_of graph target ≡ Some false → Learns old (IsTheClaim (Claim.is_reached target)) new
      → Learns old (SaysUnflagged graph target) new
  says_unflagged old new flag learns = learns_same old new (IsTheClaim (Claim.is_reached target)) (SaysUnflagged graph target) learns
      (λ claim. (λ same. (flag, same), λ says. says.1))

  pub says_nothing : (old : Facts) → flag_of graph target ≡ Some true → Learns old (SaysUnflagged graph target) old
  says_nothing old flag = learns_none old (SaysUnflagged graph target) (λ claim says. no (same_Some true false (sym flag ∙ says.0)))
    where
      no : true ≡ false → ⊥
      no e = cc

pub declared_by : (graph : Graph) (row : Row) (request target : ℕ) (old new : Facts) → slice_get row.targets request ≡ Some target → Learns old (SaysUnflagged graph target) new
    → Learns old (SaysDeclared graph row request) new
declared_by graph row request target old new t learns = learns_same old new (SaysUnflagged graph target) (SaysDeclared graph row request) learns
    (λ claim. (
      λ says. (target, t, says),
      λ says. subst (λ k. SaysUnflagged graph k claim) (same_Some says.0 target (sym says.1 ∙ t)) says.2,
    ))

-- ---- a star, and how a name is passed on

pub star_by : (targets name : List ℕ) (star target : ℕ) (old new : Facts) → slice_get targets star ≡ Some target
    → Learns old (IsTheClaim (Claim.is_used target name)) new → Learns old (SaysStar targets name star) new
star_by targets name star target old new t learns = learns_same old new (IsTheClaim (Claim.is_used target name)) (SaysStar targets name star) learns
    (λ claim. (λ same. (target, t, same), λ says. ap (λ k. Claim.is_used k name) (same_Some target says.0 (sym t ∙ says.1)) ∙ says.2))

module _ (graph : Graph) (number : ℕ) (row : Row) (name : List ℕ) where
  no_origin : {B : Type 0} (origin : Origin) → origin_of row.facts name ≡ None → origin_of row.facts name ≡ Some origin → B
  no_origin origin none some = absurd (none-some origin (sym none ∙ some))

  pub passes_nothing : (facts : Facts) → IsPassedBy graph number row name passing.Nowhere → Learns facts (FollowsPassing graph number row name) facts
  passes_nothing facts own = learns_none facts (FollowsPassing graph number row name) (λ claim f. ⊎_elim
      (λ one. lost f.0 one.0 one.1) (λ one. own_space own.0 f.0 one.0 own.1) f.3)
    where
      lost : (request : ℕ) (other : List ℕ) → PassesOn graph number row name request other → ⊥
      lost _ _ (PassesOn.by_name request other o) = own_other own.0 request other o own.1
      lost _ _ (PassesOn.by_star star f) = no_origin (Own own.0) f.none own.1

  pub passes_name : (old new : Facts) (request target : ℕ) (other : List ℕ) → origin_of row.facts name ≡ Some (Other request other)
      → slice_get row.targets request ≡ Some target → Learns old (IsTheClaim (Claim.is_used target other)) new → Learns old (FollowsPassing graph number row name) new
  passes_name old new request target other o t learns = learns_same old new (IsTheClaim (Claim.is_used target other)) (FollowsPassing graph number row name) learns
      (λ claim. (
        λ same. (request, target, t, inl (other, PassesOn.by_name request other o, same)),
        λ f. ⊎_elim (λ one. named f.0 one.0 one.1 f.1 f.2 claim one.2) (λ one. absurd (other_space f.0 request other one.0 o)) f.3,
      ))
    where
      named : (place : ℕ) (one : List ℕ) → PassesOn graph number row name place one → (there : ℕ) → slice_get row.targets place ≡ Some there → (claim : Claim)
          → Claim.is_used there one ≡ claim → Claim.is_used target other ≡ claim
      named _ _ (PassesOn.by_name place one p) there u claim same =
          let q = same_other request place other one o p in
          ap (λ k. Claim.is_used k other) (same_Some target there (sym t ∙ ap (slice_get row.targets) q.0 ∙ u)) ∙ ap (Claim.is_used there) q.1 ∙ same
      named _ _ (PassesOn.by_star star f) there u claim same = no_origin (Other request other) f.none o

  pub passes_space : (old new : Facts) (request target : ℕ) → origin_of row.facts name ≡ Some (Space request)
      → slice_get row.targets request ≡ Some target → Learns old (IsTheClaim (Claim.is_space target)) new → Learns old (FollowsPassing graph number row name) new
  passes_space old new request target o t learns = learns_same old new (IsTheClaim (Claim.is_space target)) (FollowsPassing graph number row name) learns
      (λ claim. (
        λ same. (request, target, t, inr (o, same)),
        λ f. ⊎_elim (λ one. absurd (lost f.0 one.0 one.1))
            (λ one. ap Claim.is_space (same_Some target f.1 (sym t ∙ ap (slice_get row.targets) (same_space request f.0 o one.0) ∙ f.2)) ∙ one.1) f.3,
      ))
    where
      lost : (place : ℕ) (other : List ℕ) → PassesOn graph number row name place other → ⊥
      lost _ _ (PassesOn.by_name place other p) = other_space request place other o p
      lost _ _ (PassesOn.by_star star f) = no_origin (Space request) f.none o

  pub passes_stars : (old new : Facts) (stars : List ℕ) → origin_of row.facts name ≡ None
      → ((star : ℕ) → Contains stars star ↔ IsFoundThrough graph number row name star) → Learns old (Each (SaysStar row.targets name) stars) new
      → Learns old (FollowsPassing graph number row name) new
  passes_stars old new stars none each learns = learns_same old new (Each (SaysStar row.targets name) stars) (FollowsPassing graph number row name) learns
      (λ claim. (
        λ one. (one.0, one.2.0, one.2.1, inl (name, PassesOn.by_star one.0 ((each one.0).0 one.1), one.2.2)),
        λ f. ⊎_elim (λ one. starred f.0 one.0 one.1 f.1 f.2 claim one.2) (λ one. no_origin (Space f.0) none one.0) f.3,
      ))
    where
      starred : (place : ℕ) (other : List ℕ) → PassesOn graph number row name place other → (there : ℕ) → slice_get row.targets place ≡ Some there → (claim : Claim)
          → Claim.is_used there other ≡ claim → Each (SaysStar row.targets name) stars claim
      starred _ _ (PassesOn.by_name place other p) there u claim same = no_origin (Other place other) none p
      starred _ _ (PassesOn.by_star star f) there u claim same = (star, (each star).1 f, (there, u, same))

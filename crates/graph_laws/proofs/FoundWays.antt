-- A name that leads to one thing leads there from module to module, and each name on the way leads to that thing too, where it is asked for first.
-- So such a name has a stop, and where it is used the module that the thing belongs to is reached.
use Rattle.std.proofs.Common.{◌≡◌, ◌≢◌, inl, inr, ℕ, Bool, true, false, List, [], ◌∷◌, ◌++◌, Contains, Option, Some, None, slice_get, option_map, refl, sym, ap, subst, ◌∙◌, arith}
use Rattle.std.proofs.lemmas.Option.{none-some, same_Some}
use Rattle.pk_types.specs.declared.facts.Kind.{Kind}
use Rattle.pk_types.specs.declared.facts.Kind.TheVariants.{Es}
use Rattle.pk_types.specs.declared.facts.Origin.{Origin}
use Rattle.pk_types.specs.declared.facts.Origin.TheVariants.{Own, Other, Space}
use Rattle.pk_types.specs.declared.graph.Graph.{Graph}
use Rattle.pk_types.specs.declared.graph.Row.{Row}
use Rattle.pk_types.specs.declared.found.Found.{Found}
use Rattle.pk_types.specs.declared.found.Found.TheVariants.{Binding, Namespace, Foreign, Nothing, Ambiguous}
use Rattle.pk_types.specs.Fitting.{Fits}
use Rattle.pk_types.specs.Joined.{joined}
use Rattle.pk_types.specs.Resolving.{Pair, default_name, origin_of, kind_at, ResolvesTo, StarsLeadTo}
use Rattle.pk_types.specs.Reexports.{FindsOne, IsFoundThrough, PassesOn, NamespaceNames}
use Rattle.pk_types.specs.Stops.{IsPassed, IsStopOf}
use Rattle.pk_types.specs.Use.{IsReached, IsUsed, IsUsedThrough, IsWholeThrough, IsWhole}
use Rattle.pk_types.proofs.OneAnswer.{one_answer}
use Rattle.pk_types.proofs.Stops.{own_other, other_space, same_other}
use Rattle.pk_types.proofs.UsedStops.{used_stop_is_reached, space_is_reached}
use Rattle.pk_types.proofs.Parts.{Contains-head, Contains-tail}
use Rattle.graph_laws.specs.Owners.{owner_of}
use Rattle.graph_laws.proofs.SameThing.{AtMost}
use Rattle.graph_laws.proofs.ClosedPairs.{IsEsRow, IsKnown, Settled, AreClosed, known_es, one_at_most, closed_after}
use Rattle.graph_laws.proofs.ClosedResolve.{row_kind, resolves_at_most}

module _ (graph : Graph) where
  -- the rows of a module are one
  same_row : (number : ℕ) (row other : Row) → IsEsRow graph number row → IsEsRow graph number other → row ≡ other
  same_row number row other e f = same_Some row other (sym e.at ∙ f.at)

  -- the origins of its export are one
  origins : (number : ℕ) (name : List ℕ) (row other : Row) {o p : Option Origin} → IsEsRow graph number row → IsEsRow graph number other
      → origin_of row.facts name ≡ o → origin_of other.facts name ≡ p → o ≡ p
  origins number name row other e f g h = sym g ∙ ap (λ r. origin_of r.facts name) (same_row number row other e f) ∙ h

  same_target : (number : ℕ) (row other : Row) (request place target there : ℕ) → IsEsRow graph number row → IsEsRow graph number other
      → request ≡ place → slice_get row.targets request ≡ Some target → slice_get other.targets place ≡ Some there → target ≡ there
  same_target number row other request place target there e f same t u =
      same_Some target there (sym t ∙ ap (λ r. slice_get r.targets request) (same_row number row other e f) ∙ ap (slice_get other.targets) same ∙ u)

  module _ (found : Found) (pairs : List Pair) where
    -- what an indirect export of a settled pair names is known
    behind_name : (number : ℕ) (name : List ℕ) (row : Row) (request target : ℕ) (other : List ℕ) → IsEsRow graph number row
        → origin_of row.facts name ≡ Some (Other request other) → slice_get row.targets request ≡ Some target
        → Settled graph found pairs number name → IsKnown graph found pairs target other
    behind_name _ _ row request target other e o t (Settled.own number name also binding f p g) =
        absurd (own_other binding request other o (sym (origins number name also row f e p refl)))
    behind_name _ _ row request target other e o t (Settled.space number name also place there f p u g) =
        absurd (other_space place request other (sym (origins number name also row f e p refl)) o)
    behind_name _ _ row request target other e o t (Settled.indirect number name also place there named f p u k) =
        let q = same_other place request named other (origins number name row also e f refl p) o in
        subst (λ n. IsKnown graph found pairs n other) (same_target number also row place request there target f e q.0 u t)
        (subst (λ w. IsKnown graph found pairs there w) q.1 k)
    behind_name _ _ row request target other e o t (Settled.no_default number name also f p d) =
        absurd (none-some (Other request other) (origins number name also row f e p o))
    behind_name _ _ row request target other e o t (Settled.by_stars number name also f p d s) =
        absurd (none-some (Other request other) (origins number name also row f e p o))

    -- what a star of a settled pair leads to, where that is a module of ECMAScript, is known
    behind_star : (number : ℕ) (name : List ℕ) (row : Row) (star target : ℕ) → IsEsRow graph number row → origin_of row.facts name ≡ None
        → Contains row.facts.stars star → slice_get row.targets star ≡ Some target → kind_at graph target ≡ Some Es → name ≢ default_name
        → Settled graph found pairs number name → IsKnown graph found pairs target name
    behind_star _ _ row star target e o m t k n (Settled.own number name also binding f p g) =
        absurd (none-some (Own binding) (origins number name row also e f o p))
    behind_star _ _ row star target e o m t k n (Settled.space number name also place there f p u g) =
        absurd (none-some (Space place) (origins number name row also e f o p))
    behind_star _ _ row star target e o m t k n (Settled.indirect number name also place there named f p u g) =
        absurd (none-some (Other place named) (origins number name row also e f o p))
    behind_star _ _ row star target e o m t k n (Settled.no_default number name also f p d) = absurd (n d)
    behind_star _ _ row star target e o m t k n (Settled.by_stars number name also f p d s) =
        let w = s star (subst (λ r. Contains r.facts.stars star) (same_row number row also e f) m) in
        let q : w.target ≡ target = same_target number also row star star w.target target f e refl w.leads t in
        inl (subst (λ n. Contains pairs (n, name)) q (w.known (same_Some w.kind Es (sym w.at ∙ ap (kind_at graph) q ∙ k))))

  -- A name leads to the one thing from module to module. Asked of each of them first, it leads there too.
  pub data LeadsOn (found : Found) : ℕ → List ℕ → Type 0 where
    foreign : (number : ℕ) (name : List ℕ) (kind : Kind) → FindsOne graph number name found → kind_at graph number ≡ Some kind → kind ≢ Es
        → Foreign number name ≡ found → LeadsOn found number name
    own : (number : ℕ) (name : List ℕ) (row : Row) (binding : ℕ) → FindsOne graph number name found → IsEsRow graph number row
        → origin_of row.facts name ≡ Some (Own binding) → Binding number binding ≡ found → LeadsOn found number name
    space : (number : ℕ) (name : List ℕ) (row : Row) (request target : ℕ) → FindsOne graph number name found → IsEsRow graph number row
        → origin_of row.facts name ≡ Some (Space request) → slice_get row.targets request ≡ Some target → Namespace target ≡ found
        → LeadsOn found number name
    by_name : (number : ℕ) (name : List ℕ) (row : Row) (request target : ℕ) (other : List ℕ) → FindsOne graph number name found → IsEsRow graph number row
        → origin_of row.facts name ≡ Some (Other request other) → slice_get row.targets request ≡ Some target → LeadsOn found target other
        → LeadsOn found number name
    by_star : (number : ℕ) (name : List ℕ) (row : Row) (star target : ℕ) → FindsOne graph number name found → IsEsRow graph number row
        → IsFoundThrough graph number row name star → slice_get row.targets star ≡ Some target → LeadsOn found target name → LeadsOn found number name

  pub finds_there : (found : Found) (number : ℕ) (name : List ℕ) → LeadsOn found number name → FindsOne graph number name found
  finds_there found _ _ (LeadsOn.foreign number name kind f k n e) = f
  finds_there found _ _ (LeadsOn.own number name row binding f r o e) = f
  finds_there found _ _ (LeadsOn.space number name row request target f r o t e) = f
  finds_there found _ _ (LeadsOn.by_name number name row request target other f r o t l) = f
  finds_there found _ _ (LeadsOn.by_star number name row star target f r g t l) = f

  module _ (found : Found) (something : found ≢ Nothing) (one_thing : found ≢ Ambiguous) (pairs : List Pair) (closed : AreClosed graph found pairs) where
    -- a known pair that led to the one thing, whatever was gone through before, leads there where it is asked for first
    finds : (before : List Pair) (number : ℕ) (name : List ℕ) (after : List Pair) → ResolvesTo graph before number name found after
        → IsKnown graph found pairs number name → FindsOne graph number name found
    finds before number name after d k = told (resolves_at_most graph found one_thing pairs closed [] number name k)
      where
        no_way : (end : List Pair) → ResolvesTo graph [] number name Nothing end → ⊥
        no_way end e =
            let c = closed_after graph Nothing (λ q. grind arith) number name Nothing end e (inl refl) in
            let r = resolves_at_most graph Nothing (λ q. grind arith) end c.0 before number name c.1 in
            let q : found ≡ r.0 = (one_answer graph before number name found after d r.0 r.1 r.2).0 in
            elim r.3 [ inl w ↦ something (q ∙ w) | inr w ↦ something (q ∙ w) ]

        told : (one : Found) × (end : List Pair) × ResolvesTo graph [] number name one end × AtMost found one → FindsOne graph number name found
        told (one, end, e, inl w) = absurd (no_way end (subst (λ f. ResolvesTo graph [] number name f end) w e))
        told (one, end, e, inr w) =
            record { resolves = (end, subst (λ f. ResolvesTo graph [] number name f end) w e); something = something; one = one_thing }

    found_there : (before : List Pair) (number : ℕ) (name : List ℕ) (one : Found) (after : List Pair) → ResolvesTo graph before number name one after
        → one ≡ found → IsKnown graph found pairs number name → FindsOne graph number name found
    found_there before number name one after d e k = finds before number name after (subst (λ f. ResolvesTo graph before number name f after) e d) k

    settled : (number : ℕ) (name : List ℕ) (row : Row) → IsEsRow graph number row → IsKnown graph found pairs number name → Settled graph found pairs number name
    settled number name row e k = closed number name (known_es graph found pairs number name (row_kind graph number row e) k)

    -- a star leads there
    abbrev StarLeads : List ℕ → List ℕ → List ℕ → Type 0
    StarLeads targets name stars = (star : ℕ) × (target : ℕ) × Contains stars star × (slice_get targets star ≡ Some target) × (kind_at graph target ≡ Some Es)
        × LeadsOn found target name

    further : (targets name : List ℕ) (star : ℕ) (stars : List ℕ) → StarLeads targets name stars → StarLeads targets name (star ∷ stars)
    further targets name star stars l = (l.0, l.1, Contains-tail star stars l.0 l.2, l.3, l.4, l.5)

    abbrev AreKnown : List ℕ → List ℕ → List ℕ → Type 0
    AreKnown targets name stars = (star target : ℕ) → Contains stars star → slice_get targets star ≡ Some target → kind_at graph target ≡ Some Es
        → IsKnown graph found pairs target name

    star_on : (number : ℕ) (name : List ℕ) (row : Row) → FindsOne graph number name found → IsEsRow graph number row → origin_of row.facts name ≡ None
        → StarLeads row.targets name row.facts.stars → LeadsOn found number name
    star_on number name row f e o (star, target, m, t, k, l) = LeadsOn.by_star number name row star target f e
        (record { none = o; among = m; target = target; leads = t; kind = k; found = found; here = f; there = (finds_there found target name l).resolves }) t l

    mutual
      way : (before : List Pair) (number : ℕ) (name : List ℕ) (one : Found) (after : List Pair) → ResolvesTo graph before number name one after
          → one ≡ found → IsKnown graph found pairs number name → LeadsOn found number name
      way _ _ _ _ _ (ResolvesTo.foreign before number name kind h n) e k =
          LeadsOn.foreign number name kind (found_there before number name _ _ (ResolvesTo.foreign before number name kind h n) e k) h n e
      way _ _ _ _ _ (ResolvesTo.circular before number name h c) e k = absurd (something (sym e))
      way _ _ _ _ _ (ResolvesTo.own before number name row binding f o) e k =
          LeadsOn.own number name row binding (found_there before number name _ _ (ResolvesTo.own before number name row binding f o) e k)
          (record { at = f.at; kind = f.kind }) o e
      way _ _ _ _ _ (ResolvesTo.space before number name row request target f o t) e k =
          LeadsOn.space number name row request target (found_there before number name _ _ (ResolvesTo.space before number name row request target f o t) e k)
          (record { at = f.at; kind = f.kind }) o t e
      way _ _ _ _ _ (ResolvesTo.indirect before number name row request target other one after f o t d) e k =
          let r : IsEsRow graph number row = record { at = f.at; kind = f.kind } in
          LeadsOn.by_name number name row request target other
          (found_there before number name one after (ResolvesTo.indirect before number name row request target other one after f o t d) e k) r o t
          (way (before ++ (number, name) ∷ []) target other one after d e (behind_name found pairs number name row request target other r o t (settled number name row r k)))
      way _ _ _ _ _ (ResolvesTo.no_default before number name row f o h) e k = absurd (something (sym e))
      way _ _ _ _ _ (ResolvesTo.by_stars before number name row one after f o h d) e k =
          let r : IsEsRow graph number row = record { at = f.at; kind = f.kind } in
          star_on number name row (found_there before number name one after (ResolvesTo.by_stars before number name row one after f o h d) e k) r o
          (star_way (before ++ (number, name) ∷ []) row.targets name row.facts.stars Nothing one after d e refl
          (λ star target m t w. behind_star found pairs number name row star target r o m t w h (settled number name row r k)))

      star_way : (before : List Pair) (targets name stars : List ℕ) (so_far one : Found) (after : List Pair) → StarsLeadTo graph before targets name stars so_far one after
          → one ≡ found → so_far ≡ Nothing → AreKnown targets name stars → StarLeads targets name stars
      star_way _ _ _ _ _ _ _ (StarsLeadTo.ended before targets name one) e z known = absurd (something (sym e ∙ z))
      star_way _ _ _ _ _ _ _ (StarsLeadTo.passed before targets name star target stars so_far one after kind t h n d) e z known =
          further targets name star stars
          (star_way before targets name stars so_far one after d e z (λ other there m. known other there (Contains-tail star stars other m)))
      star_way _ _ _ _ _ _ _ (StarsLeadTo.joins before between targets name star target stars so_far first one after t h d j r) e z known =
          elim (one_at_most graph between targets name stars so_far first one after j r (λ w. one_thing (sym e ∙ w))) [
            | inl w ↦ further targets name star stars
                (star_way between targets name stars (joined so_far first) one after r e (ap (joined so_far) w ∙ ap (λ f. joined f Nothing) z)
                (λ other there m. known other there (Contains-tail star stars other m)))
            | inr w ↦ (star, target, Contains-head star stars, t, h, way before target name first between d (w ∙ e) (known star target (Contains-head star stars) t h))
          ]
      star_way _ _ _ _ _ _ _ (StarsLeadTo.conflicts before after targets name star target stars so_far first t h d j) e z known = absurd (one_thing (sym e))

  -- each name that leads to one thing leads there so
  pub leads_on : (number : ℕ) (name : List ℕ) (found : Found) → FindsOne graph number name found → LeadsOn found number name
  leads_on number name found f =
      let c = closed_after graph found f.one number name found f.resolves.0 f.resolves.1 (inr refl) in
      way found f.something f.one f.resolves.0 c.0 [] number name found f.resolves.0 f.resolves.1 refl c.1

  row_of : (row : Option Row) (kind : Kind) → option_map (λ r. r.facts.kind) row ≡ Some kind → (some : Row) × (row ≡ Some some) × (some.facts.kind ≡ kind)
  row_of None kind e = absurd (none-some kind e)
  row_of (Some row) kind e = (row, refl, same_Some row.facts.kind kind e)

  -- a module that is none of ECMAScript is a stop of each name
  foreign_stop : (number : ℕ) (name : List ℕ) (kind : Kind) (found : Found) → FindsOne graph number name found → kind_at graph number ≡ Some kind → kind ≢ Es
      → IsStopOf graph number name number
  foreign_stop number name kind found f k n =
      let r = row_of (slice_get graph.rows number) kind k in
      IsStopOf.here number name r.0 found r.1 f (inr (inl (λ e. n (sym r.2 ∙ e))))

  -- a name that may be passed on has a stop behind the module, or the module is one
  by_flag : (number : ℕ) (name : List ℕ) (row : Row) (found : Found) (flagged : Bool) → row.flagged ≡ flagged → FindsOne graph number name found
      → IsEsRow graph number row → (IsPassed graph number name row → (stop : ℕ) × IsStopOf graph number name stop) → (stop : ℕ) × IsStopOf graph number name stop
  by_flag number name row found true e f r behind = behind (record { at = r.at; found = found; finds = f; flagged = e; kind = r.kind })
  by_flag number name row found false e f r behind = (number, IsStopOf.here number name row found r.at f (inl e))

  stop_of : (found : Found) (number : ℕ) (name : List ℕ) → LeadsOn found number name → (stop : ℕ) × IsStopOf graph number name stop
  stop_of found _ _ (LeadsOn.foreign number name kind f k n e) = (number, foreign_stop number name kind found f k n)
  stop_of found _ _ (LeadsOn.own number name row binding f r o e) = (number, IsStopOf.here number name row found r.at f (inr (inr (binding, o))))
  stop_of found _ _ (LeadsOn.space number name row request target f r o t e) =
      by_flag number name row found row.flagged refl f r (λ p. (target, IsStopOf.namespace number name row request target p o t))
  stop_of found _ _ (LeadsOn.by_name number name row request target other f r o t l) =
      let s = stop_of found target other l in
      by_flag number name row found row.flagged refl f r (λ p. (s.0, IsStopOf.by_name number name row request target other s.0 p o t s.1))
  stop_of found _ _ (LeadsOn.by_star number name row star target f r g t l) =
      let s = stop_of found target name l in
      by_flag number name row found row.flagged refl f r (λ p. (s.0, IsStopOf.by_star number name row star target s.0 p g t s.1))

  pub found_name_has_stop : (number : ℕ) (name : List ℕ) (found : Found) → FindsOne graph number name found → (stop : ℕ) × IsStopOf graph number name stop
  found_name_has_stop number name found f = stop_of found number name (leads_on number name found f)

  module _ (fits : Fits graph) where
    owner_at : (found : Found) (owner : ℕ) → owner_of found ≡ Some owner → (number : ℕ) (name : List ℕ) → IsUsed graph number name → LeadsOn found number name
        → IsReached graph owner
    owner_at found owner w _ _ u (LeadsOn.foreign number name kind f k n e) =
        subst (IsReached graph) (same_Some number owner (ap owner_of e ∙ w))
        (used_stop_is_reached graph fits number name u number (foreign_stop number name kind found f k n))
    owner_at found owner w _ _ u (LeadsOn.own number name row binding f r o e) =
        subst (IsReached graph) (same_Some number owner (ap owner_of e ∙ w))
        (used_stop_is_reached graph fits number name u number (IsStopOf.here number name row found r.at f (inr (inr (binding, o)))))
    owner_at found owner w _ _ u (LeadsOn.space number name row request target f r o t e) =
        subst (IsReached graph) (same_Some target owner (ap owner_of e ∙ w))
        (space_is_reached graph fits target (number, request, row, IsWholeThrough.space_exported number request name row u r.at o, r.at, t))
    owner_at found owner w _ _ u (LeadsOn.by_name number name row request target other f r o t l) =
        let through = IsUsedThrough.passed_on number request name other row u r.at (PassesOn.by_name request other o) in
        owner_at found owner w target other (IsUsed.by_request number request target other row through r.at t) l
    owner_at found owner w _ _ u (LeadsOn.by_star number name row star target f r g t l) =
        let through = IsUsedThrough.passed_on number star name name row u r.at (PassesOn.by_star star g) in
        owner_at found owner w target name (IsUsed.by_request number star target name row through r.at t) l

    pub owner_is_reached : (number owner : ℕ) (name : List ℕ) (found : Found) → IsUsed graph number name → FindsOne graph number name found
        → owner_of found ≡ Some owner → IsReached graph owner
    owner_is_reached number owner name found u f w = owner_at found owner w number name u (leads_on number name found f)

  star_found : (found : Found) (number : ℕ) (name : List ℕ) (row : Row) → IsEsRow graph number row → origin_of row.facts name ≡ None → LeadsOn found number name
      → (star : ℕ) × IsFoundThrough graph number row name star
  star_found found _ _ row r o (LeadsOn.foreign number name kind f k n e) = absurd (n (same_Some kind Es (sym k ∙ row_kind graph number row r)))
  star_found found _ _ row r o (LeadsOn.own number name other binding f q p e) = absurd (none-some (Own binding) (origins number name row other r q o p))
  star_found found _ _ row r o (LeadsOn.space number name other request target f q p t e) =
      absurd (none-some (Space request) (origins number name row other r q o p))
  star_found found _ _ row r o (LeadsOn.by_name number name other request target named f q p t l) =
      absurd (none-some (Other request named) (origins number name row other r q o p))
  star_found found _ _ row r o (LeadsOn.by_star number name other star target f q g t l) =
      (star, subst (λ w. IsFoundThrough graph number w name star) (same_row number other row q r) g)

  -- a name of a module of ECMAScript that leads to one thing, and that none of its exports has, is found through a star
  pub found_by_star : (number : ℕ) (name : List ℕ) (row : Row) (found : Found) → slice_get graph.rows number ≡ Some row → row.facts.kind ≡ Es
      → origin_of row.facts name ≡ None → FindsOne graph number name found → (star : ℕ) × IsFoundThrough graph number row name star
  found_by_star number name row found at kind o f = star_found found number name row (record { at = at; kind = kind }) o (leads_on number name found f)

  -- each name of a namespace that is used leads to a module that is reached
  pub space_names_reach : Fits graph → (target : ℕ) (names : List (List ℕ)) (name : List ℕ) → IsWhole graph target → NamespaceNames graph target names
      → Contains names name → (found : Found) × FindsOne graph target name found × ((owner : ℕ) → owner_of found ≡ Some owner → IsReached graph owner)
  space_names_reach fits target names name w has m =
      let x = (has.each name).0 m in
      let u = IsUsed.by_space w.0 w.1 target name w.2 w.3 w.4 w.5 x.0 in
      (x.1.0, x.1.1, λ owner o. owner_is_reached fits target owner name x.1.0 u x.1.1 o)

-- In a closed list of pairs each name leads to the one thing or to nothing, whatever was gone through before.
use Rattle.std.proofs.Common.{◌≡◌, ◌≢◌, ◌⊎◌, inl, inr, ℕ, zero, suc, ◌<◌, List, [], ◌∷◌, ◌++◌, length, Contains, Some, option_map, refl, ap, subst, ◌∙◌, arith}
use Rattle.std.proofs.lemmas.List.Elements.{Contains-append_left, Contains-push}
use Rattle.pk_types.specs.declared.facts.Kind.{Kind}
use Rattle.pk_types.specs.declared.facts.Kind.TheVariants.{Es, Cjs, Json}
use Rattle.pk_types.specs.declared.graph.Graph.{Graph}
use Rattle.pk_types.specs.declared.graph.Row.{Row}
use Rattle.pk_types.specs.declared.found.Found.{Found}
use Rattle.pk_types.specs.declared.found.Found.TheVariants.{Binding, Namespace, Foreign, Nothing, Ambiguous}
use Rattle.pk_types.specs.Joined.{joined}
use Rattle.pk_types.specs.Resolving.{Pair, kind_at, IsFirst, ResolvesTo, StarsLeadTo}
use Rattle.pk_types.proofs.Parts.{Contains-head, Contains-tail}
use Rattle.graph_laws.proofs.SameThing.{AtMost, among_or_not, without, joined_at_most, at_most_one}
use Rattle.graph_laws.proofs.ClosedPairs.{IsEsRow, IsKnown, StarSettled, Settled, AreClosed}

es_or_not : (kind : Kind) → (kind ≡ Es) ⊎ (kind ≢ Es)
es_or_not Es = inl refl
es_or_not Cjs = inr (λ e. grind arith)
es_or_not Json = inr (λ e. grind arith)

abbrev Grows : List Pair → List Pair → Type 0
Grows before after = (pair : Pair) → Contains before pair → Contains after pair

module _ (graph : Graph) where
  pub row_kind : (number : ℕ) (row : Row) → IsEsRow graph number row → kind_at graph number ≡ Some Es
  row_kind number row e = ap (option_map (λ r. r.facts.kind)) e.at ∙ ap Some e.kind

  -- a settled pair is one of a module of ECMAScript
  pub settled_es : (found : Found) (pairs : List Pair) (number : ℕ) (name : List ℕ) → Settled graph found pairs number name → kind_at graph number ≡ Some Es
  settled_es found pairs _ _ (Settled.own number name row binding e o f) = row_kind number row e
  settled_es found pairs _ _ (Settled.space number name row request target e o t f) = row_kind number row e
  settled_es found pairs _ _ (Settled.indirect number name row request target other e o t k) = row_kind number row e
  settled_es found pairs _ _ (Settled.no_default number name row e o d) = row_kind number row e
  settled_es found pairs _ _ (Settled.by_stars number name row e o d s) = row_kind number row e

  module _ (found : Found) (one_thing : found ≢ Ambiguous) (pairs : List Pair) (closed : AreClosed graph found pairs) where
    -- the name leads to the one thing or to nothing
    abbrev Leads : List Pair → ℕ → List ℕ → Type 0
    Leads before number name = (one : Found) × (after : List Pair) × ResolvesTo graph before number name one after × AtMost found one × Grows before after

    abbrev StarsLead : List Pair → List ℕ → List ℕ → List ℕ → Found → Type 0
    StarsLead before targets name stars so_far = (one : Found) × (after : List Pair) × StarsLeadTo graph before targets name stars so_far one after
        × AtMost found one × Grows before after

    -- that holds of each known pair, where at least these pairs were gone through
    abbrev Asks : List Pair → Type 0
    Asks base = (before : List Pair) → Grows base before → (number : ℕ) (name : List ℕ) → IsKnown graph found pairs number name → Leads before number name

    first_row : (before : List Pair) (number : ℕ) (name : List ℕ) (row : Row) → ¬ Contains before (number, name) → IsEsRow graph number row
        → IsFirst graph before number name row
    first_row before number name row n e = record { at = e.at; kind = e.kind; first = n }

    one_star : (base : List Pair) → Asks base → (targets name : List ℕ) (star : ℕ) (stars : List ℕ) (before : List Pair) → Grows base before → (so_far : Found)
        → AtMost found so_far
        → ((between : List Pair) → Grows base between → (next : Found) → AtMost found next → StarsLead between targets name stars next)
        → (s : StarSettled graph pairs targets name star) → (s.kind ≡ Es) ⊎ (s.kind ≢ Es) → StarsLead before targets name (star ∷ stars) so_far
    one_star base ask targets name star stars before g so_far m later s (inr n) =
        let r = later before g so_far m in
        (r.0, r.1, StarsLeadTo.passed before targets name star s.target stars so_far r.0 r.1 s.kind s.leads s.at n r.2, r.3, r.4)
    one_star base ask targets name star stars before g so_far m later s (inl e) =
        let a = ask before g s.target name (inl (s.known e)) in
        let w = joined_at_most found so_far a.0 m a.3 in
        let r = later a.1 (λ pair c. a.4 pair (g pair c)) (joined so_far a.0) w in (
          r.0,
          r.1,
          StarsLeadTo.joins before a.1 targets name star s.target stars so_far a.0 r.0 r.1 s.leads (s.at ∙ ap Some e) a.2
              (at_most_one found (joined so_far a.0) one_thing w) r.2,
          r.3,
          λ pair c. r.4 pair (a.4 pair c),
        )

    by_stars : (base : List Pair) → Asks base → (targets name stars : List ℕ) → ((star : ℕ) → Contains stars star → StarSettled graph pairs targets name star)
        → (before : List Pair) → Grows base before → (so_far : Found) → AtMost found so_far → StarsLead before targets name stars so_far
    by_stars base ask targets name [] settled before g so_far m = (so_far, before, StarsLeadTo.ended before targets name so_far, m, λ pair c. c)
    by_stars base ask targets name (star ∷ stars) settled before g so_far m =
        one_star base ask targets name star stars before g so_far m (by_stars base ask targets name stars (λ other c. settled other (Contains-tail star stars other c)))
        (settled star (Contains-head star stars)) (es_or_not (settled star (Contains-head star stars)).kind)

    -- a pair that is asked for the first time
    by_rule : (before : List Pair) (number : ℕ) (name : List ℕ) → ¬ Contains before (number, name) → Asks (before ++ (number, name) ∷ [])
        → Settled graph found pairs number name → Leads before number name
    by_rule before _ _ n ask (Settled.own number name row binding e o f) = (
      Binding number binding,
      before ++ (number, name) ∷ [],
      ResolvesTo.own before number name row binding (first_row before number name row n e) o,
      inr f,
      λ pair c. Contains-append_left before ((number, name) ∷ []) pair c,
    )
    by_rule before _ _ n ask (Settled.space number name row request target e o t f) = (
      Namespace target,
      before ++ (number, name) ∷ [],
      ResolvesTo.space before number name row request target (first_row before number name row n e) o t,
      inr f,
      λ pair c. Contains-append_left before ((number, name) ∷ []) pair c,
    )
    by_rule before _ _ n ask (Settled.indirect number name row request target other e o t k) =
        let a = ask (before ++ (number, name) ∷ []) (λ pair c. c) target other k in (
          a.0,
          a.1,
          ResolvesTo.indirect before number name row request target other a.0 a.1 (first_row before number name row n e) o t a.2,
          a.3,
          λ pair c. a.4 pair (Contains-append_left before ((number, name) ∷ []) pair c),
        )
    by_rule before _ _ n ask (Settled.no_default number name row e o d) = (
      Nothing,
      before ++ (number, name) ∷ [],
      ResolvesTo.no_default before number name row (first_row before number name row n e) o d,
      inl refl,
      λ pair c. Contains-append_left before ((number, name) ∷ []) pair c,
    )
    by_rule before _ _ n ask (Settled.by_stars number name row e o d s) =
        let a = by_stars (before ++ (number, name) ∷ []) ask row.targets name row.facts.stars s (before ++ (number, name) ∷ []) (λ pair c. c) Nothing (inl refl) in (
          a.0,
          a.1,
          ResolvesTo.by_stars before number name row a.0 a.1 (first_row before number name row n e) o d a.2,
          a.3,
          λ pair c. a.4 pair (Contains-append_left before ((number, name) ∷ []) pair c),
        )

    -- the pairs that were not gone through before are among those that are left
    abbrev Remain : List Pair → List Pair → Type 0
    Remain before left = (pair : Pair) → Contains pairs pair → Contains before pair ⊎ Contains left pair

    remain_behind : (before left : List Pair) (first : Pair) → Remain before left → (c : Contains left first) → Remain (before ++ first ∷ []) (without left first c).0
    remain_behind before left first r c pair m = elim (r pair m) [
      | inl h ↦ inl (Contains-append_left before (first ∷ []) pair h)
      | inr h ↦ elim ((without left first c).2 pair h) [
        | inl e ↦ inl (subst (Contains (before ++ first ∷ [])) e (Contains-push before first))
        | inr w ↦ inr w
      ]
    ]

    -- a known pair, where all that comes behind it is told
    at_pair : (before left : List Pair) → Remain before left → (number : ℕ) (name : List ℕ)
        → ((c : Contains left (number, name)) (wider : List Pair) → Remain wider (without left (number, name) c).0 → (other : ℕ) (named : List ℕ)
        → IsKnown graph found pairs other named → Leads wider other named)
        → Contains pairs (number, name) → Contains before (number, name) ⊎ (¬ Contains before (number, name)) → Leads before number name
    at_pair before left r number name behind m (inl c) =
        (Nothing, before, ResolvesTo.circular before number name (settled_es found pairs number name (closed number name m)) c, inl refl, λ pair d. d)
    at_pair before left r number name behind m (inr n) = elim (r (number, name) m) [
      | inl c ↦ absurd (n c)
      | inr c ↦ by_rule before number name n
          (λ wider g. behind c wider
          (λ pair p. elim (remain_behind before left (number, name) r c pair p) [ inl b ↦ inl (g pair b) | inr v ↦ inr v ]))
          (closed number name m)
    ]

    leads : (fuel : ℕ) (before left : List Pair) → length left < fuel → Remain before left → (number : ℕ) (name : List ℕ)
        → IsKnown graph found pairs number name → Leads before number name
    leads zero before left h r number name k = absurd (omega (arith, h))
    leads (suc fuel) before left h r number name (inr f) =
        (Foreign number name, before, ResolvesTo.foreign before number name f.kind f.at f.other, inr f.one, λ pair c. c)
    leads (suc fuel) before left h r number name (inl m) =
        at_pair before left r number name
        (λ c wider. leads fuel wider (without left (number, name) c).0 (omega (arith, h, (without left (number, name) c).1)))
        m (among_or_not before (number, name))

    -- a known pair leads to the one thing or to nothing
    pub resolves_at_most : (before : List Pair) (number : ℕ) (name : List ℕ) → IsKnown graph found pairs number name
        → (one : Found) × (after : List Pair) × ResolvesTo graph before number name one after × AtMost found one
    resolves_at_most before number name k =
        let l = leads (suc (length pairs)) before pairs (omega arith) (λ pair c. inr c) number name k in (l.0, l.1, l.2, l.3)

-- What a resolution that leads to one thing, or to nothing, goes through: with each pair of a module and a name also those that it is passed on to,
-- and where one leads to something itself, that is the one thing.
use Rattle.std.proofs.Common.{◌≡◌, ◌≢◌, ◌⊎◌, inl, inr, ℕ, List, [], ◌∷◌, ◌++◌, Contains, Some, None, slice_get, refl, sym, subst, ◌∙◌, arith}
use Rattle.std.proofs.lemmas.Option.{same_Some}
use Rattle.std.proofs.lemmas.List.Elements.{Contains-append_left, Contains-push, Contains-push_cases}
use Rattle.pk_types.specs.declared.facts.Kind.{Kind}
use Rattle.pk_types.specs.declared.facts.Kind.TheVariants.{Es}
use Rattle.pk_types.specs.declared.facts.Origin.TheVariants.{Own, Other, Space}
use Rattle.pk_types.specs.declared.graph.Graph.{Graph}
use Rattle.pk_types.specs.declared.graph.Row.{Row}
use Rattle.pk_types.specs.declared.found.Found.{Found}
use Rattle.pk_types.specs.declared.found.Found.TheVariants.{Binding, Namespace, Foreign, Nothing, Ambiguous}
use Rattle.pk_types.specs.Joined.{joined}
use Rattle.pk_types.specs.Resolving.{Pair, default_name, origin_of, kind_at, IsFirst, ResolvesTo, StarsLeadTo}
use Rattle.pk_types.proofs.Parts.{Contains-cases, none_within}
use Rattle.graph_laws.proofs.SameThing.{AtMost, joined_sides, at_most_one}

module _ (graph : Graph) where
  -- the module of a row is one of ECMAScript
  pub record IsEsRow (number : ℕ) (row : Row) : Type 0 where
    pub at : slice_get graph.rows number ≡ Some row
    pub kind : row.facts.kind ≡ Es

  -- a module that is none of ECMAScript has the name: that is the one thing
  pub record IsForeign (found : Found) (number : ℕ) (name : List ℕ) : Type 0 where
    pub kind : Kind
    pub at : kind_at graph number ≡ Some kind
    pub other : kind ≢ Es
    pub one : Foreign number name ≡ found

  -- the pair was gone through, or its module is none of ECMAScript
  abbrev pub IsKnown : Found → List Pair → ℕ → List ℕ → Type 0
  IsKnown found pairs number name = Contains pairs (number, name) ⊎ IsForeign found number name

  -- what a star leads to is none of ECMAScript, or its pair was gone through
  pub record StarSettled (pairs : List Pair) (targets name : List ℕ) (star : ℕ) : Type 0 where
    pub target : ℕ
    pub leads : slice_get targets star ≡ Some target
    pub kind : Kind
    pub at : kind_at graph target ≡ Some kind
    pub known : kind ≡ Es → Contains pairs (target, name)

  -- a pair that was gone through: what it leads to itself is the one thing, and what it is passed on to is known
  pub data Settled (found : Found) (pairs : List Pair) : ℕ → List ℕ → Type 0 where
    own : (number : ℕ) (name : List ℕ) (row : Row) (binding : ℕ) → IsEsRow number row → origin_of row.facts name ≡ Some (Own binding)
        → Binding number binding ≡ found → Settled found pairs number name
    space : (number : ℕ) (name : List ℕ) (row : Row) (request target : ℕ) → IsEsRow number row → origin_of row.facts name ≡ Some (Space request)
        → slice_get row.targets request ≡ Some target → Namespace target ≡ found → Settled found pairs number name
    indirect : (number : ℕ) (name : List ℕ) (row : Row) (request target : ℕ) (other : List ℕ) → IsEsRow number row
        → origin_of row.facts name ≡ Some (Other request other) → slice_get row.targets request ≡ Some target
        → IsKnown found pairs target other → Settled found pairs number name
    no_default : (number : ℕ) (name : List ℕ) (row : Row) → IsEsRow number row → origin_of row.facts name ≡ None → name ≡ default_name
        → Settled found pairs number name
    by_stars : (number : ℕ) (name : List ℕ) (row : Row) → IsEsRow number row → origin_of row.facts name ≡ None → name ≢ default_name
        → ((star : ℕ) → Contains row.facts.stars star → StarSettled pairs row.targets name star) → Settled found pairs number name

  -- all pairs are settled
  abbrev pub AreClosed : Found → List Pair → Type 0
  AreClosed found pairs = (number : ℕ) (name : List ℕ) → Contains pairs (number, name) → Settled found pairs number name

  abbrev Wider : List Pair → List Pair → Type 0
  Wider pairs more = (number : ℕ) (name : List ℕ) → Contains pairs (number, name) → Contains more (number, name)

  known_wider : (found : Found) (pairs more : List Pair) (number : ℕ) (name : List ℕ) → Wider pairs more → IsKnown found pairs number name
      → IsKnown found more number name
  known_wider found pairs more number name wider (inl m) = inl (wider number name m)
  known_wider found pairs more number name wider (inr f) = inr f

  star_wider : (pairs more : List Pair) (targets name : List ℕ) (star : ℕ) → Wider pairs more → StarSettled pairs targets name star
      → StarSettled more targets name star
  star_wider pairs more targets name star wider s =
      record { target = s.target; leads = s.leads; kind = s.kind; at = s.at; known = λ e. wider s.target name (s.known e) }

  settled_wider : (found : Found) (pairs more : List Pair) (number : ℕ) (name : List ℕ) → Wider pairs more → Settled found pairs number name
      → Settled found more number name
  settled_wider found pairs more _ _ wider (Settled.own number name row binding e o f) = Settled.own number name row binding e o f
  settled_wider found pairs more _ _ wider (Settled.space number name row request target e o t f) = Settled.space number name row request target e o t f
  settled_wider found pairs more _ _ wider (Settled.indirect number name row request target other e o t k) =
      Settled.indirect number name row request target other e o t (known_wider found pairs more target other wider k)
  settled_wider found pairs more _ _ wider (Settled.no_default number name row e o d) = Settled.no_default number name row e o d
  settled_wider found pairs more _ _ wider (Settled.by_stars number name row e o d s) =
      Settled.by_stars number name row e o d (λ star m. star_wider pairs more row.targets name star wider (s star m))

  -- nothing that was gone through before is lost, and what came to it is settled
  record Covers (found : Found) (before after : List Pair) : Type 0 where
    grows : Wider before after
    each : (number : ℕ) (name : List ℕ) → Contains after (number, name) → Contains before (number, name) ⊎ Settled found after number name

  unchanged : (found : Found) (before : List Pair) → Covers found before before
  unchanged found before = record { grows = λ number name m. m; each = λ number name m. inl m }

  one_more : (found : Found) (before after : List Pair) (number : ℕ) (name : List ℕ) → Covers found (before ++ (number, name) ∷ []) after
      → Settled found after number name → Covers found before after
  one_more found before after number name covers settled = record {
    grows = λ other named m. covers.grows other named (Contains-append_left before ((number, name) ∷ []) (other, named) m);
    each = λ other named m. split other named (covers.each other named m);
  }
    where
      last : (other : ℕ) (named : List ℕ) → Contains before (other, named) ⊎ (◌≡◌ {A = Pair} (number, name) (other, named))
          → Contains before (other, named) ⊎ Settled found after other named
      last other named (inl m) = inl m
      last other named (inr e) = inr (subst (λ p. Settled found after p.0 p.1) e settled)

      split : (other : ℕ) (named : List ℕ) → Contains (before ++ (number, name) ∷ []) (other, named) ⊎ Settled found after other named
          → Contains before (other, named) ⊎ Settled found after other named
      split other named (inl m) = last other named (Contains-push_cases before (number, name) (other, named) m)
      split other named (inr s) = inr s

  alone : (found : Found) (before : List Pair) (number : ℕ) (name : List ℕ) → Settled found (before ++ (number, name) ∷ []) number name
      → Covers found before (before ++ (number, name) ∷ [])
  alone found before number name settled =
      one_more found before (before ++ (number, name) ∷ []) number name (unchanged found (before ++ (number, name) ∷ [])) settled

  in_turn : (found : Found) (before between after : List Pair) → Covers found before between → Covers found between after → Covers found before after
  in_turn found before between after one two = record {
    grows = λ number name m. two.grows number name (one.grows number name m);
    each = λ number name m. split number name (two.each number name m);
  }
    where
      first : (number : ℕ) (name : List ℕ) → Contains before (number, name) ⊎ Settled found between number name
          → Contains before (number, name) ⊎ Settled found after number name
      first number name (inl m) = inl m
      first number name (inr s) = inr (settled_wider found between after number name two.grows s)

      split : (number : ℕ) (name : List ℕ) → Contains between (number, name) ⊎ Settled found after number name
          → Contains before (number, name) ⊎ Settled found after number name
      split number name (inl m) = first number name (one.each number name m)
      split number name (inr s) = inr s

  not_nothing : {B : Type 0} (found one : Found) → one ≢ Nothing → AtMost found one → (one ≡ found → B) → B
  not_nothing found one n (inl e) then = absurd (n e)
  not_nothing found one n (inr e) then = then e

  first_or_later : (pairs : List Pair) (targets name : List ℕ) (star : ℕ) (stars : List ℕ) → StarSettled pairs targets name star
      → ((other : ℕ) → Contains stars other → StarSettled pairs targets name other) → (other : ℕ) → Contains (star ∷ stars) other
      → StarSettled pairs targets name other
  first_or_later pairs targets name star stars s later other m = elim (Contains-cases star stars other m) [
    | inl e ↦ subst (StarSettled pairs targets name) e s
    | inr h ↦ later other h
  ]

  es_row : (before : List Pair) (number : ℕ) (name : List ℕ) (row : Row) → IsFirst graph before number name row → IsEsRow number row
  es_row before number name row f = record { at = f.at; kind = f.kind }

  through : (found both one : Found) → AtMost found both → AtMost both one → AtMost found one
  through found both one m (inl e) = inl e
  through found both one (inl e) (inr f) = inl (f ∙ e)
  through found both one (inr e) (inr f) = inr (f ∙ e)

  -- what stars led to so far is nothing or what they lead to in the end
  pub so_far_at_most : (before : List Pair) (targets name stars : List ℕ) (so_far found : Found) (after : List Pair)
      → StarsLeadTo graph before targets name stars so_far found after → found ≢ Ambiguous → AtMost found so_far
  so_far_at_most _ _ _ _ _ _ _ (StarsLeadTo.ended before targets name found) n = inr refl
  so_far_at_most _ _ _ _ _ _ _ (StarsLeadTo.passed before targets name star target stars so_far found after kind t k m e) n =
      so_far_at_most before targets name stars so_far found after e n
  so_far_at_most _ _ _ _ _ _ _ (StarsLeadTo.joins before between targets name star target stars so_far one found after t k d j e) n =
      through found (joined so_far one) so_far (so_far_at_most between targets name stars (joined so_far one) found after e n) (joined_sides so_far one j).0
  so_far_at_most _ _ _ _ _ _ _ (StarsLeadTo.conflicts before after targets name star target stars so_far one t k d j) n = absurd (n refl)

  -- what one star leads to is nothing or what all lead to
  pub one_at_most : (between : List Pair) (targets name stars : List ℕ) (so_far one found : Found) (after : List Pair) → joined so_far one ≢ Ambiguous
      → StarsLeadTo graph between targets name stars (joined so_far one) found after → found ≢ Ambiguous → AtMost found one
  one_at_most between targets name stars so_far one found after j e n =
      through found (joined so_far one) one (so_far_at_most between targets name stars (joined so_far one) found after e n) (joined_sides so_far one j).1

  -- a known pair of a module of ECMAScript was gone through
  pub known_es : (found : Found) (pairs : List Pair) (number : ℕ) (name : List ℕ) → kind_at graph number ≡ Some Es → IsKnown found pairs number name
      → Contains pairs (number, name)
  known_es found pairs number name e (inl m) = m
  known_es found pairs number name e (inr f) = absurd (f.other (same_Some f.kind Es (sym f.at ∙ e)))

  module _ (found : Found) (one_thing : found ≢ Ambiguous) where
    mutual
      covers : (before : List Pair) (number : ℕ) (name : List ℕ) (one : Found) (after : List Pair) → ResolvesTo graph before number name one after → AtMost found one
          → Covers found before after × IsKnown found after number name
      covers _ _ _ _ _ (ResolvesTo.foreign before number name kind k n) m = (
        unchanged found before,
        not_nothing found (Foreign number name) (λ e. grind arith) m (λ e. inr (record { kind = kind; at = k; other = n; one = e })),
      )
      covers _ _ _ _ _ (ResolvesTo.circular before number name k c) m = (unchanged found before, inl c)
      covers _ _ _ _ _ (ResolvesTo.own before number name row binding f o) m = (
        alone found before number name (not_nothing found (Binding number binding) (λ e. grind arith) m
            (λ e. Settled.own number name row binding (es_row before number name row f) o e)),
        inl (Contains-push before (number, name)),
      )
      covers _ _ _ _ _ (ResolvesTo.space before number name row request target f o t) m = (
        alone found before number name (not_nothing found (Namespace target) (λ e. grind arith) m
            (λ e. Settled.space number name row request target (es_row before number name row f) o t e)),
        inl (Contains-push before (number, name)),
      )
      covers _ _ _ _ _ (ResolvesTo.indirect before number name row request target other one after f o t d) m =
          let c = covers (before ++ (number, name) ∷ []) target other one after d m in (
            one_more found before after number name c.0 (Settled.indirect number name row request target other (es_row before number name row f) o t c.1),
            inl (c.0.grows number name (Contains-push before (number, name))),
          )
      covers _ _ _ _ _ (ResolvesTo.no_default before number name row f o e) m = (
        alone found before number name (Settled.no_default number name row (es_row before number name row f) o e),
        inl (Contains-push before (number, name)),
      )
      covers _ _ _ _ _ (ResolvesTo.by_stars before number name row one after f o e d) m =
          let c = covers_stars (before ++ (number, name) ∷ []) row.targets name row.facts.stars Nothing one after d m in (
            one_more found before after number name c.0 (Settled.by_stars number name row (es_row before number name row f) o e c.1),
            inl (c.0.grows number name (Contains-push before (number, name))),
          )

      covers_stars : (before : List Pair) (targets name stars : List ℕ) (so_far one : Found) (after : List Pair)
          → StarsLeadTo graph before targets name stars so_far one after → AtMost found one
          → Covers found before after × ((star : ℕ) → Contains stars star → StarSettled after targets name star)
      covers_stars _ _ _ _ _ _ _ (StarsLeadTo.ended before targets name one) m = (unchanged found before, λ star c. none_within star c)
      covers_stars _ _ _ _ _ _ _ (StarsLeadTo.passed before targets name star target stars so_far one after kind t k n e) m =
          let c = covers_stars before targets name stars so_far one after e m in (
            c.0,
            first_or_later after targets name star stars (record { target = target; leads = t; kind = kind; at = k; known = λ es. absurd (n es) }) c.1,
          )
      covers_stars _ _ _ _ _ _ _ (StarsLeadTo.joins before between targets name star target stars so_far first one after t k d j e) m =
          let w = one_at_most between targets name stars so_far first one after j e (at_most_one found one one_thing m) in
          let h = covers before target name first between d (through found one first m w) in
          let c = covers_stars between targets name stars (joined so_far first) one after e m in (
            in_turn found before between after h.0 c.0,
            first_or_later after targets name star stars
                (record { target = target; leads = t; kind = Es; at = k; known = λ es. c.0.grows target name (known_es found between target name k h.1) }) c.1,
          )
      covers_stars _ _ _ _ _ _ _ (StarsLeadTo.conflicts before after targets name star target stars so_far first t k d j) m =
          absurd (at_most_one found Ambiguous one_thing m refl)

    -- what a resolution goes through is closed, where it leads to the one thing or to nothing
    pub closed_after : (number : ℕ) (name : List ℕ) (one : Found) (after : List Pair) → ResolvesTo graph [] number name one after → AtMost found one
        → AreClosed found after × IsKnown found after number name
    closed_after number name one after d m =
        let c = covers [] number name one after d m in
        (λ other named k. elim (c.0.each other named k) [ inl n ↦ none_within (other, named) n | inr s ↦ s ], c.1)

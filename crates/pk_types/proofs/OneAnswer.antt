-- A name leads to one thing: the rules of export resolution are a function of the graph, the pairs gone through, the module and the name.
use Rattle.std.proofs.Common.{◌≡◌, ◌≢◌, ℕ, List, [], ◌∷◌, ◌++◌, Contains, Option, Some, None, slice_get, option_map, refl, sym, ap, subst, ◌∙◌, arith}
use Rattle.std.proofs.lemmas.Option.{none-some, same_Some}
use Rattle.pk_types.specs.declared.facts.Kind.{Kind}
use Rattle.pk_types.specs.declared.facts.Kind.TheVariants.{Es}
use Rattle.pk_types.specs.declared.facts.Origin.{Origin}
use Rattle.pk_types.specs.declared.facts.Origin.TheVariants.{Own, Other, Space}
use Rattle.pk_types.specs.declared.graph.Graph.{Graph}
use Rattle.pk_types.specs.declared.graph.Row.{Row}
use Rattle.pk_types.specs.declared.found.Found.{Found}
use Rattle.pk_types.specs.declared.found.Found.TheVariants.{Binding, Namespace, Foreign, Nothing, Ambiguous}
use Rattle.pk_types.specs.Joined.{joined}
use Rattle.pk_types.specs.Resolving.{Pair, default_name, origin_of, kind_at, IsFirst, ResolvesTo, StarsLeadTo, Resolves}

own_is : {binding other : ℕ} → Some (Own binding) ≡ Some (Own other) → binding ≡ other
own_is e = grind arith

space_is : {request other : ℕ} → Some (Space request) ≡ Some (Space other) → request ≡ other
space_is e = grind arith

other_is : {request place : ℕ} {name other : List ℕ} → Some (Other request name) ≡ Some (Other place other) → (request ≡ place) × (name ≡ other)
other_is e = grind arith

own_space : {B : Type 0} {binding request : ℕ} → Some (Own binding) ≡ Some (Space request) → B
own_space {B} {binding} {request} e = absurd (clash e)
  where
    clash : Some (Own binding) ≡ Some (Space request) → ⊥
    clash e = grind arith

own_other : {B : Type 0} {binding request : ℕ} {name : List ℕ} → Some (Own binding) ≡ Some (Other request name) → B
own_other {B} {binding} {request} {name} e = absurd (clash e)
  where
    clash : Some (Own binding) ≡ Some (Other request name) → ⊥
    clash e = grind arith

space_other : {B : Type 0} {place request : ℕ} {name : List ℕ} → Some (Space place) ≡ Some (Other request name) → B
space_other {B} {place} {request} {name} e = absurd (clash e)
  where
    clash : Some (Space place) ≡ Some (Other request name) → ⊥
    clash e = grind arith

no_origin : {B : Type 0} {origin : Origin} → None ≡ Some origin → B
no_origin {B} {origin} e = absurd (none-some origin e)

module _ (graph : Graph) where
  module _ (before : List Pair) (number : ℕ) (name : List ℕ) where
    First : Row → Type 0
    First row = IsFirst graph before number name row

    pub first_es : (row : Row) → IsFirst graph before number name row → kind_at graph number ≡ Some Es
    first_es row f = ap (option_map (λ r. r.facts.kind)) f.at ∙ ap Some f.kind

    not_es : {B : Type 0} (kind : Kind) → kind_at graph number ≡ Some kind → kind ≢ Es → kind_at graph number ≡ Some Es → B
    not_es kind e n f = absurd (n (same_Some kind Es (sym e ∙ f)))

    same_row : (row other : Row) → IsFirst graph before number name row → IsFirst graph before number name other → row ≡ other
    same_row row other f g = same_Some row other (sym f.at ∙ g.at)

    same_origin : (row other : Row) {p q : Option Origin} → IsFirst graph before number name row → IsFirst graph before number name other
        → origin_of row.facts name ≡ p → origin_of other.facts name ≡ q → p ≡ q
    same_origin row other f g e h = sym e ∙ ap (λ r. origin_of r.facts name) (same_row row other f g) ∙ h

    -- targets by one request of the module
    same_target : (row other : Row) (request place target there : ℕ) → IsFirst graph before number name row → IsFirst graph before number name other
        → request ≡ place → slice_get row.targets request ≡ Some target → slice_get other.targets place ≡ Some there → target ≡ there
    same_target row other request place target there f g e t u =
        same_Some target there (sym t ∙ ap (λ r. slice_get r.targets request) (same_row row other f g) ∙ ap (slice_get other.targets) e ∙ u)

    after : List Pair
    after = before ++ (number, name) ∷ []

  pub at_foreign : (before : List Pair) (number : ℕ) (name : List ℕ) (kind : Kind) (found : Found) (last : List Pair) → kind_at graph number ≡ Some kind → kind ≢ Es
      → ResolvesTo graph before number name found last → (Foreign number name ≡ found) × (before ≡ last)
  at_foreign _ _ _ kind _ _ k n (ResolvesTo.foreign before number name other e m) = (refl, refl)
  at_foreign _ _ _ kind _ _ k n (ResolvesTo.circular before number name e m) = not_es before number name kind k n e
  at_foreign _ _ _ kind _ _ k n (ResolvesTo.own before number name row binding f o) = not_es before number name kind k n (first_es before number name row f)
  at_foreign _ _ _ kind _ _ k n (ResolvesTo.space before number name row request target f o t) = not_es before number name kind k n (first_es before number name row f)
  at_foreign _ _ _ kind _ _ k n (ResolvesTo.indirect before number name row request target other found last f o t d) =
      not_es before number name kind k n (first_es before number name row f)
  at_foreign _ _ _ kind _ _ k n (ResolvesTo.no_default before number name row f o e) = not_es before number name kind k n (first_es before number name row f)
  at_foreign _ _ _ kind _ _ k n (ResolvesTo.by_stars before number name row found last f o e d) = not_es before number name kind k n (first_es before number name row f)

  pub at_circle : (before : List Pair) (number : ℕ) (name : List ℕ) (found : Found) (last : List Pair) → kind_at graph number ≡ Some Es → Contains before (number, name)
      → ResolvesTo graph before number name found last → (Nothing ≡ found) × (before ≡ last)
  at_circle _ _ _ _ _ k c (ResolvesTo.foreign before number name other e m) = not_es before number name other e m k
  at_circle _ _ _ _ _ k c (ResolvesTo.circular before number name e m) = (refl, refl)
  at_circle _ _ _ _ _ k c (ResolvesTo.own before number name row binding f o) = absurd (f.first c)
  at_circle _ _ _ _ _ k c (ResolvesTo.space before number name row request target f o t) = absurd (f.first c)
  at_circle _ _ _ _ _ k c (ResolvesTo.indirect before number name row request target other found last f o t d) = absurd (f.first c)
  at_circle _ _ _ _ _ k c (ResolvesTo.no_default before number name row f o e) = absurd (f.first c)
  at_circle _ _ _ _ _ k c (ResolvesTo.by_stars before number name row found last f o e d) = absurd (f.first c)

  at_own : (before : List Pair) (number : ℕ) (name : List ℕ) (row : Row) (binding : ℕ) (found : Found) (last : List Pair)
      → IsFirst graph before number name row → origin_of row.facts name ≡ Some (Own binding)
      → ResolvesTo graph before number name found last → (Binding number binding ≡ found) × (before ++ (number, name) ∷ [] ≡ last)
  at_own _ _ _ row binding _ _ f o (ResolvesTo.foreign before number name other e m) = not_es before number name other e m (first_es before number name row f)
  at_own _ _ _ row binding _ _ f o (ResolvesTo.circular before number name e m) = absurd (f.first m)
  at_own _ _ _ row binding _ _ f o (ResolvesTo.own before number name other bound g p) =
      (ap (Binding number) (own_is (same_origin before number name row other f g o p)), refl)
  at_own _ _ _ row binding _ _ f o (ResolvesTo.space before number name other request target g p t) = own_space (same_origin before number name row other f g o p)
  at_own _ _ _ row binding _ _ f o (ResolvesTo.indirect before number name other request target named found last g p t d) =
      own_other (same_origin before number name row other f g o p)
  at_own _ _ _ row binding _ _ f o (ResolvesTo.no_default before number name other g p e) = no_origin (same_origin before number name other row g f p o)
  at_own _ _ _ row binding _ _ f o (ResolvesTo.by_stars before number name other found last g p e d) = no_origin (same_origin before number name other row g f p o)

  at_space : (before : List Pair) (number : ℕ) (name : List ℕ) (row : Row) (request target : ℕ) (found : Found) (last : List Pair)
      → IsFirst graph before number name row → origin_of row.facts name ≡ Some (Space request) → slice_get row.targets request ≡ Some target
      → ResolvesTo graph before number name found last → (Namespace target ≡ found) × (before ++ (number, name) ∷ [] ≡ last)
  at_space _ _ _ row request target _ _ f o t (ResolvesTo.foreign before number name other e m) = not_es before number name other e m (first_es before number name row f)
  at_space _ _ _ row request target _ _ f o t (ResolvesTo.circular before number name e m) = absurd (f.first m)
  at_space _ _ _ row request target _ _ f o t (ResolvesTo.own before number name other bound g p) = own_space (same_origin before number name other row g f p o)
  at_space _ _ _ row request target _ _ f o t (ResolvesTo.space before number name other place there g p u) =
      (ap Namespace (same_target before number name row other request place target there f g (space_is (same_origin before number name row other f g o p)) t u), refl)
  at_space _ _ _ row request target _ _ f o t (ResolvesTo.indirect before number name other place there named found last g p u d) =
      space_other (same_origin before number name row other f g o p)
  at_space _ _ _ row request target _ _ f o t (ResolvesTo.no_default before number name other g p e) = no_origin (same_origin before number name other row g f p o)
  at_space _ _ _ row request target _ _ f o t (ResolvesTo.by_stars before number name other found last g p e d) = no_origin (same_origin before number name other row g f p o)

  pub at_indirect : (before : List Pair) (number : ℕ) (name : List ℕ) (row : Row) (request target : ℕ) (named : List ℕ) (found : Found) (last : List Pair)
      → IsFirst graph before number name row → origin_of row.facts name ≡ Some (Other request named) → slice_get row.targets request ≡ Some target
      → ResolvesTo graph before number name found last → ResolvesTo graph (before ++ (number, name) ∷ []) target named found last
  at_indirect _ _ _ row request target named _ _ f o t (ResolvesTo.foreign before number name other e m) =
      not_es before number name other e m (first_es before number name row f)
  at_indirect _ _ _ row request target named _ _ f o t (ResolvesTo.circular before number name e m) = absurd (f.first m)
  at_indirect _ _ _ row request target named _ _ f o t (ResolvesTo.own before number name other bound g p) = own_other (same_origin before number name other row g f p o)
  at_indirect _ _ _ row request target named _ _ f o t (ResolvesTo.space before number name other place there g p u) =
      space_other (same_origin before number name other row g f p o)
  at_indirect _ _ _ row request target named _ _ f o t (ResolvesTo.indirect before number name other place there called found last g p u d) =
      let e = other_is (same_origin before number name other row g f p o) in
      subst (λ m. ResolvesTo graph (before ++ (number, name) ∷ []) m named found last) (same_target before number name other row place request there target g f e.0 u t)
      (subst (λ n. ResolvesTo graph (before ++ (number, name) ∷ []) there n found last) e.1 d)
  at_indirect _ _ _ row request target named _ _ f o t (ResolvesTo.no_default before number name other g p e) = no_origin (same_origin before number name other row g f p o)
  at_indirect _ _ _ row request target named _ _ f o t (ResolvesTo.by_stars before number name other found last g p e d) =
      no_origin (same_origin before number name other row g f p o)

  at_no_default : (before : List Pair) (number : ℕ) (name : List ℕ) (row : Row) (found : Found) (last : List Pair)
      → IsFirst graph before number name row → origin_of row.facts name ≡ None → name ≡ default_name
      → ResolvesTo graph before number name found last → (Nothing ≡ found) × (before ++ (number, name) ∷ [] ≡ last)
  at_no_default _ _ _ row _ _ f o h (ResolvesTo.foreign before number name other e m) = not_es before number name other e m (first_es before number name row f)
  at_no_default _ _ _ row _ _ f o h (ResolvesTo.circular before number name e m) = absurd (f.first m)
  at_no_default _ _ _ row _ _ f o h (ResolvesTo.own before number name other bound g p) = no_origin (same_origin before number name row other f g o p)
  at_no_default _ _ _ row _ _ f o h (ResolvesTo.space before number name other place there g p u) = no_origin (same_origin before number name row other f g o p)
  at_no_default _ _ _ row _ _ f o h (ResolvesTo.indirect before number name other place there called found last g p u d) =
      no_origin (same_origin before number name row other f g o p)
  at_no_default _ _ _ row _ _ f o h (ResolvesTo.no_default before number name other g p e) = (refl, refl)
  at_no_default _ _ _ row _ _ f o h (ResolvesTo.by_stars before number name other found last g p e d) = absurd (e h)

  at_stars : (before : List Pair) (number : ℕ) (name : List ℕ) (row : Row) (found : Found) (last : List Pair)
      → IsFirst graph before number name row → origin_of row.facts name ≡ None → name ≢ default_name
      → ResolvesTo graph before number name found last
      → StarsLeadTo graph (before ++ (number, name) ∷ []) row.targets name row.facts.stars Nothing found last
  at_stars _ _ _ row _ _ f o h (ResolvesTo.foreign before number name other e m) = not_es before number name other e m (first_es before number name row f)
  at_stars _ _ _ row _ _ f o h (ResolvesTo.circular before number name e m) = absurd (f.first m)
  at_stars _ _ _ row _ _ f o h (ResolvesTo.own before number name other bound g p) = no_origin (same_origin before number name row other f g o p)
  at_stars _ _ _ row _ _ f o h (ResolvesTo.space before number name other place there g p u) = no_origin (same_origin before number name row other f g o p)
  at_stars _ _ _ row _ _ f o h (ResolvesTo.indirect before number name other place there called found last g p u d) =
      no_origin (same_origin before number name row other f g o p)
  at_stars _ _ _ row _ _ f o h (ResolvesTo.no_default before number name other g p e) = absurd (h e)
  at_stars _ _ _ row _ _ f o h (ResolvesTo.by_stars before number name other found last g p e d) =
      subst (λ r. StarsLeadTo graph (before ++ (number, name) ∷ []) r.targets name r.facts.stars Nothing found last) (sym (same_row before number name row other f g)) d

  kinds_differ : {B : Type 0} (targets : List ℕ) (star target there : ℕ) (kind : Kind) → slice_get targets star ≡ Some target → slice_get targets star ≡ Some there
      → kind_at graph target ≡ Some kind → kind ≢ Es → kind_at graph there ≡ Some Es → B
  kinds_differ targets star target there kind t u k n e =
      absurd (n (same_Some kind Es (sym k ∙ ap (kind_at graph) (same_Some target there (sym t ∙ u)) ∙ e)))

  -- a star leads to one thing
  abbrev OneBy : List Pair → ℕ → List ℕ → Found → List Pair → Type 0
  OneBy before target name one between = (other : Found) (end : List Pair) → ResolvesTo graph before target name other end → (one ≡ other) × (between ≡ end)

  at_target : (before : List Pair) (targets name : List ℕ) (star target there : ℕ) (one : Found) (between : List Pair)
      → slice_get targets star ≡ Some target → slice_get targets star ≡ Some there → OneBy before target name one between
      → (other : Found) (end : List Pair) → ResolvesTo graph before there name other end → (one ≡ other) × (between ≡ end)
  at_target before targets name star target there one between t u same other end d =
      same other end (subst (λ m. ResolvesTo graph before m name other end) (same_Some there target (sym u ∙ t)) d)

  at_joined : (before : List Pair) (targets name : List ℕ) (star target : ℕ) (stars : List ℕ) (so_far one : Found) (between : List Pair) (other : Found) (end : List Pair)
      → slice_get targets star ≡ Some target → kind_at graph target ≡ Some Es → OneBy before target name one between → joined so_far one ≢ Ambiguous
      → StarsLeadTo graph before targets name (star ∷ stars) so_far other end → StarsLeadTo graph between targets name stars (joined so_far one) other end
  at_joined _ _ _ _ target _ _ one between _ _ t k same j (StarsLeadTo.passed before targets name star there stars so_far found last kind u l m e) =
      kinds_differ targets star there target kind u t l m k
  at_joined _ _ _ _ target _ _ one between _ _ t k same j (StarsLeadTo.joins before middle targets name star there stars so_far two found last u l r i e) =
      let p = at_target before targets name star target there one between t u same two middle r in
      subst (λ b. StarsLeadTo graph b targets name stars (joined so_far one) found last) (sym p.1)
      (subst (λ f. StarsLeadTo graph middle targets name stars (joined so_far f) found last) (sym p.0) e)
  at_joined _ _ _ _ target _ _ one between _ _ t k same j (StarsLeadTo.conflicts before last targets name star there stars so_far two u l r i) =
      let p = at_target before targets name star target there one between t u same two last r in
      absurd (j (ap (joined so_far) p.0 ∙ i))

  at_conflict : (before : List Pair) (targets name : List ℕ) (star target : ℕ) (stars : List ℕ) (so_far one : Found) (between : List Pair) (other : Found) (end : List Pair)
      → slice_get targets star ≡ Some target → kind_at graph target ≡ Some Es → OneBy before target name one between → joined so_far one ≡ Ambiguous
      → StarsLeadTo graph before targets name (star ∷ stars) so_far other end → (Ambiguous ≡ other) × (between ≡ end)
  at_conflict _ _ _ _ target _ _ one between _ _ t k same j (StarsLeadTo.passed before targets name star there stars so_far found last kind u l m e) =
      kinds_differ targets star there target kind u t l m k
  at_conflict _ _ _ _ target _ _ one between _ _ t k same j (StarsLeadTo.joins before middle targets name star there stars so_far two found last u l r i e) =
      let p = at_target before targets name star target there one between t u same two middle r in
      absurd (i (ap (joined so_far) (sym p.0) ∙ j))
  at_conflict _ _ _ _ target _ _ one between _ _ t k same j (StarsLeadTo.conflicts before last targets name star there stars so_far two u l r i) =
      (refl, (at_target before targets name star target there one between t u same two last r).1)

  mutual
    pub one_answer : (before : List Pair) (number : ℕ) (name : List ℕ) (found : Found) (last : List Pair) → ResolvesTo graph before number name found last
        → (other : Found) (end : List Pair) → ResolvesTo graph before number name other end → (found ≡ other) × (last ≡ end)
    one_answer _ _ _ _ _ (ResolvesTo.foreign before number name kind k n) other end d = at_foreign before number name kind other end k n d
    one_answer _ _ _ _ _ (ResolvesTo.circular before number name k c) other end d = at_circle before number name other end k c d
    one_answer _ _ _ _ _ (ResolvesTo.own before number name row binding f o) other end d = at_own before number name row binding other end f o d
    one_answer _ _ _ _ _ (ResolvesTo.space before number name row request target f o t) other end d = at_space before number name row request target other end f o t d
    one_answer _ _ _ _ _ (ResolvesTo.indirect before number name row request target named found last f o t e) other end d =
        one_answer (before ++ (number, name) ∷ []) target named found last e other end (at_indirect before number name row request target named other end f o t d)
    one_answer _ _ _ _ _ (ResolvesTo.no_default before number name row f o h) other end d = at_no_default before number name row other end f o h d
    one_answer _ _ _ _ _ (ResolvesTo.by_stars before number name row found last f o h e) other end d =
        one_by_stars (before ++ (number, name) ∷ []) row.targets name row.facts.stars Nothing found last e other end (at_stars before number name row other end f o h d)

    one_by_stars : (before : List Pair) (targets name stars : List ℕ) (so_far found : Found) (last : List Pair)
        → StarsLeadTo graph before targets name stars so_far found last
        → (other : Found) (end : List Pair) → StarsLeadTo graph before targets name stars so_far other end → (found ≡ other) × (last ≡ end)
    one_by_stars _ _ _ _ _ _ _ (StarsLeadTo.ended before targets name found) other end d = at_end before targets name found other end d
      where
        at_end : (before : List Pair) (targets name : List ℕ) (found other : Found) (end : List Pair) → StarsLeadTo graph before targets name [] found other end
            → (found ≡ other) × (before ≡ end)
        at_end _ _ _ _ _ _ (StarsLeadTo.ended before targets name found) = (refl, refl)
    one_by_stars _ _ _ _ _ _ _ (StarsLeadTo.passed before targets name star target stars so_far found last kind t k n e) other end d =
        one_by_stars before targets name stars so_far found last e other end (at_passed before targets name star target stars so_far other end kind t k n d)
      where
        at_passed : (before : List Pair) (targets name : List ℕ) (star target : ℕ) (stars : List ℕ) (so_far other : Found) (end : List Pair) (kind : Kind)
            → slice_get targets star ≡ Some target → kind_at graph target ≡ Some kind → kind ≢ Es
            → StarsLeadTo graph before targets name (star ∷ stars) so_far other end → StarsLeadTo graph before targets name stars so_far other end
        at_passed _ _ _ _ target _ _ _ _ kind t k n (StarsLeadTo.passed before targets name star there stars so_far found last also u l m e) = e
        at_passed _ _ _ _ target _ _ _ _ kind t k n (StarsLeadTo.joins before between targets name star there stars so_far one found last u l r j e) =
            kinds_differ targets star target there kind t u k n l
        at_passed _ _ _ _ target _ _ _ _ kind t k n (StarsLeadTo.conflicts before last targets name star there stars so_far one u l r j) =
            kinds_differ targets star target there kind t u k n l
    one_by_stars _ _ _ _ _ _ _ (StarsLeadTo.joins before between targets name star target stars so_far one found last t k r j e) other end d =
        one_by_stars between targets name stars (joined so_far one) found last e other end
        (at_joined before targets name star target stars so_far one between other end t k (one_answer before target name one between r) j d)
    one_by_stars _ _ _ _ _ _ _ (StarsLeadTo.conflicts before last targets name star target stars so_far one t k r j) other end d =
        at_conflict before targets name star target stars so_far one last other end t k (one_answer before target name one last r) j d

  -- what a name leads to is one thing
  pub resolves_once : (number : ℕ) (name : List ℕ) (found other : Found) → Resolves graph number name found → Resolves graph number name other → found ≡ other
  resolves_once number name found other d e = (one_answer [] number name found d.0 d.1 other e.0 e.1).0

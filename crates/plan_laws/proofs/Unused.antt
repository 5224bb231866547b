-- In a bare graph nothing is used: no module has a site.
use Rattle.std.proofs.Common.{◌≡◌, ℕ, ◌<◌, Bool, List, [], ◌∷◌, length, map, Contains, Some, true, false, true≢false, slice_get, replicate, refl, sym, ap, subst, ◌∙◌, arith}
use Rattle.std.proofs.lemmas.Option.{slice_get_within, get_or_from_slice_get}
use Rattle.std.proofs.lemmas.List.{length-replicate, get_or-replicate}
use Rattle.std.proofs.lemmas.List.Elements.{All-contains}
use Rattle.pk_types.specs.declared.facts.Ref.TheVariants.{Imported}
use Rattle.pk_types.specs.declared.facts.SiteKind.{SiteKind}
use Rattle.pk_types.specs.declared.facts.SiteKind.TheVariants as site
use Rattle.pk_types.specs.declared.graph.Graph.{Graph}
use Rattle.pk_types.specs.declared.graph.Row.{Row}
use Rattle.pk_types.specs.declared.plan.Used.{Used}
use Rattle.pk_types.specs.ExportedNames.{AreInByteOrder}
use Rattle.pk_types.specs.Requests.{site_kinds, CallsRequire, CallsImport, NamesAtSite}
use Rattle.pk_types.specs.Use.{IsUsed, IsUsedThrough, IsWholeThrough, HasUse}
use Rattle.emit_chunk.specs.Bare.{IsBareRow, IsBare}
use Rattle.plan_core.specs.Plans.{IsUnused}
use Rattle.pk_types.proofs.Members.{Contains-at, same_by_place}
use Rattle.pk_types.proofs.Parts.{none_within, Contains-head}

-- each item of a list of one item, many times, is that item
pub all_same : {A : Type 0} (count : ℕ) (x y : A) (k : ℕ) → slice_get (replicate count x) k ≡ Some y → x ≡ y
all_same count x y k e =
    let within : k < count = omega (arith, slice_get_within (replicate count x) k y e, length-replicate count x) in
    sym (get_or-replicate count k x x within) ∙ get_or_from_slice_get (replicate count x) k y x e

none_in_order : AreInByteOrder []
none_in_order i j d h l = absurd (omega (arith, h, l))

module _ (graph : Graph) (bare : IsBare graph) where
  pub no_sites : (number : ℕ) (row : Row) → slice_get graph.rows number ≡ Some row → (kind : SiteKind) → Contains (site_kinds row) kind → ⊥
  no_sites number row at kind c =
      let is_bare = All-contains IsBareRow graph.rows row bare (Contains-at graph.rows number row at) in
      none_within kind (subst (λ sites. Contains (map (λ site. site.kind) sites) kind) is_bare.sites c)

  pub no_require : (number target : ℕ) → CallsRequire graph number target → ⊥
  no_require number target c = no_sites number c.0 c.2 (site.Require c.1) c.3

  pub no_import : (number target : ℕ) → CallsImport graph number target → ⊥
  no_import number target c = no_sites number c.0 c.2 (site.Import c.1) c.3

  pub no_name : (number : ℕ) (row : Row) → slice_get graph.rows number ≡ Some row → (request : ℕ) (name : List ℕ) → NamesAtSite row request name → ⊥
  no_name number row at _ _ (NamesAtSite.reads place request name c a) = no_sites number row at (site.Read (Imported place)) c
  no_name number row at _ _ (NamesAtSite.writes place request name c a) = no_sites number row at (site.Write (Imported place)) c
  no_name number row at _ _ (NamesAtSite.member request name c) = no_sites number row at (site.Member request name) c

  mutual
    pub none_used : (number : ℕ) (name : List ℕ) → IsUsed graph number name → ⊥
    none_used _ _ (IsUsed.by_request number request target name row w at u) = none_through number request name w
    none_used _ _ (IsUsed.by_require number target name r c x) = no_require number target c
    none_used _ _ (IsUsed.by_import number target name r c x) = no_import number target c
    none_used _ _ (IsUsed.by_space number request target name row w at u x) = none_whole number request w

    none_through : (number request : ℕ) (name : List ℕ) → IsUsedThrough graph number request name → ⊥
    none_through _ _ _ (IsUsedThrough.at_site number request name row r at s) = no_name number row at request name s
    none_through _ _ _ (IsUsedThrough.passed_on number request exported name row u at x) = none_used number exported u

    none_whole : (number request : ℕ) → IsWholeThrough graph number request → ⊥
    none_whole _ _ (IsWholeThrough.space_at_site number request row r at s) = no_sites number row at (site.Space request) s
    none_whole _ _ (IsWholeThrough.space_exported number request name row u at x) = none_used number name u

  pub nothing_used : (used : Used) → IsUnused graph used → HasUse graph used
  nothing_used used unused =
      let empty : (number : ℕ) (names : List (List ℕ)) → slice_get used.names number ≡ Some names → [] ≡ names
      = λ number names e. all_same (length graph.rows) [] names number (subst (λ l. slice_get l number ≡ Some names) unused.names e) in
      record {
        each_names = ap length unused.names ∙ length-replicate (length graph.rows) [];
        each_whole = ap length unused.whole ∙ length-replicate (length graph.rows) false;
        order = λ number names e. subst AreInByteOrder (empty number names e) none_in_order;
        names = λ number names e name.
            (λ c. none_within name (subst (λ l. Contains l name) (sym (empty number names e)) c), λ u. absurd (none_used number name u));
        whole = λ number. (
          λ e. absurd (true≢false (sym (all_same (length graph.rows) false true number (subst (λ l. slice_get l number ≡ Some true) unused.whole e)))),
          λ w. absurd (none_whole w.0 w.1 w.3),
        );
      }

  none_in : {A : Type 0} (xs : List A) → ((x : A) → Contains xs x → ⊥) → xs ≡ []
  none_in [] never = refl
  none_in (x ∷ xs) never = absurd (never x (Contains-head x xs))

  pub only_unused : (used : Used) → HasUse graph used → IsUnused graph used
  only_unused used use_ = record {
    names = same_by_place used.names (replicate (length graph.rows) []) (use_.each_names ∙ sym (length-replicate {A = List (List ℕ)} (length graph.rows) []))
        (λ k x y e f. none_in x (λ name c. none_used k name ((use_.names k x e name).0 c)) ∙ all_same (length graph.rows) [] y k f);
    whole = same_by_place used.whole (replicate (length graph.rows) false) (use_.each_whole ∙ sym (length-replicate (length graph.rows) false))
        (λ k x y e f. is_false k x e ∙ all_same (length graph.rows) false y k f);
  }
    where
      is_false : (k : ℕ) (b : Bool) → slice_get used.whole k ≡ Some b → b ≡ false
      is_false k false e = refl
      is_false k true e = let w = (use_.whole k).0 e in absurd (none_whole w.0 w.1 w.3)

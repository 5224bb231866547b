-- In a bare graph no module has a name to give.
use Rattle.std.proofs.Common.{◌≡◌, ℕ, ◌<◌, List, [], ◌∷◌, length, map, get_or, Contains, option_map, sym, ap, subst, ◌∙◌, arith, refl}
use Rattle.std.specs.List.{range_with_len}
use Rattle.std.specs.Option.{unwrap_or}
use Rattle.std.proofs.lemmas.List.{length-replicate, get_or-replicate}
use Rattle.std.proofs.lemmas.List.Elements.{All-contains}
use Rattle.std.proofs.lemmas.List.FromFn.{length-range_with_len}
use Rattle.pk_types.specs.declared.graph.Graph.{Graph}
use Rattle.pk_types.specs.GivenNames.{own_names, GivesNames, AreGivenNames}
use Rattle.pk_types.specs.HoistSets.{set_of}
use Rattle.emit_chunk.specs.Bare.{IsBareRow, IsBare}
use Rattle.plan_core.specs.Plans.{AreNoNames}
use Rattle.std.proofs.lemmas.Option.{slice_get_within, get_or_from_slice_get}
use Rattle.pk_types.proofs.ListMembers.{range_of, in_range}
use Rattle.pk_types.proofs.Members.{element_at, Contains-at, same_by_place}
use Rattle.plan_laws.proofs.SingleSets.{one_member}

module _ (graph : Graph) (bare : IsBare graph) (names : List (List (List ℕ))) (none : AreNoNames graph names) where
  no_own : (member : ℕ) → member < length graph.rows → own_names graph member ≡ []
  no_own member within =
      let row = element_at graph.rows member within in
      let is_bare = All-contains IsBareRow graph.rows row.0 bare (Contains-at graph.rows member row.0 row.1) in
      ap (λ found. unwrap_or (option_map (λ row. map (λ binding. binding.name) row.facts.bindings) found) []) row.1 ∙ ap (map (λ binding. binding.name)) is_bare.bindings

  as_own : (member : ℕ) → member < length graph.rows → get_or names member [] ≡ own_names graph member
  as_own member within = ap (λ l. get_or l member []) none ∙ get_or-replicate (length graph.rows) member [] [] within ∙ sym (no_own member within)

  given : (root : ℕ) → root < length graph.rows → GivesNames graph (root ∷ []) (map (λ member. get_or names member []) (root ∷ []))
  given root within = record {
    counts = ap (λ l. length l ∷ []) (as_own root within);
    alone = λ _. ap (λ l. l ∷ []) (as_own root within);
    shared = λ more. absurd (omega (arith, more));
  }

  pub are_given : (roots : List ℕ) (count : ℕ) → count ≡ length graph.rows → roots ≡ range_with_len 0 count → AreGivenNames graph roots names
  are_given roots count each same = record {
    each = ap length none ∙ length-replicate (length graph.rows) [] ∙ sym each ∙ sym (length-range_with_len 0 count) ∙ sym (ap length same);
    sets = λ root c.
        let within : root < count = omega (arith, (range_of 0 count root (subst (λ l. Contains l root) same c)).1) in
        subst (λ set. GivesNames graph set (map (λ member. get_or names member []) set)) (sym (ap (λ l. set_of l root) same ∙ one_member count root within))
        (given root (omega (arith, within, each)));
  }

  -- there are no other names
  pub only_given : (others : List (List (List ℕ))) (roots : List ℕ) (count : ℕ) → count ≡ length graph.rows → roots ≡ range_with_len 0 count → AreGivenNames graph roots others
      → others ≡ names
  only_given others roots count each same right =
      let long : length others ≡ length graph.rows = right.each ∙ ap length same ∙ length-range_with_len 0 count ∙ each in
      same_by_place others names (long ∙ sym (length-replicate {A = List (List ℕ)} (length graph.rows) []) ∙ sym (ap length none))
      (λ k x y e f. let within : k < length graph.rows = omega (arith, slice_get_within others k x e, long) in
      sym (get_or_from_slice_get others k x [] e) ∙ at k within ∙ sym (as_own k within) ∙ get_or_from_slice_get names k y [] f)
    where
      at : (root : ℕ) → root < length graph.rows → get_or others root [] ≡ own_names graph root
      at root within =
          let short : root < count = omega (arith, within, each) in
          let is_root : Contains roots root = subst (λ l. Contains l root) (sym same) (in_range 0 count root (omega arith) (omega (arith, short))) in
          let alone = subst (λ set. GivesNames graph set (map (λ member. get_or others member []) set)) (ap (λ l. set_of l root) same ∙ one_member count root short) (right.sets root is_root) in
          ap (λ l. get_or l 0 []) (alone.alone refl)

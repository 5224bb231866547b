-- Where all that follows is known, all that is reached and used is known.
use Rattle.std.proofs.Common.{◌≡◌, inl, inr, ℕ, List, Contains, Some, slice_get, refl, sym, subst, ◌∙◌}
use Rattle.std.proofs.lemmas.Option.{same_Some}
use Rattle.pk_types.specs.declared.graph.Graph.{Graph}
use Rattle.pk_types.specs.declared.graph.Row.{Row}
use Rattle.pk_types.specs.Reexports.{PassesOn, ExportsSpace}
use Rattle.pk_types.specs.Requests.{NamesAtSite, UsesSpaceAtSite}
use Rattle.pk_types.specs.Stops.{IsStopOf}
use Rattle.pk_types.specs.Use.{IsReached, IsUsed, IsUsedThrough, IsWholeThrough, IsWhole}
use Rattle.export_usage.specs.declared.facts.Fact.{Fact}
use Rattle.export_usage.specs.declared.facts.Fact.TheVariants.{Reached, Exposed, Space, Used}
use Rattle.export_usage.specs.declared.facts.Facts.{Facts}
use Rattle.export_usage.specs.Claims.{Claim, KnowsOf, Knows}
use Rattle.export_usage.specs.Rules.{FollowsReached, FollowsUsed, IsFollowed}
use Rattle.export_usage.proofs.OneName.{one_name}

module _ (graph : Graph) (facts : Facts) (entries : (number : ℕ) → Contains graph.entries number → KnowsOf facts (Reached number))
    (followed : (fact : Fact) → KnowsOf facts fact → IsFollowed graph facts fact) where
  from_reached : (number : ℕ) (row : Row) → slice_get graph.rows number ≡ Some row → KnowsOf facts (Reached number)
      → (claim : Claim) → FollowsReached graph number row claim → Knows facts claim
  from_reached number row at known claim follows =
      let d = followed (Reached number) known in
      d.2 claim (subst (λ w. FollowsReached graph number w claim) (same_Some row d.0 (sym at ∙ d.1)) follows)

  from_used : (number : ℕ) (name : List ℕ) (row : Row) → slice_get graph.rows number ≡ Some row → Knows facts (Claim.is_used number name)
      → (claim : Claim) → FollowsUsed graph number row name claim → Knows facts claim
  from_used number name row at known claim follows =
      let d = followed (Used number known.0) known.2 in
      d.4 claim (subst (λ w. FollowsUsed graph number w d.0 claim) (same_Some row d.1 (sym at ∙ d.3))
      (subst (λ n. FollowsUsed graph number row n claim) (one_name facts.names name d.0 known.0 known.1 d.2) follows))

  stops_known : (number : ℕ) (name : List ℕ) → Knows facts (Claim.is_used number name) → (stop : ℕ) → IsStopOf graph number name stop → KnowsOf facts (Reached stop)
  stops_known number name known stop s =
      let d = followed (Used number known.0) known.2 in
      d.4 (Claim.is_reached stop) (inr (stop, subst (λ n. IsStopOf graph number n stop) (one_name facts.names name d.0 known.0 known.1 d.2) s, refl))

  mutual
    pub reached_known : (number : ℕ) → IsReached graph number → KnowsOf facts (Reached number)
    reached_known _ (IsReached.entry number c) = entries number c
    reached_known _ (IsReached.required number target r c) =
        from_reached number c.0 c.2 (reached_known number r) (Claim.is_reached target) (inl (target, inl c, inl refl))
    reached_known _ (IsReached.imported number target r c) =
        from_reached number c.0 c.2 (reached_known number r) (Claim.is_reached target) (inl (target, inr c, inl refl))
    reached_known _ (IsReached.declared number request target r d f) =
        from_reached number d.0 d.1 (reached_known number r) (Claim.is_reached target) (inr (inl (request, target, d.2, d.3, f, refl)))
    reached_known _ (IsReached.stopped number request target stop name r d u s) =
        stops_known target name (through_known number request name u d.0 target d.1 d.3) stop s
    reached_known _ (IsReached.declared_whole number request target r d w) =
        followed (Space target) (space_known number request w d.0 target d.1 d.3) (Claim.is_reached target) (inl refl)

    pub used_known : (number : ℕ) (name : List ℕ) → IsUsed graph number name → Knows facts (Claim.is_used number name)
    used_known _ _ (IsUsed.by_request number request target name row w at t) = through_known number request name w row target at t
    used_known _ _ (IsUsed.by_require number target name r c x) =
        followed (Exposed target) (from_reached number c.0 c.2 (reached_known number r) (Claim.is_exposed target) (inl (target, inl c, inr refl)))
        (Claim.is_used target name) (name, x, refl)
    used_known _ _ (IsUsed.by_import number target name r c x) =
        followed (Exposed target) (from_reached number c.0 c.2 (reached_known number r) (Claim.is_exposed target) (inl (target, inr c, inr refl)))
        (Claim.is_used target name) (name, x, refl)
    used_known _ _ (IsUsed.by_space number request target name row w at t x) =
        followed (Exposed target) (followed (Space target) (space_known number request w row target at t) (Claim.is_exposed target) (inr refl))
        (Claim.is_used target name) (name, x, refl)

    through_known : (number request : ℕ) (name : List ℕ) → IsUsedThrough graph number request name → (row : Row) (target : ℕ) → slice_get graph.rows number ≡ Some row
        → slice_get row.targets request ≡ Some target → Knows facts (Claim.is_used target name)
    through_known _ _ _ (IsUsedThrough.at_site number request name other r e s) row target at t =
        from_reached number row at (reached_known number r) (Claim.is_used target name)
        (inr (inr (request, target, t, inl (name, subst (λ w. NamesAtSite w request name) (same_Some other row (sym e ∙ at)) s, refl))))
    through_known _ _ _ (IsUsedThrough.passed_on number request exported name other u e p) row target at t =
        from_used number exported row at (used_known number exported u) (Claim.is_used target name)
        (inl (request, target, t, inl (name, subst (λ w. PassesOn graph number w exported request name) (same_Some other row (sym e ∙ at)) p, refl)))

    space_known : (number request : ℕ) → IsWholeThrough graph number request → (row : Row) (target : ℕ) → slice_get graph.rows number ≡ Some row
        → slice_get row.targets request ≡ Some target → KnowsOf facts (Space target)
    space_known _ _ (IsWholeThrough.space_at_site number request other r e s) row target at t =
        from_reached number row at (reached_known number r) (Claim.is_space target)
        (inr (inr (request, target, t, inr (subst (λ w. UsesSpaceAtSite w request) (same_Some other row (sym e ∙ at)) s, refl))))
    space_known _ _ (IsWholeThrough.space_exported number request name other u e x) row target at t =
        from_used number name row at (used_known number name u) (Claim.is_space target)
        (inl (request, target, t, inr (subst (λ w. ExportsSpace w name request) (same_Some other row (sym e ∙ at)) x, refl)))

  pub whole_known : (target : ℕ) → IsWhole graph target → KnowsOf facts (Space target)
  whole_known target w = space_known w.0 w.1 w.3 w.2 target w.4 w.5

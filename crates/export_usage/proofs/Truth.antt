-- What follows from what is true is true.
use Rattle.std.proofs.Common.{◌≡◌, inl, inr, ℕ, ◌<◌, List, length, Some, slice_get, subst}
use Rattle.pk_types.specs.declared.graph.Graph.{Graph}
use Rattle.pk_types.specs.declared.graph.Row.{Row}
use Rattle.pk_types.specs.Fitting.{Fits}
use Rattle.pk_types.specs.Use.{IsReached, IsUsed, IsUsedThrough, IsWholeThrough, IsWhole}
use Rattle.pk_types.proofs.UsedStops.{used_stop_is_reached, space_is_reached}
use Rattle.prune_graph.proofs.EdgeParts.{target_within, stop_within}
use Rattle.export_usage.specs.Claims.{Claim, Holds, IsExposed}
use Rattle.export_usage.specs.Rules.{FollowsCalls, FollowsDeclared, FollowsSites, FollowsPassing, FollowsReached, FollowsUsed, FollowsExposed, FollowsSpace}

module _ (graph : Graph) (fits : Fits graph) where
  module _ (number : ℕ) (row : Row) (at : slice_get graph.rows number ≡ Some row) where
    within : (request target : ℕ) → slice_get row.targets request ≡ Some target → target < length graph.rows
    within request target t = target_within graph fits number row request target at t

    module _ (r : IsReached graph number) where
      calls_true : (claim : Claim) → FollowsCalls graph number claim → Holds graph claim
      calls_true claim (target, inl c, inl e) =
          subst (Holds graph) e (target_within graph fits number c.0 c.1 target c.2 c.4, IsReached.required number target r c)
      calls_true claim (target, inl c, inr e) =
          subst (Holds graph) e (target_within graph fits number c.0 c.1 target c.2 c.4, λ name x. IsUsed.by_require number target name r c x)
      calls_true claim (target, inr c, inl e) =
          subst (Holds graph) e (target_within graph fits number c.0 c.1 target c.2 c.4, IsReached.imported number target r c)
      calls_true claim (target, inr c, inr e) =
          subst (Holds graph) e (target_within graph fits number c.0 c.1 target c.2 c.4, λ name x. IsUsed.by_import number target name r c x)

      declared_true : (claim : Claim) → FollowsDeclared graph row claim → Holds graph claim
      declared_true claim (request, target, c, t, f, e) =
          subst (Holds graph) e (within request target t, IsReached.declared number request target r (row, at, c, t) f)

      sites_true : (claim : Claim) → FollowsSites row claim → Holds graph claim
      sites_true claim (request, target, t, inl (name, s, e)) =
          subst (Holds graph) e (within request target t, IsUsed.by_request number request target name row (IsUsedThrough.at_site number request name row r at s) at t)
      sites_true claim (request, target, t, inr (s, e)) =
          subst (Holds graph) e (within request target t, (number, request, row, IsWholeThrough.space_at_site number request row r at s, at, t))

      pub reached_true : (claim : Claim) → FollowsReached graph number row claim → Holds graph claim
      reached_true claim (inl f) = calls_true claim f
      reached_true claim (inr (inl f)) = declared_true claim f
      reached_true claim (inr (inr f)) = sites_true claim f

    module _ (name : List ℕ) (u : IsUsed graph number name) where
      passing_true : (claim : Claim) → FollowsPassing graph number row name claim → Holds graph claim
      passing_true claim (request, target, t, inl (other, p, e)) =
          subst (Holds graph) e
          (within request target t, IsUsed.by_request number request target other row (IsUsedThrough.passed_on number request name other row u at p) at t)
      passing_true claim (request, target, t, inr (x, e)) =
          subst (Holds graph) e (within request target t, (number, request, row, IsWholeThrough.space_exported number request name row u at x, at, t))

      pub used_true : (claim : Claim) → FollowsUsed graph number row name claim → Holds graph claim
      used_true claim (inl f) = passing_true claim f
      used_true claim (inr (stop, s, e)) =
          subst (Holds graph) e (stop_within graph fits number name stop s, used_stop_is_reached graph fits number name u stop s)

  pub exposed_true : (number : ℕ) → number < length graph.rows → IsExposed graph number → (claim : Claim) → FollowsExposed graph number claim → Holds graph claim
  exposed_true number h exposed claim (name, x, e) = subst (Holds graph) e (h, exposed name x)

  pub space_true : (number : ℕ) → number < length graph.rows → IsWhole graph number → (claim : Claim) → FollowsSpace number claim → Holds graph claim
  space_true number h w claim (inl e) = subst (Holds graph) e (h, space_is_reached graph fits number w)
  space_true number h w claim (inr e) = subst (Holds graph) e (h, λ name x. IsUsed.by_space w.0 w.1 number name w.2 w.3 w.4 w.5 x)

-- The sets of use lie within all sets of which their rules are true.
use Rattle.std.proofs.Common.{◌≡◌, ℕ, Bool, true, List}
use Rattle.pk_types.specs.declared.graph.Graph.{Graph}
use Rattle.pk_types.specs.Use.{IsReached, IsUsed, IsUsedThrough, IsWholeThrough}
use Rattle.graph_laws.specs.ClosedUse.{AreClosed}

module _ (graph : Graph) (reached : ℕ → Bool) (used : ℕ → List ℕ → Bool) (through : ℕ → ℕ → List ℕ → Bool) (whole : ℕ → ℕ → Bool)
    (closed : AreClosed graph reached used through whole) where
  mutual
    pub least_reached : (number : ℕ) → IsReached graph number → reached number ≡ true
    least_reached _ (IsReached.entry number c) = closed.entry number c
    least_reached _ (IsReached.required number target r c) = closed.required number target (least_reached number r) c
    least_reached _ (IsReached.imported number target r c) = closed.imported number target (least_reached number r) c
    least_reached _ (IsReached.declared number request target r d f) = closed.declared number request target (least_reached number r) d f
    least_reached _ (IsReached.stopped number request target stop name r d u s) =
        closed.stopped number request target stop name (least_reached number r) d (least_through number request name u) s
    least_reached _ (IsReached.declared_whole number request target r d w) =
        closed.declared_whole number request target (least_reached number r) d (least_whole number request w)

    pub least_used : (number : ℕ) (name : List ℕ) → IsUsed graph number name → used number name ≡ true
    least_used _ _ (IsUsed.by_request number request target name row w at t) = closed.by_request number request target name (least_through number request name w) (row, at, t)
    least_used _ _ (IsUsed.by_require number target name r c x) = closed.by_require number target name (least_reached number r) c x
    least_used _ _ (IsUsed.by_import number target name r c x) = closed.by_import number target name (least_reached number r) c x
    least_used _ _ (IsUsed.by_space number request target name row w at t x) = closed.by_space number request target name (least_whole number request w) (row, at, t) x

    pub least_through : (number request : ℕ) (name : List ℕ) → IsUsedThrough graph number request name → through number request name ≡ true
    least_through _ _ _ (IsUsedThrough.at_site number request name row r at s) = closed.at_site number request name row (least_reached number r) at s
    least_through _ _ _ (IsUsedThrough.passed_on number request exported name row u at p) =
        closed.passed_on number request exported name row (least_used number exported u) at p

    pub least_whole : (number request : ℕ) → IsWholeThrough graph number request → whole number request ≡ true
    least_whole _ _ (IsWholeThrough.space_at_site number request row r at s) = closed.space_at_site number request row (least_reached number r) at s
    least_whole _ _ (IsWholeThrough.space_exported number request name row u at x) = closed.space_exported number request name row (least_used number name u) at x

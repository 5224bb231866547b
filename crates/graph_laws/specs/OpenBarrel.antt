-- The graph of the skipped barrel once more, but the module that passes the names on may have side effects.
use Rattle.std.specs.Prelude.{ℕ, List, [], ◌∷◌, true, false}
use Rattle.pk_types.specs.declared.graph.Graph.{Graph}
use Rattle.pk_types.specs.declared.graph.Row.{Row}
use Rattle.pk_types.specs.declared.plan.Active.{Active}
use Rattle.graph_laws.specs.SmallUse.{v1, v2, v3, user, barrel, owner}

abbrev pub open_barrel : Row
open_barrel = record barrel { flagged = false }

abbrev pub open_graph : Graph
open_graph = record { rows = user ∷ open_barrel ∷ owner v1 ∷ owner v2 ∷ owner v3 ∷ []; entries = 0 ∷ [] }

-- and the same with owners that may have side effects too
abbrev pub open_owner : List ℕ → Row
open_owner name = record (owner name) { flagged = false }

abbrev pub plain_graph : Graph
plain_graph = record { rows = user ∷ open_barrel ∷ open_owner v1 ∷ open_owner v2 ∷ open_owner v3 ∷ []; entries = 0 ∷ [] }

-- the barrel is an edge of its user, and the one owner whose name is used is an edge of the barrel
abbrev pub open_active : Active
open_active = record { edges = (1 ∷ []) ∷ (3 ∷ []) ∷ [] ∷ [] ∷ [] ∷ []; reached = true ∷ true ∷ false ∷ true ∷ false ∷ [] }

-- each declaration is an edge
abbrev pub plain_active : Active
plain_active = record { edges = (1 ∷ []) ∷ (2 ∷ 3 ∷ 4 ∷ []) ∷ [] ∷ [] ∷ [] ∷ []; reached = true ∷ true ∷ true ∷ true ∷ true ∷ [] }

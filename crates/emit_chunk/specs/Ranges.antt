-- The numbers in a plan are those of the graph's modules and of its own chunks, and each module has a body.
use Rattle.std.specs.Prelude.{◌≡◌, ℕ, ◌<◌, List, length}
use Rattle.std.specs.List.{All}
use Rattle.pk_types.specs.declared.graph.Graph.{Graph}
use Rattle.pk_types.specs.declared.plan.Plan.{Plan}
use Rattle.pk_types.specs.declared.plan.Item.{Item}
use Rattle.pk_types.specs.declared.plan.Item.TheVariants.{Segment, Evaluate}
use Rattle.emit_body.specs.declared.body.Body.{Body}
use Rattle.emit_body.specs.Pieces.{HoldsPieces}

abbrev pub module_of : Item → ℕ
module_of (Segment number) = number
module_of (Evaluate number) = number

abbrev pub AreBelow : ℕ → List ℕ → Type 0
AreBelow count numbers = All (λ number. number < count) numbers

pub record InRange (graph : Graph) (plan : Plan) : Type 0 where
  pub targets : AreBelow (length graph.rows) plan.groups.targets
  pub modules : All (AreBelow (length graph.rows)) plan.chunks.modules
  pub lists : All (AreBelow (length plan.ids.chunks)) plan.chunks.lists
  pub roots : length plan.hoists.root ≡ length graph.rows
  pub scopes : length plan.hoists.items ≡ length graph.rows
  pub items : All (All (λ item. module_of item < length graph.rows)) plan.hoists.items
  pub ids : length plan.ids.modules ≡ length graph.rows

-- one body for each module, and its pieces lie in its text
pub record HaveBodies (graph : Graph) (bodies : List Body) : Type 0 where
  pub each : length bodies ≡ length graph.rows
  pub pieces : All HoldsPieces bodies

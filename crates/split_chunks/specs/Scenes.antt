-- What is known of the modules before a pick. Only private clauses cite this.
use Rattle.std.specs.Prelude.{◌≡◌, ℕ, Bool, false, List, length, slice_index_or}
use Rattle.pk_types.specs.declared.graph.Graph.{Graph}
use Rattle.pk_types.specs.SplitStates.{SplitState}
use Rattle.pk_types.specs.SplitCandidates.{is_split}
use Rattle.split_chunks.specs.declared.state.State.{State}
use Rattle.split_chunks.specs.declared.scene.Scene.{Scene}
use Rattle.split_chunks.specs.States.{state_of, IsSound}
use Rattle.split_chunks.specs.Homes.{AreHomes}

-- for each of so many modules whether it stands in a split chunk
pub record AreSplit (state : SplitState) (count : ℕ) (marks : List Bool) : Type 0 where
  pub each : length marks ≡ count
  pub flags : (member : ℕ) → slice_index_or marks member false ≡ is_split state member

-- the scene of a graph and a state
pub record IsScene (graph : Graph) (state : State) (scene : Scene) : Type 0 where
  pub of_graph : scene.graph.now ≡ graph
  pub of_state : scene.state.now ≡ state
  pub sound : IsSound (length graph.rows) (state_of state)
  pub homes : AreHomes state.modules.items (length graph.rows) scene.homes.items
  pub split : AreSplit (state_of state) (length graph.rows) scene.split.items

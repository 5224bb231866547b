-- A graph that can be planned.
use Rattle.std.specs.Prelude.{◌≡◌, length}
use Rattle.pk_types.specs.declared.graph.Graph.{Graph}
use Rattle.pk_types.specs.Fitting.{Fits}
use Rattle.emit_chunk.specs.Bare.{IsBare}

pub record IsReady (graph : Graph) : Type 0 where
  pub fits : Fits graph
  pub entry : length graph.entries ≡ 1
  pub bare : IsBare graph

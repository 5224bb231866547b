use Rattle.std.proofs.Common.{nat_eq, length, ap, ◌∙◌, arith}
use Rattle.std.specs.List.{list_any}
use Rattle.std.proofs.lemmas.List.FromFn.{length-map-range_with_len}
use Rattle.plan_core.proofs.planning.active.Goals as goal

pub active_edges-edges-requires : goal.active_edges-edges-requires
active_edges-edges-requires c =
    omega (arith, c.args.edges.ok.0, c.len.ensures, ap length (c.as_slice.ensures.value ∙ c.in_ok-reached.ensures), length-map-range_with_len (λ number. list_any (nat_eq number) c.args.placed.now.keys) 0 c.len.result)

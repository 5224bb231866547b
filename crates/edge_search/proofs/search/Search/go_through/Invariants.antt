-- what was met, and what is left
use Rattle.std.proofs.Common.{◌≡◌, nat_eq, drop, [], get_or}
use Rattle.indexmap.specs.IndexSet.{insert_all}
use Rattle.edge_search.proofs.search.Search.go_through.Given as goal

abbrev pub invariant-loop-place : goal.invariant-loop-place
invariant-loop-place g l = insert_all nat_eq l.self (drop l.place (get_or (g.E.Edges.edges l.edges) l.node []))
    ≡ insert_all nat_eq l.initial.self (get_or (g.E.Edges.edges l.edges) l.node [])

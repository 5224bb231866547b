use Rattle.std.proofs.Common.{◌≡◌, ◌+◌, ◌-◌}
use Rattle.es_trace.specs.Loops.{repeat}
use Rattle.es_trace.specs.Targets.{opened, paren_turn, trace_paren_target}
use Rattle.es_trace.specs.Tying.{tracers_to}
use Rattle.es_cursor.specs.Standing.{Stands}
use Rattle.es_targets.proofs.Closing.{closed}
use Rattle.es_targets.proofs.parens.trace_paren_target.Given as goal

abbrev pub invariant-loop-turn : goal.invariant-loop-turn
invariant-loop-turn g l = (l.cursor ≡ l.fn.cursor) × (l.outline.kept ≡ l.fn.outline.kept) × Stands l.cursor l.place
    × (trace_paren_target l.fn.cursor (tracers_to l.fn.cursor l.fn.knot.nest) l.fn.c l.fn.outline.marks l.fn.left
    ≡ closed l.cursor (repeat (paren_turn l.cursor (tracers_to l.cursor l.fn.knot.nest) l.fn.c) (l.turn-end - l.turn) l.outline.marks
    (opened l.place (l.turn + 1))))

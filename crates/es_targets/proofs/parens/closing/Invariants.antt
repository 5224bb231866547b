use Rattle.std.proofs.Common.{◌≡◌, ◌-◌}
use Rattle.es_trace.specs.Targets.{closing}
use Rattle.es_cursor.specs.Standing.{Stands}
use Rattle.es_targets.proofs.parens.closing.Given as goal

abbrev pub invariant-loop-turn : goal.invariant-loop-turn
invariant-loop-turn l = (l.cursor ≡ l.fn.cursor) × (l.outline.kept ≡ l.fn.outline.kept) × Stands l.cursor l.place
    × (closing l.fn.cursor l.fn.count l.fn.outline.marks l.fn.at ≡ closing l.cursor (l.fn.count - l._turn) l.outline.marks l.place)

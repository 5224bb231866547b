use Rattle.std.proofs.Common.{◌≡◌, ℕ, ◌+◌, ◌-◌, ◌≤◌, length}
use Rattle.es_trace.specs.Loops.{Turning, repeat}
use Rattle.es_nest.specs.Turns.{GivesTurns}
use Rattle.es_nest.proofs.turns.all_turns.Given as goal

abbrev pub invariant-loop-turn : goal.invariant-loop-turn
invariant-loop-turn g l = (l.cursor ≡ l.fn.cursor) × (l.outline.kept ≡ l.fn.outline.kept) × (g.S.Placed.place l.state ≤ length l.cursor)
    × ((turn : Turning _) → GivesTurns (goal.F-post g l.turn) l.fn.cursor turn
    → repeat turn (length l.fn.cursor + 1) l.fn.outline.marks l.fn.first
    ≡ repeat turn (l._turn-end - l._turn) l.outline.marks l.state)

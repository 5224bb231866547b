use Rattle.module_body.proofs.Going.{IsGone}
use Rattle.module_body.proofs.writing.body_of.Given as goal

abbrev pub invariant-loop-place : goal.invariant-loop-place
invariant-loop-place l = IsGone l.outlined l.changes l.place l.before l.draft

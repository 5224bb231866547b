use Rattle.std.proofs.Common.{subst}
use Rattle.es_facts.specs.Errors.{IsFirstError}
use Rattle.es_refusals.specs.First.{IsFirst}
use Rattle.es_facts.proofs.Judging.{is_early, is_refused}
use Rattle.es_facts.proofs.gathering.judge.Goals as goal

pub returns-in-Some : goal.returns-in-Some
returns-in-Some c =
    is_early c.args.outlined.now c.in-Some.place c.start_of.result c.in-Some.error c.in_ok-name.name
    (subst (IsFirstError c.args.outlined.now) c.in-Some.is c.early_error.ensures) c.in_ok-name.ensures c.start_of.ensures

pub returns-in-Some-2 : goal.returns-in-Some-2
returns-in-Some-2 c =
    is_refused c.args.outlined.now c.in-Some-2.place c.start_of-in-Some-2.result c.in-Some-2.refusal
    (subst (IsFirstError c.args.outlined.now) c.in_default.is c.early_error.ensures)
    (subst (IsFirst c.args.outlined.now) c.in-Some-2.is c.in_ok-place.ensures) c.start_of-in-Some-2.ensures

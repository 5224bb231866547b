use Rattle.std.proofs.Common.{Some, refl, sym, ◌∙◌, true≢false}
use Rattle.module_at_path.specs.Files.{file}
use Rattle.module_at_path.proofs.Files.{first_unknown, unknown_always, not_utf8_always, waits}
use Rattle.module_at_path.proofs.module.fault_of_text.Goals as goal

pub returns-in_default-clause-fault : goal.returns-in_default-clause-fault
returns-in_default-clause-fault c scope =
    first_unknown (file c.args.path.now (Some c.args.bytes.now) scope) c.args.bytes.now refl
    (unknown_always c.args.path.now scope (sym c.name_kind.ensures ∙ c.in_default.is))

pub returns-then-lacks_utf8-clause-fault : goal.returns-then-lacks_utf8-clause-fault
returns-then-lacks_utf8-clause-fault c scope =
    not_utf8_always c.args.path.now c.args.bytes.now c.in-Some.named (sym c.name_kind.ensures ∙ c.in-Some.is) scope (c.lacks_utf8.ensures.yes c.if-lacks_utf8.true)

pub returns-clause-none : goal.returns-clause-none
returns-clause-none c none scope place fault stands =
    waits c.args.path.now c.args.bytes.now c.in-Some.named (sym c.name_kind.ensures ∙ c.in-Some.is) scope
    (c.lacks_utf8.ensures.no (λ yes. true≢false (sym yes ∙ c.if-lacks_utf8.false))) place fault stands

use Rattle.std.proofs.Common.{Some, inr, refl, sym, ap, ◌∙◌}
use Rattle.module_at_path.specs.Files.{file, name_kind, says_module}
use Rattle.module_at_path.proofs.Files.{first_unknown, no_steps, bad_answer, good_answer}
use Rattle.module_at_path.proofs.module.module_at.Goals as goal

pub returns-in_default-clause-answer : goal.returns-in_default-clause-answer
returns-in_default-clause-answer g c =
    inr (first_unknown (file c.args.path.now (Some c.args.bytes.now) c.args.scope.now) c.args.bytes.now refl
    (sym (c.name_kind.ensures ∙ ap (λ is_module. name_kind is_module c.args.path.now) c.says_module.ensures) ∙ c.in_default.is))

pub returns-in_err-bad_scope-clause-steps : goal.returns-in_err-bad_scope-clause-steps
returns-in_err-bad_scope-clause-steps g c =
    no_steps (name_kind (says_module c.args.scope.now) c.args.path.now) c.args.bytes.now c.args.scope.now c.args.steps.now c.in_err-bad_scope.ensures.err

pub returns-in-Some-2-clause-answer : goal.returns-in-Some-2-clause-answer
returns-in-Some-2-clause-answer g c =
    bad_answer (file c.args.path.now (Some c.args.bytes.now) c.args.scope.now) c.args.bytes.now refl c.in-Some.named
    (sym (c.name_kind.ensures ∙ ap (λ is_module. name_kind is_module c.args.path.now) c.says_module.ensures) ∙ c.in-Some.is)
    c.in-Some-2.bad_scope c.fault_by_manifest.result (sym c.in_ok-bad_scope.ensures.fault ∙ c.in-Some-2.is) c.fault_by_manifest.ensures

pub returns-in-None-clause-answer : goal.returns-in-None-clause-answer
returns-in-None-clause-answer g c =
    good_answer (file c.args.path.now (Some c.args.bytes.now) c.args.scope.now) c.args.bytes.now refl c.in-Some.named
    (sym (c.name_kind.ensures ∙ ap (λ is_module. name_kind is_module c.args.path.now) c.says_module.ensures) ∙ c.in-Some.is)
    (sym c.in_ok-bad_scope.ensures.fault ∙ c.in-None.is) c.facts_of.result c.facts_of.ensures.answer

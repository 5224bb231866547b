use Rattle.std.proofs.Common.{sym, ap, subst, ◌∙◌, arith}
use Rattle.bare_modules.specs.Meaning.{ReadsModule}
use Rattle.bare_modules.specs.Scanning.{step_of, done, finished}
use Rattle.bare_modules.proofs.Reading.{SameModules, begins, goes_on, ends, ends_badly, steps_badly, reads_badly, stands_badly, keeps_order, answers}
use Rattle.bare_modules.specs.declared.steps.Place.TheVariants.{Between}
use Rattle.bare_modules.proofs.Scans.{ended}
use Rattle.bare_modules.proofs.read.read_module.Goals as goal

pub tokens-init : goal.tokens-init
tokens-init c = record {
  inside = omega arith;
  ordered = λ end e. let f = ap (λ d. d.end) c.in_ok-draft.ensures in absurd cc;
  same = subst (λ d. SameModules c.args.text.now 0 Between d) (sym c.in_ok-draft.ensures) (begins c.args.text.now);
}

pub returns-in_default : goal.returns-in_default
returns-in_default c = reads_badly c.args.text.now c.tokens.at c.in_default.field-0 c.tokens.place c.tokens.draft c.tokens.invariant.same (sym c.next_token.ensures.exact ∙ c.in_default.is)

pub returns-then-not-are_blank : goal.returns-then-not-are_blank
returns-then-not-are_blank c =
    stands_badly c.args.text.now c.tokens.at c.in-Ok.token c.tokens.place c.tokens.draft c.tokens.invariant.same (sym c.next_token.ensures.exact ∙ c.in-Ok.is) (sym c.are_blank.ensures ∙ c.if-not-are_blank.true)

pub returns-in-Between : goal.returns-in-Between
returns-in-Between c =
    let said = ends c.args.text.now c.tokens.at c.in-Ok.token c.tokens.place c.tokens.draft c.tokens.invariant.same (sym c.next_token.ensures.exact ∙ c.in-Ok.is)
    (sym c.are_blank.ensures ∙ c.if-not-are_blank.false) c.in-End.is in
    answers c.args.text.now c.finish.result (finished c.tokens.draft) c.finish.ensures (subst (λ p. ReadsModule c.args.text.now (ended p c.tokens.draft)) c.in-Between.is said)

pub returns-in_default-place : goal.returns-in_default-place
returns-in_default-place c =
    ends_badly c.args.text.now c.tokens.at c.in-Ok.token c.tokens.place c.tokens.draft c.tokens.invariant.same (sym c.next_token.ensures.exact ∙ c.in-Ok.is)
    (sym c.are_blank.ensures ∙ c.if-not-are_blank.false) c.in-End.is c.in_default-place.not-Between

pub returns-in_default-step : goal.returns-in_default-step
returns-in_default-step c =
    steps_badly c.args.text.now c.tokens.at c.in-Ok.token c.tokens.place c.tokens.draft c.tokens.invariant.same (sym c.next_token.ensures.exact ∙ c.in-Ok.is)
    (sym c.are_blank.ensures ∙ c.if-not-are_blank.false) c.in_default-kind.not-End (ap (λ p. step_of c.tokens.place p) (sym c.part_of-part.ensures) ∙ sym c.step.ensures ∙ c.in_default-step.is)

pub tokens-preserved : goal.tokens-preserved
tokens-preserved c =
    let lies = c.in-Ok.ensures.placed in
    record {
      inside = lies.inside;
      ordered = keeps_order c.args.text.now c.in-Some.deed c.tokens.draft c.take.new.self c.part_of-part.result c.in-Ok.token c.tokens.at c.tokens.invariant.ordered (omega arith) c.in_ok-take.ensures;
      same = goes_on c.args.text.now c.tokens.at c.in-Ok.token c.tokens.place c.in-Some.next c.in-Some.deed c.tokens.draft c.take.new.self c.tokens.invariant.same (sym c.next_token.ensures.exact ∙ c.in-Ok.is)
          (sym c.are_blank.ensures ∙ c.if-not-are_blank.false) c.in_default-kind.not-End (ap (λ p. step_of c.tokens.place p) (sym c.part_of-part.ensures) ∙ sym c.step.ensures ∙ c.in-Some.is)
          (c.in_ok-take.ensures ∙ ap (λ p. done c.args.text.now c.in-Some.deed c.tokens.draft p c.in-Ok.token) c.part_of-part.ensures);
    }

use Rattle.std.proofs.Common.{[], ◌∷◌, reverse, sym, subst, ◌∙◌}
use Rattle.std.proofs.lemmas.Result.{IfOk-weaker}
use Rattle.es_scope.specs.Noting.{Notes, Takes}
use Rattle.es_scope.proofs.Noting.{claim, HasVar, has_var, told_not}
use Rattle.es_scope.proofs.Through.{Going, kept, with_last, with_none, last_is, starts, goes_on, goes_past, clashes_there, is_past, ends_below, ends_at_top, ends_again}
use Rattle.es_scope.proofs.twice.Noted.through.Goals.{else-ne-via-then-ne+in_ok-var+else-branch, else-ne-via-else-ne}
use Rattle.es_scope.proofs.twice.Noted.through.Goals.{then-own-gt0-via-then-own-gt0, then-own-gt0-via-else-own-gt0+then-eq}
use Rattle.es_scope.proofs.twice.Noted.through.Goals as goal

pub loop-frame-init : goal.loop-frame-init
loop-frame-init c = record {
  going = starts c.args.number c.args.own c.args.self.now c.args.parts.now (reverse c.frames-frames.result.now) c.requires c.frames-frames.ensures;
  last = tt;
}

pub returns-then-scope-own : goal.returns-then-scope-own
returns-then-scope-own c =
    let going = with_last c.loop-frame.frames.now c.in-Some.outer.now c.in-Some.frame.now c.in-Some.ensures.cases.0 c.loop-frame.invariant.going in
    is_past going c.if-scope-own.true

pub returns-then-branch : goal.returns-then-branch
returns-then-branch c =
    let going = with_last c.loop-frame.frames.now c.in-Some.outer.now c.in-Some.frame.now c.in-Some.ensures.cases.0 c.loop-frame.invariant.going in
    clashes_there going c.var.new.self c.if-scope-own.false
    (subst (Takes c.loop-frame.self (claim c.args.number [] (c.in-Some.frame.now.scope ∷ [])) c.var.new.self) c.if-branch.true c.in_ok-var.ensures)

pub loop-frame-preserved : goal.loop-frame-preserved
loop-frame-preserved c =
    let scope = c.in-Some.frame.now.scope in
    let going = with_last c.loop-frame.frames.now c.in-Some.outer.now c.in-Some.frame.now c.in-Some.ensures.cases.0 c.loop-frame.invariant.going in
    elim c.else-ne.branch [
      | else-ne-via-then-ne+in_ok-var+else-branch w ↦
          let taken = subst (Takes c.loop-frame.self (claim c.args.number [] (scope ∷ [])) w.var.new.self) w.if-branch.false w.in_ok-var.ensures in
          record {
            going = subst (λ (notes : Notes). Going c.args.number c.args.own c.args.self.now c.args.parts.now notes (reverse c.in-Some.outer.now)) (sym w.self-is)
                (goes_on going w.var.new.self c.if-scope-own.false taken);
            last = subst (λ (notes : Notes). HasVar notes scope c.args.number) (sym w.self-is) (has_var c.loop-frame.self w.var.new.self scope c.args.number taken);
          }
      | else-ne-via-else-ne w ↦
          let had = last_is c.loop-frame.last scope (λ other. HasVar c.loop-frame.self other c.args.number) (told_not _ (sym c.ne.ensures ∙ w.if-ne.false)) c.loop-frame.invariant.last in
          record {
            going = subst (λ (notes : Notes). Going c.args.number c.args.own c.args.self.now c.args.parts.now notes (reverse c.in-Some.outer.now)) (sym w.self-is)
                (goes_past going c.if-scope-own.false had);
            last = subst (λ (notes : Notes). HasVar notes scope c.args.number) (sym w.self-is) had;
          }
    ]

pub returns-then-own-gt0 : goal.returns-then-own-gt0
returns-then-own-gt0 c =
    let going = with_none c.loop-frame.frames.now c.in_default.ensures.cases c.loop-frame.invariant.going in
    elim c.then-own-gt0.branch [
      | then-own-gt0-via-then-own-gt0 w ↦ ends_below going w.if-own-gt0.true
      | then-own-gt0-via-else-own-gt0+then-eq w ↦
          ends_again going (last_is c.loop-frame.last 0 (λ other. HasVar c.loop-frame.self other c.args.number) (sym w.eq.ensures ∙ w.if-eq.true) c.loop-frame.invariant.last)
    ]

pub returns : goal.returns
returns c =
    let going = with_none c.loop-frame.frames.now c.in_default.ensures.cases c.loop-frame.invariant.going in
    IfOk-weaker c.var-2.result (Takes c.loop-frame.self (claim c.args.number [] (0 ∷ [])) c.var-2.new.self)
    (Takes c.args.self.now (claim c.args.number [] (kept c.args.own c.args.parts.now)) c.var-2.new.self)
    (λ clashes taken. ends_at_top going c.var-2.new.self clashes c.if-own-gt0.false taken) c.var-2.ensures

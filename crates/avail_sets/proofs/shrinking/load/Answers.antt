use Rattle.std.proofs.Common.{◌≡◌, ◌↔◌, ◌⊎◌, true, take, get_or, sym, subst, ◌∙◌, arith}
use Rattle.std.proofs.lemmas.List.{take_more}
use Rattle.std.specs.List.{Contains}
use Rattle.avail_sets.specs.Words.{flag_in}
use Rattle.avail_sets.proofs.Flags.{set_more}
use Rattle.avail_sets.proofs.shrinking.load.Goals as goal

pub set-requires : goal.set-requires
set-requires c =
    omega (arith, c.requires.modules c.loop-number.number-index 0 c.loop-number-test.true, c.loop-number.invariant.long)

pub loop-number-preserved : goal.loop-number-preserved
loop-number-preserved c =
    let numbers = c.args.modules.now in
    let place = c.loop-number.number-index in
    record {
      long = c.set.ensures.long ∙ c.loop-number.invariant.long;
      flags = λ k. subst (λ l. (flag_in c.set.new.self k ≡ true) ↔ ((flag_in c.args.row.now k ≡ true) ⊎ Contains l k)) (sym (take_more numbers place 0 c.loop-number-test.true))
          (set_more c.args.row.now c.loop-number.have c.set.new.self (take place numbers) (get_or numbers place 0) c.loop-number.invariant.flags c.set.ensures.flags k);
    }

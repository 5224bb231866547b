use Rattle.std.proofs.Common.{ℕ, List, length, take_all, ap, ◌∙◌, arith}
use Rattle.std.specs.List.{list_any}
use Rattle.pk_types.specs.Numbers.{has}
use Rattle.id_assign.proofs.Marking.{all_placed}
use Rattle.id_assign.proofs.placed.placed.Goals as goal

pub returns : goal.returns
returns c =
    let all = take_all c.loop-modules.modules-index c.args.chunks.now.modules (omega (arith, ap length c.as_slice-modules-items.ensures, c.loop-modules-test.false)) in
    all_placed c.loop-modules.flags.items c.args.chunks.now c.args.count c.loop-modules.invariant.0
    (λ member short. c.loop-modules.invariant.1 member short ∙ ap (λ (lists : List (List ℕ)). list_any (λ modules. has modules member) lists) all)

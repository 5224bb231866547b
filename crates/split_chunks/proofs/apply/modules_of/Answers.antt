use Rattle.std.proofs.Common.{◌<◌, [], length, sym, subst, ◌∙◌, arith}
use Rattle.std.specs.List.{All}
use Rattle.std.proofs.lemmas.List.{get_or_default}
use Rattle.split_chunks.specs.States.{state_of}
use Rattle.split_chunks.proofs.Standing.{members_below}
use Rattle.split_chunks.proofs.apply.modules_of.Goals as goal

pub unmoved-requires : goal.unmoved-requires
unmoved-requires c =
    let modules = c.args.state.now.modules.items in
    let chunk = c.args.chunk in
    let low : chunk < length modules = omega (arith, c.requires.inside, c.requires.turn.long, c.requires.turn.below, c.if-chunk-turn.false) in
    subst (All (λ member. member < length c.args.moved.now)) (sym (c.as_slice-modules.ensures ∙ c.index.ensures ∙ get_or_default modules chunk c.index.result.now [] low))
    (members_below (length c.args.moved.now) (state_of c.args.state.now) c.requires.sound chunk)

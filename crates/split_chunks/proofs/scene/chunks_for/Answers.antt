use Rattle.std.proofs.Common.{◌<◌, [], length, ◌∙◌, arith}
use Rattle.std.proofs.lemmas.List.{get_or_default}
use Rattle.split_chunks.specs.States.{state_of}
use Rattle.split_chunks.proofs.Standing.{chunks_are}
use Rattle.split_chunks.proofs.scene.chunks_for.Goals as goal

pub returns : goal.returns
returns c =
    let state = state_of c.args.scene.now.state.now in
    let homes = c.args.scene.now.homes.items in
    let member = c.args.member in
    let inside : member < length homes = omega (arith, c.requires.inside, c.requires.scene.homes.each) in
    c.from_vec.ensures ∙ c.in_ok-chunks.ensures ∙ chunks_are state c.args.cache.now member c.as_slice.result.now
    (c.as_slice.ensures ∙ c.index.ensures ∙ get_or_default homes member c.index.result.now [] inside ∙ c.requires.scene.homes.chunks member)

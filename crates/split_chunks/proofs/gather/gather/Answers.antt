use Rattle.std.proofs.Common.{◌≡◌, ◌+◌, ◌<◌, true≢false, length, nat_lt, sym, ap, subst, ◌∙◌}
use Rattle.std.proofs.lemmas.Bool.{ltb-true, lt-ltb}
use Rattle.pk_types.specs.SplitCandidates.{is_movable, chunks_with}
use Rattle.split_chunks.specs.States.{state_of}
use Rattle.split_chunks.specs.declared.gather.Gathered.{Gathered}
use Rattle.split_chunks.specs.Gathering.{GainsMember, AreGathered}
use Rattle.split_chunks.proofs.Gathers.{gathered_add, gathered_skip}
use Rattle.split_chunks.proofs.gather.gather.Goals.{then-may_move+in_ok-chunks+then-is_filled+in_ok-add, then-may_move+in_ok-chunks+else-is_filled, else-may_move}
use Rattle.split_chunks.proofs.gather.gather.Goals as goal

pub loop-member-preserved : goal.loop-member-preserved
loop-member-preserved c =
    let state = state_of c.args.scene.now.state.now in
    let cache = c.args.cache.now in
    let test = is_movable c.args.scene.now.graph.now state cache in
    let chunks = chunks_with state cache in
    let count = c.loop-member.member in
    let old = c.loop-member.gathered in
    let so_far = c.loop-member.invariant in
    let Is : Gathered → Type 0 = λ g. AreGathered test chunks (count + 1) g.sets.keys g.members.items in
    elim c.if-may_move.branch [
      | then-may_move+in_ok-chunks+then-is_filled+in_ok-add w ↦
          let set : w.in_ok-chunks.chunks ≡ chunks count = w.in_ok-chunks.ensures in
          let filled = ltb-true 0 (length w.in_ok-chunks.chunks) (sym w.is_filled.ensures ∙ w.if-is_filled.true) in
          subst Is (sym w.gathered-is) (gathered_add test chunks count old.sets.keys old.members.items _ _ so_far (sym c.may_move.ensures ∙ w.if-may_move.true)
          (subst (λ l. 0 < length l) set filled)
          (subst (λ l. GainsMember old.sets.keys old.members.items l count w.add.new.gathered.sets.keys w.add.new.gathered.members.items) set w.in_ok-add.ensures))
      | then-may_move+in_ok-chunks+else-is_filled w ↦
          subst Is (sym w.gathered-is) (gathered_skip test chunks count old.sets.keys old.members.items so_far (λ passes filled.
          true≢false (sym (ap (λ l. nat_lt 0 (length l)) w.in_ok-chunks.ensures ∙ lt-ltb 0 (length (chunks count)) filled) ∙ sym w.is_filled.ensures ∙ w.if-is_filled.false)))
      | else-may_move w ↦
          subst Is (sym w.gathered-is) (gathered_skip test chunks count old.sets.keys old.members.items so_far (λ passes filled. true≢false (sym passes ∙ sym c.may_move.ensures ∙ w.if-may_move.false)))
    ]

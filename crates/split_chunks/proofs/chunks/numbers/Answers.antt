use Rattle.std.proofs.Common.{◌≡◌, ℕ, ◌+◌, ◌&&◌, cond, length, get_or, nat_le, sym, ap, ◌∙◌, arith}
use Rattle.std.proofs.lemmas.List.{length_push}
use Rattle.pk_types.specs.SplitStates.{is_there}
use Rattle.pk_types.specs.Splitting.{chunk_number}
use Rattle.split_chunks.specs.States.{state_of}
use Rattle.split_chunks.proofs.Numbered.{number_more, numbers_push, one_at_most}
use Rattle.split_chunks.proofs.chunks.numbers.Goals as goal

pub loop-chunk-preserved : goal.loop-chunk-preserved
loop-chunk-preserved c =
    let state = state_of c.args.state.now in
    let chunk = c.loop-chunk.chunk in
    let numbers = c.loop-chunk.numbers.items in
    let next = c.loop-chunk.next in
    let so_far = c.loop-chunk.invariant in
    let step = cond {A = ℕ} (nat_le state.entries chunk && is_there state chunk) 1 0 in
    let following : c.following-next.result ≡ next + step = c.following-next.ensures in
    let most = one_at_most (nat_le state.entries chunk && is_there state chunk) in
    record {
      each = ap length c.in_ok-push.ensures.items ∙ length_push numbers next ∙ ap (λ n. n + 1) so_far.each;
      next = following ∙ ap (λ n. n + step) so_far.next ∙ sym (number_more state chunk);
      low = omega (arith, following, most, so_far.low);
      counts = λ k h. ap (λ l. get_or l k 0) c.in_ok-push.ensures.items ∙ numbers_push numbers (chunk_number state) next chunk so_far.each so_far.next so_far.counts k h;
    }

use Rattle.std.proofs.Common.{◌≡◌, ◌<◌, ◌≤◌, ◌&&◌, bit_and, length, get_or, sum_by, sym, ap, subst, ◌∙◌, arith}
use Rattle.std.proofs.lemmas.List.{get_or_default}
use Rattle.std.proofs.Math.ListN.{set}
use Rattle.std.proofs.lemmas.List.{length-set}
use Rattle.avail_sets.specs.Words.{flag_in}
use Rattle.avail_sets.proofs.Flags.{flags_common, all_words, not_more, written, still_left, less, unwritten}
use Rattle.std.proofs.lemmas.Bool.{true≢false}
use Rattle.avail_sets.proofs.row.Row.keep_common.Goals.{then-kept-index, else-kept-index}
use Rattle.avail_sets.proofs.row.Row.keep_common.Goals as goal

pub loop-place-preserved : goal.loop-place-preserved
loop-place-preserved c =
    let old = c.self.inside.words.items in
    let others = c.args.other.now in
    let now = c.loop-place.self-inside.words.items in
    let place = c.loop-place.place in
    let inv = c.loop-place.invariant in
    let hp : place < length old =
    omega (arith, c.loop-place-test.true, c.requires, ap length c.self.view_is, ap length (c.deref-word-items.ensures.value ∙ c.other.view_is)) in
    let within : place < length now = omega (arith, hp, inv.long) in
    let word : c.index.result.now ≡ get_or now place 0 = c.index.ensures ∙ get_or_default now place c.index.result.now 0 within in
    let again : c.index-in-loop-place.result.now ≡ get_or now place 0 =
    c.index-in-loop-place.ensures ∙ get_or_default now place c.index-in-loop-place.result.now 0 within in
    let kept = ap (λ w. bit_and w (get_or c.deref-word-items.result.now place 0)) word
    ∙ ap (λ l. bit_and (get_or now place 0) (get_or l place 0)) (c.deref-word-items.ensures.value ∙ c.other.view_is) in
    elim c.if-kept-index.branch [
      | then-kept-index w ↦
          let items : c.if-kept-index.self-inside.words.items ≡ set now place (bit_and (get_or now place 0) (get_or others place 0)) =
          ap (λ s. s.words.items) w.self-inside-is ∙ ap (set now place) kept in
          record {
            long = ap length items ∙ length-set now place (bit_and (get_or now place 0) (get_or others place 0)) ∙ inv.long;
            done = λ k h. ap (λ l. get_or l k 0) items ∙ written old others now place hp inv.long inv.done inv.left k h;
            left = λ k h. ap (λ l. get_or l k 0) items ∙ still_left old others now place hp inv.long inv.done inv.left k h;
            same = λ e. absurd (true≢false (sym w.went-is ∙ e));
            fewer = λ e.
                let one = less old others now place hp inv.long inv.done inv.left (λ f. w.if-kept-index.true (kept ∙ f ∙ sym again)) in
                let all = not_more old now c.loop-place.went inv.same inv.fewer in
                omega (arith, one, all, ap (sum_by (λ word. word)) items);
          }
      | else-kept-index w ↦
          let items : c.if-kept-index.self-inside.words.items ≡ now = ap (λ s. s.words.items) w.self-inside-is in
          record {
            long = ap length items ∙ inv.long;
            done = λ k h. ap (λ l. get_or l k 0) items ∙ unwritten old others now place hp inv.long inv.done inv.left (sym kept ∙ w.if-kept-index.false ∙ again) k h;
            left = λ k h. ap (λ l. get_or l k 0) items ∙ inv.left k (omega (arith, h));
            same = λ e. items ∙ inv.same (sym w.went-is ∙ e);
            fewer = λ e. let less_now = inv.fewer (sym w.went-is ∙ e) in omega (arith, less_now, ap (sum_by (λ word. word)) items);
          }
    ]

pub returns-clause-flags : goal.returns-clause-flags
returns-clause-flags c number =
    let old = c.self.inside.words.items in
    let others = c.args.other.now in
    let now = c.loop-place.self-inside.words.items in
    let long = c.loop-place.invariant.long in
    let end : length old ≤ c.loop-place.place =
    omega (arith, c.loop-place-test.false, ap length c.self.view_is, ap length (c.deref-word-items.ensures.value ∙ c.other.view_is), c.requires) in
    subst (λ r. flag_in now number ≡ (flag_in r number && flag_in others number)) c.self.view_is
    (flags_common old others now (all_words old others now long (λ k h. c.loop-place.invariant.done k (omega arith))) number)

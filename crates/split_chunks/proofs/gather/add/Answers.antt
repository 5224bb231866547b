use Rattle.std.proofs.Common.{◌≡◌, ◌<◌, [], ◌∷◌, ◌++◌, length, get_or, Some, slice_get, sym, ap, subst, ◌∙◌}
use Rattle.std.proofs.Math.ListN.{set}
use Rattle.std.specs.List.{IsDistinct}
use Rattle.std.specs.Str.{bytes_eq}
use Rattle.std.proofs.lemmas.List.{get_or_default}
use Rattle.split_chunks.proofs.Gathers.{with_room, room_fits, gains_member}
use Rattle.split_chunks.proofs.gather.add.Goals.{then-is_new+in_ok-push, else-is_new}
use Rattle.split_chunks.proofs.gather.add.Goals as goal

pub returns : goal.returns
returns c =
    let old = c.args.gathered.now in
    let place = c.in_ok-place.place in
    let is_new = c.in_ok-place.is_new in
    let now = c.if-is_new.gathered in
    let sets : now.sets.keys ≡ c.insert_full.new.self.keys = elim c.if-is_new.branch [
      | then-is_new+in_ok-push w ↦ ap (λ g. g.sets.keys) w.gathered-is
      | else-is_new w ↦ ap (λ g. g.sets.keys) w.gathered-is
    ] in
    let room : now.members.items ≡ with_room is_new old.members.items = elim c.if-is_new.branch [
      | then-is_new+in_ok-push w ↦ ap (λ g. g.members.items) w.gathered-is ∙ w.in_ok-push.ensures.items ∙ ap (λ l. old.members.items ++ l ∷ []) w.new.ensures ∙ ap (λ b. with_room b old.members.items) (sym w.if-is_new.true)
      | else-is_new w ↦ ap (λ g. g.members.items) w.gathered-is ∙ ap (λ b. with_room b old.members.items) (sym w.if-is_new.false)
    ] in
    let stored = c.in_ok-place.ensures.stored in
    let inside : place < length now.sets.keys = subst (λ l. place < length l) (sym sets) c.in_ok-place.ensures.within in
    let low : place < length now.members.items = subst (λ n. place < n) (sym (ap length room ∙ room_fits old.sets.keys old.members.items now.sets.keys c.args.set is_new c.requires (sets ∙ c.in_ok-place.ensures.keys) c.in_ok-place.ensures.added)) inside in
    gains_member old.sets.keys old.members.items now.sets.keys _ c.args.set stored.0 c.args.member place is_new c.requires
    (sets ∙ c.in_ok-place.ensures.keys) c.in_ok-place.ensures.added inside (subst (λ l. slice_get l place ≡ Some stored.0) (sym sets) stored.1) stored.2
    (subst (IsDistinct bytes_eq) (sym sets) c.in_ok-place.ensures.unique)
    (λ i. set (room i) place ((c.in_ok-push-2.ensures ∙ ap (λ l. l ++ c.args.member ∷ []) (c.index_mut.ensures.value ∙ get_or_default now.members.items place c.index_mut.result.now [] low ∙ ap (λ l. get_or l place []) room)) i))

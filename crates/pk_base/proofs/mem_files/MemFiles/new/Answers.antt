use Rattle.std.proofs.Common.{◌≡◌, ◌∷◌, ◌∙◌, ap, sym, drop, length, vec_len}
use Rattle.std.proofs.lemmas.List.Elements.{All-drop, All-head, All-same}
use Rattle.pk_base.specs.Memory.{AreKnown}
use Rattle.pk_base.proofs.mem_files.MemFiles.new.Goals as goal
use Rattle.pk_base.proofs.mem_files.MemFiles.new.Goals.{in-Some, in-None+in_ok-present-in-None}

pub columns_of-requires : goal.columns_of-requires
columns_of-requires c = All-same (λ t. AreKnown c.in_ok-paths.paths t.files) c.args.trees.items c.as_slice.result.now (sym c.as_slice.ensures.value) c.in_ok-paths.ensures

pub invariant_of-result : goal.invariant_of-result
invariant_of-result c = record {
  present_len = elim c.match-pop_front.branch [
    | in-Some w ↦ ap vec_len w.present-is ∙ All-head (λ k. vec_len k ≡ length c.in_ok-paths.paths) w.in-Some.column c.pop_front.new.self.items (All-same (λ k. vec_len k ≡ length c.in_ok-paths.paths) (w.in-Some.column ∷ c.pop_front.new.self.items) c.in_ok-coming.coming.items (sym w.in-Some.ensures.items) c.in_ok-coming.ensures.len)
    | in-None+in_ok-present-in-None w ↦ ap vec_len w.present-is ∙ w.in_ok-present-in-None.ensures.len ∙ w.len.ensures.len
  ];
  coming_len = All-same (λ k. vec_len k ≡ length c.in_ok-paths.paths) c.pop_front.new.self.items (drop 1 c.in_ok-coming.coming.items) c.pop_front.ensures.rest (All-drop (λ k. vec_len k ≡ length c.in_ok-paths.paths) 1 c.in_ok-coming.coming.items c.in_ok-coming.ensures.len);
}

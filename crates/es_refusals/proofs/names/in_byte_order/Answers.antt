use Rattle.std.proofs.Common.{◌≡◌, rules, nat_cmp, sym, ap, subst, ◌∙◌}
use Rattle.std.specs.List.Sorted.{IsPermutation}
use Rattle.std.specs.Ordering.{is_lt}
use Rattle.std.specs.Cmp.Lexicographic.{slice_cmp}
use Rattle.std.proofs.lemmas.Cmp.{nat_list_cmp_total}
use Rattle.std.proofs.lemmas.List.Sorted.{ranks_by, answers_always}
use Rattle.pk_types.specs.ExportedNames.{AreInByteOrder}
use Rattle.export_names.specs.Collected.{key_names}
use Rattle.export_names.proofs.ByteOrder.{distinct_names, ordered}
use Rattle.es_refusals.proofs.names.in_byte_order.Goals as goal

pub returns-clause-order : goal.returns-clause-order
returns-clause-order c =
    let keys = c.args.names.now.keys in
    let all : c.in_ok-sorted.sorted.items ≡ key_names keys = c.in_ok-sorted.ensures ∙ ap key_names c.as_slice.ensures.keys in
    subst AreInByteOrder (sym c.from_vec.ensures) (ordered (key_names keys) c.sort_unstable_by.new.self.items (distinct_names keys c.as_slice.ensures.unique)
    (subst (λ l. IsPermutation l c.sort_unstable_by.new.self.items) all c.sort_unstable_by.ensures.permutation)
    (c.sort_unstable_by.ensures.sorted (λ name other. is_lt (slice_cmp nat_cmp name other)) (ranks_by nat_list_cmp_total (λ name. name))
    (answers_always _ _ _ (λ f a r g h. search rules))))

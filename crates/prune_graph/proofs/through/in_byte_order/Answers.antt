use Rattle.std.proofs.Common.{◌≡◌, List, ℕ, rules, subst, ◌∙◌}
use Rattle.std.specs.Borrow.{Bor}
use Rattle.std.specs.List.Sorted.{IsPermutation}
use Rattle.std.specs.Ordering.{nat_cmp, is_lt}
use Rattle.std.specs.Cmp.Lexicographic.{slice_cmp}
use Rattle.std.proofs.lemmas.Cmp.{nat_list_cmp_total}
use Rattle.std.proofs.lemmas.List.Sorted.{ranks_by, answers_always}
use Rattle.prune_graph.proofs.NameOrder.{in_order, same_names}
use Rattle.prune_graph.proofs.through.in_byte_order.Goals as goal

pub returns-clause-each : goal.returns-clause-each
returns-clause-each c =
    let keys = c.args.names.now.keys in
    let all : c.in_ok-sorted.sorted.items ≡ keys = c.in_ok-sorted.ensures.items ∙ c.as_slice.ensures.keys in
    same_names keys c.sort_unstable_by.new.self.items (subst (λ l. IsPermutation l c.sort_unstable_by.new.self.items) all c.sort_unstable_by.ensures.permutation)

pub returns-clause-order : goal.returns-clause-order
returns-clause-order c =
    let keys = c.args.names.now.keys in
    let all : c.in_ok-sorted.sorted.items ≡ keys = c.in_ok-sorted.ensures.items ∙ c.as_slice.ensures.keys in
    in_order keys c.sort_unstable_by.new.self.items (subst (λ l. IsPermutation l c.sort_unstable_by.new.self.items) all c.sort_unstable_by.ensures.permutation)
    c.as_slice.ensures.unique
    (c.sort_unstable_by.ensures.sorted (λ (name other : Bor (List ℕ)). is_lt (slice_cmp nat_cmp name.now other.now)) (ranks_by nat_list_cmp_total (λ (name : Bor (List ℕ)). name.now))
    (answers_always _ _ _ (λ f a r g h. search rules)))

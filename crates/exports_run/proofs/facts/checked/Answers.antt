use Rattle.std.proofs.Common.{◌≡◌, ◌<◌, length, map, sym, subst, arith}
use Rattle.std.specs.List.{All, IsDistinct}
use Rattle.std.specs.Str.{bytes_eq}
use Rattle.pk_types.specs.declared.facts.Kind.TheVariants.{Es}
use Rattle.pk_types.specs.Fitting.{AreFitting}
use Rattle.exports_run.specs.Exporting.{exporting, IsInPlace}
use Rattle.exports_run.proofs.Exporting.{exporting_fits, exporting_same}
use Rattle.exports_run.proofs.facts.checked.Goals as goal

pub returns-clause-fitting : goal.returns-clause-fitting
returns-clause-fitting c =
    let requests = c.in_ok-requests_of.field-0.items in
    let exports = c.args.exports.items in
    let stars = c.args.stars.items in
    let bindings = c.args.bindings.items in
    let order = c.in_ok-first_numbers.field-0.items in
    let is : c.exporting.result ≡ exporting Es requests order exports stars bindings =
    exporting_same c.exporting.result Es c.from_vec-requests.result requests c.from_vec-order.result order c.from_vec-exports.result exports
    c.from_vec-stars.result stars c.from_vec-bindings.result bindings c.exporting.ensures c.from_vec-requests.ensures c.from_vec-order.ensures
    c.from_vec-exports.ensures c.from_vec-stars.ensures c.from_vec-bindings.ensures in
    let count : c.len-else-not-branch-2.result ≡ length bindings = omega arith in
    let placed : All (λ entry. IsInPlace c.args.count (length bindings) entry.origin) exports =
    subst (λ n. All (λ entry. IsInPlace c.args.count n entry.origin) exports) count
    (subst (All (λ entry. IsInPlace c.args.count c.len-else-not-branch-2.result entry.origin)) c.as_slice-else-not-branch-2.ensures.value (c.has_places.ensures c.if-not-has_places.false)) in
    let starred : All (λ star. star < c.args.count) stars =
    subst (All (λ star. star < c.args.count)) c.as_slice-else-not-has_places.ensures.value (c.are_below.ensures c.if-not-are_below.false) in
    let named : IsDistinct bytes_eq (map (λ entry. entry.name) exports) =
    subst (λ l. IsDistinct bytes_eq (map (λ entry. entry.name) l)) c.as_slice.ensures.value (c.in_ok-has_distinct_exports.ensures c.if-not-branch.false) in
    let bound : IsDistinct bytes_eq (map (λ binding. binding.name) bindings) =
    subst (λ l. IsDistinct bytes_eq (map (λ binding. binding.name) l)) c.as_slice-else-not-branch.ensures.value (c.in_ok-has_distinct_bindings.ensures c.if-not-branch-2.false) in
    subst AreFitting (sym is)
    (exporting_fits requests c.args.count exports stars bindings order c.in_ok-first_numbers.ensures c.in_ok-requests_of.ensures.count (omega arith)
    c.in_ok-requests_of.ensures.form placed starred named bound (omega arith) (omega arith) (omega arith))

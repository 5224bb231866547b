use Rattle.std.proofs.Common.{◌≡◌, ◌+◌, ◌<◌, ◌≤◌, length, get_or, slice_get, IfSome, sym, ap, subst, ◌∙◌, arith}
use Rattle.std.proofs.lemmas.List.Elements.{All-get_or}
use Rattle.std.proofs.lemmas.Option.{same_Some}
use Rattle.pk_types.specs.declared.graph.Row.{Row}
use Rattle.pk_types.specs.declared.facts.ExportEntry.{ExportEntry}
use Rattle.pk_types.specs.declared.graph.Graph.{Graph}
use Rattle.pk_types.specs.Origins.{origin_requests}
use Rattle.pk_types.specs.Places.{ArePlacesIn}
use Rattle.export_faults.specs.Questions.{asked_by_export}
use Rattle.pk_types.specs.Fitting.{RowFits}
use Rattle.export_faults.specs.declared.fault.Asker.TheVariants.{Export}
use Rattle.export_faults.specs.Faults.{AreLeast, StandsIn, StandsAt}
use Rattle.export_faults.proofs.Asked.{export_asks, export_within, request_of}
use Rattle.export_faults.proofs.Least.{AmongFirst, next_least, least_same}
use Rattle.export_faults.proofs.search.export_fault.Goals as goal

pub loop-number-preserved : goal.loop-number-preserved
loop-number-preserved c =
    let graph = c.args.resolver.now in
    let number = c.args.module in
    let place = c.loop-number.number in
    let same = c.loop-number.invariant.graph in
    record {
      graph = c.in_ok-fault.ensures.same ∙ same;
      first = subst (AreLeast (λ fault. StandsIn graph number fault × AmongFirst (λ n. Export n) (place + 1) fault)) (sym c.earlier-first.ensures)
          (next_least (StandsIn graph number) (λ n. Export n) place c.loop-number.first c.in_ok-fault.fault c.loop-number.invariant.first
          (subst (λ g. AreLeast (StandsAt g number (Export place)) c.in_ok-fault.fault) same c.in_ok-fault.ensures.fault));
    }

pub returns-clause-first : goal.returns-clause-first
returns-clause-first c =
    let graph = c.args.resolver.now in
    let number = c.args.module in
    let row = c.row.result.now in
    let count = c.loop-number.number in
    let end : length row.facts.exports ≤ count = omega (arith, c.loop-number-test.false, c.loop-number.auto.number-end, ap length c.as_slice-exports.ensures) in
    least_same _ _ (λ fault s. (s.0, (s.1.0, omega (arith, end, export_asks graph number row fault s.1.0 c.row.ensures.at s.0 s.1.1), s.1.1))) (λ fault s. (s.0, (s.1.0, s.1.2)))
    c.loop-number.first c.loop-number.invariant.first

pub fault_of-requires-clause-request : goal.fault_of-requires-clause-request
fault_of-requires-clause-request c = λ row at.
    let here = c.row.result.now in
    let place = c.loop-number.number in
    let entry = c.index-exports-number.result in
    let same : here ≡ row = same_Some _ _ (sym c.row.ensures.at ∙ ap (λ (g : Graph). slice_get g.rows c.args.module) (sym c.loop-number.invariant.graph) ∙ at) in
    let fits : RowFits c.args.resolver.now here = c.row.ensures.fits in
    let is : entry ≡ get_or here.facts.exports place entry = c.index-exports-number.is ∙ ap (λ l. get_or l place entry) c.as_slice-exports.ensures in
    let inside : place < length here.facts.exports = omega (arith, c.loop-number-test.true, c.loop-number.auto.number-end, ap length c.as_slice-exports.ensures) in
    let places = All-get_or (λ (e : ExportEntry). ArePlacesIn here.facts.requests (origin_requests e.origin)) here.facts.exports place entry inside fits.facts.places.export_requests in
    request_of (length row.targets) c.of_export-question.result (asked_by_export entry) c.of_export-question.ensures
    (subst (λ n. IfSome (asked_by_export entry) (λ q. q.request < n)) (sym fits.each ∙ ap (λ (r : Row). length r.targets) same)
    (export_within here.facts.requests entry.place entry.origin (subst (λ (e : ExportEntry). ArePlacesIn here.facts.requests (origin_requests e.origin)) (sym is) places)))

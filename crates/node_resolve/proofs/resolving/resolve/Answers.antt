use Rattle.std.proofs.Common.{ap}
use Rattle.node_resolve.specs.Resolution.{candidates}
use Rattle.node_resolve.proofs.Walking.{goes_from, stops_from}
use Rattle.node_resolve.proofs.Ends.{leads_there, asked_all, looked_at, failed_stays, failed_stops}
use Rattle.node_resolve.proofs.resolving.resolve.Goals as goal

pub returns-clause-answer : goal.returns-clause-answer
returns-clause-answer g c told =
    let dir = c.args.dir.now in
    let same = ap (candidates c.args.form dir) c.as_slice.ensures in
    let goes = goes_from _ _ _ _ (candidates c.args.form dir c.as_slice.result.now) (candidates c.args.form dir c.args.request.now) _ same c.in_ok-result.ensures.went in
    leads_there _ _ _ _ _ _ c.new-asked.ensures.items goes told

pub returns-clause-asked : goal.returns-clause-asked
returns-clause-asked g c =
    let dir = c.args.dir.now in
    let same = ap (candidates c.args.form dir) c.as_slice.ensures in
    let goes = goes_from _ _ _ _ (candidates c.args.form dir c.as_slice.result.now) (candidates c.args.form dir c.args.request.now) _ same c.in_ok-result.ensures.went in
    asked_all _ _ _ _ _ _ c.new-asked.ensures.items goes

pub returns-clause-looked : goal.returns-clause-looked
returns-clause-looked g c =
    let dir = c.args.dir.now in
    let same = ap (candidates c.args.form dir) c.as_slice.ensures in
    let goes = goes_from _ _ _ _ (candidates c.args.form dir c.as_slice.result.now) (candidates c.args.form dir c.args.request.now) _ same c.in_ok-result.ensures.went in
    looked_at _ _ _ _ _ _ c.new-asked.ensures.items goes

pub returns-clause-files : goal.returns-clause-files
returns-clause-files g c = c.in_ok-result.ensures.went.files

pub returns-in_err-result-clause-files : goal.returns-in_err-result-clause-files
returns-in_err-result-clause-files g c =
    failed_stays c.from_residual.result c.in_err-result.field-0.0 c.from_residual.ensures.1 _ _ _ c.in_err-result.ensures.went

pub returns-in_err-result-clause-stops : goal.returns-in_err-result-clause-stops
returns-in_err-result-clause-stops g c =
    let dir = c.args.dir.now in
    let from = candidates c.args.form dir in
    failed_stops c.from_residual.result c.in_err-result.field-0.0 c.from_residual.ensures.1 _ _ (from c.args.request.now) (stops_from _ _ _ _ _ (ap from c.as_slice.ensures) c.in_err-result.ensures.went)

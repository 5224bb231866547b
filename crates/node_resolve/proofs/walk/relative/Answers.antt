use Rattle.std.proofs.Common.{Some, sym, ap, ◌∙◌}
use Rattle.node_resolve.specs.Candidates.{decided}
use Rattle.node_resolve.specs.Requests.{names_folder}
use Rattle.node_resolve.specs.Resolution.{no_file, relative, relative_at}
use Rattle.node_resolve.specs.Walks.{on}
use Rattle.node_resolve.proofs.Walking.{fails_as, goes_as, goes_from, goes_nowhere, last_end, memory_lost, went_from}
use Rattle.node_resolve.proofs.walk.relative.Goals as goal

pub returns-in_err-join-clause-went : goal.returns-in_err-join-clause-went
returns-in_err-join-clause-went g c = memory_lost c.from_residual.result _ _ _ (relative c.args.folder.now c.args.request.now) decided c.from_residual.ensures.1

pub returns-in-None-clause-went : goal.returns-in-None-clause-went
returns-in-None-clause-went g c =
    goes_from _ _ _ _ no_file (relative c.args.folder.now c.args.request.now) no_file (ap (relative_at (names_folder c.args.request.now)) (sym c.in-None.is ∙ c.in_ok-join.ensures)) (goes_nowhere _ c.args.asked.now.items no_file)

pub returns-in_err-end-in-Some-clause-went : goal.returns-in_err-end-in-Some-clause-went
returns-in_err-end-in-Some-clause-went g c =
    let request = c.args.request.now in
    let path = c.in-Some.path in
    let is_folder = c.names_folder.result in
    let other = c.from_residual-in_err-end-in-Some in
    went_from other.result _ _ _ _ (relative_at is_folder (Some path)) (relative c.args.folder.now request) decided
    (ap (λ b. relative_at b (Some path)) c.names_folder.ensures ∙ ap (relative_at (names_folder request)) (sym c.in-Some.is ∙ c.in_ok-join.ensures))
    (fails_as other.result c.in_err-end-in-Some.field-0.0 _ _ _ _ (relative_at is_folder (Some path)) decided other.ensures.1 (c.in_err-end-in-Some.ensures.went no_file))

pub returns-in_ok-end-in-Some-clause-went : goal.returns-in_ok-end-in-Some-clause-went
returns-in_ok-end-in-Some-clause-went g c =
    let request = c.args.request.now in
    let path = c.in-Some.path in
    let is_folder = c.names_folder.result in
    let end = c.in_ok-end-in-Some.end in
    goes_from _ _ _ _ (relative_at is_folder (Some path)) (relative c.args.folder.now request) _
    (ap (λ b. relative_at b (Some path)) c.names_folder.ensures ∙ ap (relative_at (names_folder request)) (sym c.in-Some.is ∙ c.in_ok-join.ensures))
    (goes_as _ _ _ _ (relative_at is_folder (Some path)) (on end no_file) _ (last_end end ∙ ap decided (sym c.verdict_of.ensures)) (c.in_ok-end-in-Some.ensures.went no_file))

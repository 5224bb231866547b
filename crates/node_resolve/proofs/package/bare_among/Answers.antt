use Rattle.std.proofs.Common.{sym, ap, ◌∙◌, rules}
use Rattle.node_resolve.specs.Candidates.{decided}
use Rattle.node_resolve.specs.Resolution.{no_file, packaged, itself}
use Rattle.node_resolve.specs.Walks.{on}
use Rattle.node_resolve.proofs.Walking.{goes_as, fails_as, same_end, no_end, last_end}
use Rattle.node_resolve.proofs.Turns.{then_goes, then_fails}
use Rattle.node_resolve.proofs.package.bare_among.Goals as goal

pub returns-in_err-own-clause-went : goal.returns-in_err-own-clause-went
returns-in_err-own-clause-went g c =
    let form = c.args.form in
    let request = c.args.request.now in
    let rest = packaged form request c.args.folders.now in
    let from = itself form request rest c.args.owner.now in
    fails_as c.from_residual.result c.in_err-own.field-0.0 _ _ _ _ from decided c.from_residual.ensures.1 (c.in_err-own.ensures.went rest)

pub returns-then-is_some-clause-went : goal.returns-then-is_some-clause-went
returns-then-is_some-clause-went g c =
    let form = c.args.form in
    let request = c.args.request.now in
    let rest = packaged form request c.args.folders.now in
    let from = itself form request rest c.args.owner.now in
    let own = c.in_ok-own.own in
    goes_as _ _ _ _ from (on own rest) _ (same_end own rest no_file (search rules) ∙ last_end own ∙ ap decided (sym c.verdict_of.ensures)) (c.in_ok-own.ensures.went rest)

pub returns-in_err-end-clause-went : goal.returns-in_err-end-clause-went
returns-in_err-end-clause-went g c =
    let form = c.args.form in
    let request = c.args.request.now in
    let rest = packaged form request c.args.folders.now in
    let from = itself form request rest c.args.owner.now in
    let own = c.in_ok-own.own in
    let other = c.from_residual-in_err-end in
    then_fails _ _ _ _ _ _ from _ rest (c.in_ok-own.ensures.went rest) (no_end own rest (search rules)) other.result c.in_err-end.field-0.0 decided other.ensures.1 c.in_err-end.ensures.went

pub returns-clause-went : goal.returns-clause-went
returns-clause-went g c =
    let form = c.args.form in
    let request = c.args.request.now in
    let rest = packaged form request c.args.folders.now in
    let from = itself form request rest c.args.owner.now in
    let own = c.in_ok-own.own in
    let end = c.in_ok-end.end in
    goes_as _ _ _ _ from (on end no_file) _ (last_end end ∙ ap decided (sym c.verdict_of-2.ensures))
    (then_goes _ _ _ _ _ _ from _ rest (c.in_ok-own.ensures.went rest) (no_end own rest (search rules)) (on end no_file) c.in_ok-end.ensures.went)

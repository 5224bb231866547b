use Rattle.std.proofs.Common.{◌+◌, ◌≤◌, Ok, length, drop, sym, ap, ◌∙◌, arith, if◌then◌else◌}
use Rattle.std.proofs.lemmas.List.{drop_all}
use Rattle.node_resolve.specs.Candidates.{file, decided}
use Rattle.node_resolve.specs.Resolution.{files}
use Rattle.node_resolve.specs.Walks.{on}
use Rattle.node_resolve.proofs.Turns.{at_path, then_goes, then_fails}
use Rattle.node_resolve.proofs.Walking.{goes_as, goes_nowhere, no_memory}
use Rattle.node_resolve.proofs.ask.first_file.Goals as goal

pub loop-path-init : goal.loop-path-init
loop-path-init g c = record { fits = c.requires.fits; goes = λ next. goes_nowhere _ c.args.asked.now.items (files c.args.paths.now next) }

pub returns-in_err-ask-clause-went : goal.returns-in_err-ask-clause-went
returns-in_err-ask-clause-went g c next =
    let paths = c.args.paths.now in
    let path = c.path-item.result in
    let yes = decided (Ok path) in
    let rest = files (drop (c.loop-path.path-index + 1) paths) next in
    then_fails _ _ _ _ _ _ _ _ (file path yes rest) (c.loop-path.invariant.goes next) (at_path paths next c.loop-path.path-index path c.path-item.is c.loop-path-test.true)
    c.from_residual.result c.in_err-ask.field-0.0 (λ end. on end next) c.from_residual.ensures.1 (c.in_err-ask.ensures.went yes rest)

pub returns-in_err-copy-clause-went : goal.returns-in_err-copy-clause-went
returns-in_err-copy-clause-went g c next =
    let paths = c.args.paths.now in
    let path = c.path-item.result in
    let yes = decided (Ok path) in
    let rest = files (drop (c.loop-path.path-index + 1) paths) next in
    let found = c.in_ok-ask.field-0 in
    no_memory c.from_residual-in_err-copy.result _ _ _ _ _ (files paths next) (if found then yes else rest) (λ end. on end next) c.from_residual-in_err-copy.ensures.1
    (then_goes _ _ _ _ _ _ _ _ (file path yes rest) (c.loop-path.invariant.goes next) (at_path paths next c.loop-path.path-index path c.path-item.is c.loop-path-test.true)
    (if found then yes else rest) (c.in_ok-ask.ensures.went yes rest))

pub returns-then-branch-clause-went : goal.returns-then-branch-clause-went
returns-then-branch-clause-went g c next =
    let paths = c.args.paths.now in
    let path = c.path-item.result in
    let yes = decided (Ok path) in
    let rest = files (drop (c.loop-path.path-index + 1) paths) next in
    let found = c.in_ok-ask.field-0 in
    goes_as _ _ _ _ (files paths next) (if found then yes else rest) _ (ap (λ b. if b then yes else rest) c.if-branch.true ∙ ap (λ p. decided (Ok p)) (sym c.in_ok-copy.ensures))
    (then_goes _ _ _ _ _ _ _ _ (file path yes rest) (c.loop-path.invariant.goes next) (at_path paths next c.loop-path.path-index path c.path-item.is c.loop-path-test.true)
    (if found then yes else rest) (c.in_ok-ask.ensures.went yes rest))

pub loop-path-preserved : goal.loop-path-preserved
loop-path-preserved g c = record {
  fits = c.in_ok-ask.ensures.fits;
  goes = λ next.
      let paths = c.args.paths.now in
      let path = c.path-item.result in
      let yes = decided (Ok path) in
      let rest = files (drop (c.loop-path.path-index + 1) paths) next in
      let found = c.in_ok-ask.field-0 in
      goes_as _ _ _ _ (files paths next) (if found then yes else rest) rest (ap (λ b. if b then yes else rest) c.if-branch.false)
      (then_goes _ _ _ _ _ _ _ _ (file path yes rest) (c.loop-path.invariant.goes next) (at_path paths next c.loop-path.path-index path c.path-item.is c.loop-path-test.true)
      (if found then yes else rest) (c.in_ok-ask.ensures.went yes rest));
}

pub returns-clause-went : goal.returns-clause-went
returns-clause-went g c next =
    let paths = c.args.paths.now in
    let past : length paths ≤ c.loop-path.path-index = omega arith in
    goes_as _ _ _ _ (files paths next) _ next (ap (λ l. files l next) (drop_all c.loop-path.path-index paths past)) (c.loop-path.invariant.goes next)

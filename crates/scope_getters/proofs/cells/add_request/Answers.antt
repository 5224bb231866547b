use Rattle.std.proofs.Common.{get_or, subst}
use Rattle.std.proofs.lemmas.Option.{slice_get-get_or}
use Rattle.prune_graph.specs.Gathering.{the_names}
use Rattle.scope_getters.specs.Gaining.{Gains, IsOfNames}
use Rattle.scope_getters.proofs.CellGains.{request_gains}
use Rattle.scope_getters.proofs.cells.add_request.Goals as goal

pub returns-clause-gains : goal.returns-clause-gains
returns-clause-gains c =
    let targets = c.args.targets.now in
    let target = get_or targets c.args.request 0 in
    request_gains c.args.speller.now c.args.from c.args.through.now targets c.args.request target (the_names c.in_ok-names.names.items) c.args.cells.now.keys
    c.add_names.new.cells.keys (slice_get-get_or targets c.args.request 0 c.requires.request) c.in_ok-names.ensures.each
    (subst (λ l. Gains c.args.cells.now.keys (IsOfNames c.args.speller.now c.args.from target (the_names l)) c.add_names.new.cells.keys) c.as_slice.ensures.value c.in_ok-add_names.ensures.gains)

use Rattle.std.proofs.Common.{IfOk, ap, ◌∙◌, subst}
use Rattle.std.proofs.lemmas.Result.{err_from_is_err_and}
use Rattle.watch_core.specs.Builds.{FindsBehind}
use Rattle.watch_core.specs.Walks.{IsWritable}
use Rattle.pack_cli.specs.Output.{built_lines}
use Rattle.pack_cli.specs.Round.{HoldsOutput, HasLostPut}
use Rattle.pack_cli.proofs.Builds.{is_bundle, built, unwritten, no_memory_reads, no_memory_writes}
use Rattle.pack_cli.proofs.rounds.round.Goals as goal

pub returns-in-Ok-put_files-clause-rounds : goal.returns-in-Ok-put_files-clause-rounds
returns-in-Ok-put_files-clause-rounds g c =
    built c.in_ok-lines.lines c.in-Ok.found c.in_ok-output.output.items c.module_count-modules.result c.len-groups.result _ _ _ _
    (is_bundle c.in-Ok.found c.in_ok-plan.plan c.in_ok-output.output.items c.module_count-modules.result c.len-groups.result (subst (λ answer. IfOk answer IsWritable) c.in-Ok.is c.in_ok-found.ensures.writable) c.in_ok-plan.ensures.plan c.in_ok-output.ensures c.module_count-modules.ensures c.len-groups.ensures)
    (λ told. subst (FindsBehind (g.F.Files.means c.args.files.now).tree (g.F.Files.means c.args.files.now).asks (g.F.Files.means c.find_modules.new.files).asks) c.in-Ok.is (c.in_ok-found.ensures.value told))
    (c.in_ok-lines.ensures ∙ ap (λ files. built_lines (record { files = files; modules = c.module_count-modules.result; groups = c.len-groups.result })) c.as_slice.ensures.value)
    (subst (λ files. HoldsOutput files (g.O.Store.means c.args.out.now) (g.O.Store.means c.put_files.new.out)) c.as_slice-2.ensures.value c.in-Ok-put_files.ensures.put)

pub returns-clause-rounds : goal.returns-clause-rounds
returns-clause-rounds g c =
    unwritten c.in-Ok.found c.in_ok-output.output.items c.module_count-modules.result c.len-groups.result _ _ _ _
    (is_bundle c.in-Ok.found c.in_ok-plan.plan c.in_ok-output.output.items c.module_count-modules.result c.len-groups.result (subst (λ answer. IfOk answer IsWritable) c.in-Ok.is c.in_ok-found.ensures.writable) c.in_ok-plan.ensures.plan c.in_ok-output.ensures c.module_count-modules.ensures c.len-groups.ensures)
    (λ told. subst (FindsBehind (g.F.Files.means c.args.files.now).tree (g.F.Files.means c.args.files.now).asks (g.F.Files.means c.find_modules.new.files).asks) c.in-Ok.is (c.in_ok-found.ensures.value told))
    (subst (λ files. HasLostPut files (g.O.Store.means c.args.out.now) (g.O.Store.means c.put_files.new.out)) c.as_slice-2.ensures.value c.in-Err-put_files.ensures.lost)

pub returns-in_err-output-clause-keeps : goal.returns-in_err-output-clause-keeps
returns-in_err-output-clause-keeps g c =
    let fault = err_from_is_err_and c.from_residual-in_err-output.result c.from_residual-in_err-output.ensures.1 in
    let found = c.in_ok-found.ensures in
    no_memory_reads c.from_residual-in_err-output.result fault.0 (g.F.Files.means c.args.files.now) (g.F.Files.means c.find_modules.new.files) fault.1 fault.2 found.keeps

pub returns-in_err-output-clause-writes : goal.returns-in_err-output-clause-writes
returns-in_err-output-clause-writes g c =
    let fault = err_from_is_err_and c.from_residual-in_err-output.result c.from_residual-in_err-output.ensures.1 in
    no_memory_writes c.from_residual-in_err-output.result fault.0 (g.O.Store.means c.args.out.now).faults fault.1 fault.2

pub returns-in_err-lines-clause-keeps : goal.returns-in_err-lines-clause-keeps
returns-in_err-lines-clause-keeps g c =
    let fault = err_from_is_err_and c.from_residual-in_err-lines.result c.from_residual-in_err-lines.ensures.1 in
    let found = c.in_ok-found.ensures in
    no_memory_reads c.from_residual-in_err-lines.result fault.0 (g.F.Files.means c.args.files.now) (g.F.Files.means c.find_modules.new.files) fault.1 fault.2 found.keeps

pub returns-in_err-lines-clause-writes : goal.returns-in_err-lines-clause-writes
returns-in_err-lines-clause-writes g c =
    let fault = err_from_is_err_and c.from_residual-in_err-lines.result c.from_residual-in_err-lines.ensures.1 in
    no_memory_writes c.from_residual-in_err-lines.result fault.0 (g.O.Store.means c.args.out.now).faults fault.1 fault.2

use Rattle.std.proofs.Common.{Err, subst, ◌∙◌}
use Rattle.pack_cli.specs.Run.{PutsLines}
use Rattle.pack_cli.specs.declared.status.Status.TheVariants.{Done, Refused}
use Rattle.pack_cli.proofs.Meets.{Rounded, done_meets, refused_meets, read_fault_meets, write_fault_meets, no_memory_meets, no_line_meets}
use Rattle.pack_cli.proofs.top.build.Goals as goal

pub returns-in-Ok : goal.returns-in-Ok
returns-in-Ok g c source steps =
    done_meets c.in-Ok.lines _ _ _ _ _ source _ _ steps
    (record { keeps = c.in-Ok.ensures.keeps; rounds = c.in-Ok.ensures.rounds; told = c.in-Ok.ensures.told; writes = c.in-Ok.ensures.writes })
    (subst (λ lines. PutsLines lines Done c.print.result (g.K.Sink.means c.args.sink.now) (g.K.Sink.means c.print.new.sink)) c.as_slice.ensures c.print.ensures)

pub returns-in-Ok-refused_line : goal.returns-in-Ok-refused_line
returns-in-Ok-refused_line g c source steps =
    refused_meets c.in-Err-Refused.fault _ _ _ _ _ source _ _ steps
    (subst (λ e. Rounded (Err e) (g.F.Files.means c.args.files.now) (g.F.Files.means c.round.new.files) (g.O.Store.means c.args.out.now) (g.O.Store.means c.round.new.out)) c.in-Err-Refused.field-0-is
    (record { keeps = c.in-Err-Refused.ensures.keeps; rounds = c.in-Err-Refused.ensures.rounds; told = c.in-Err-Refused.ensures.told; writes = c.in-Err-Refused.ensures.writes }))
    (subst (λ lines. PutsLines lines Refused c.print-in-Ok-refused_line.result (g.K.Sink.means c.args.sink.now) (g.K.Sink.means c.print-in-Ok-refused_line.new.sink)) (c.as_slice-in-Ok-refused_line.ensures ∙ c.in-Ok-refused_line.ensures) c.print-in-Ok-refused_line.ensures)

pub returns-in-Err-ReadFault : goal.returns-in-Err-ReadFault
returns-in-Err-ReadFault g c source steps =
    read_fault_meets _ _ _ _ _ source _ _ steps
    (subst (λ e. Rounded (Err e) (g.F.Files.means c.args.files.now) (g.F.Files.means c.round.new.files) (g.O.Store.means c.args.out.now) (g.O.Store.means c.round.new.out)) c.in-Err-ReadFault.field-0-is
    (record { keeps = c.in-Err-ReadFault.ensures.keeps; rounds = c.in-Err-ReadFault.ensures.rounds; told = c.in-Err-ReadFault.ensures.told; writes = c.in-Err-ReadFault.ensures.writes }))
    c.print-in-Err-ReadFault.ensures

pub returns-in-Err-WriteFault : goal.returns-in-Err-WriteFault
returns-in-Err-WriteFault g c source steps =
    write_fault_meets _ _ _ _ _ source _ _ steps
    (subst (λ e. Rounded (Err e) (g.F.Files.means c.args.files.now) (g.F.Files.means c.round.new.files) (g.O.Store.means c.args.out.now) (g.O.Store.means c.round.new.out)) c.in-Err-WriteFault.field-0-is
    (record { keeps = c.in-Err-WriteFault.ensures.keeps; rounds = c.in-Err-WriteFault.ensures.rounds; told = c.in-Err-WriteFault.ensures.told; writes = c.in-Err-WriteFault.ensures.writes }))
    c.print-in-Err-WriteFault.ensures

pub returns-in-Err-Refused : goal.returns-in-Err-Refused
returns-in-Err-Refused g c source steps =
    no_line_meets c.in-Err-Refused.fault _ _ _ _ source _ steps
    (subst (λ e. Rounded (Err e) (g.F.Files.means c.args.files.now) (g.F.Files.means c.round.new.files) (g.O.Store.means c.args.out.now) (g.O.Store.means c.round.new.out)) c.in-Err-Refused.field-0-is
    (record { keeps = c.in-Err-Refused.ensures.keeps; rounds = c.in-Err-Refused.ensures.rounds; told = c.in-Err-Refused.ensures.told; writes = c.in-Err-Refused.ensures.writes }))

pub returns : goal.returns
returns g c source steps =
    no_memory_meets _ _ _ _ source _ steps
    (subst (λ e. Rounded (Err e) (g.F.Files.means c.args.files.now) (g.F.Files.means c.round.new.files) (g.O.Store.means c.args.out.now) (g.O.Store.means c.round.new.out)) c.in-Err-NoMemory.field-0-is
    (record { keeps = c.in-Err-NoMemory.ensures.keeps; rounds = c.in-Err-NoMemory.ensures.rounds; told = c.in-Err-NoMemory.ensures.told; writes = c.in-Err-NoMemory.ensures.writes }))

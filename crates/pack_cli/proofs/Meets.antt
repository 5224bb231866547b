-- What a build has met, by the answer of its round and by how its lines were printed.
use Rattle.std.proofs.Common.{◌≡◌, ℕ, false, Option, None, List, [], ◌++◌, Result, Ok, Err, IsTrue, refl, sym, ap, subst, ◌∙◌, append-nil}
use Rattle.std.specs.Prelude.{codes}
use Rattle.pk_base.specs.Causes.{Rose, Counts}
use Rattle.pk_base.proofs.Keeping.{asked_once}
use Rattle.pk_base.specs.Keeping.{KeepsFiles}
use Rattle.pk_base.specs.Outside.{AddsPrefix}
use Rattle.pk_base.specs.Meanings.{FilesMeaning, StoreMeaning, SourceMeaning, SinkMeaning}
use Rattle.pack_cli.specs.Answers.{fault_line, is_read_fault, is_write_fault, lines_of}
use Rattle.pack_cli.specs.Output.{built_lines}
use Rattle.pack_cli.specs.Round.{IsUntouched, Rounds}
use Rattle.pack_cli.specs.Headline.{Headline, Moment}
use Rattle.pack_cli.specs.Run.{BuildMeets, HasCause, PutsLines, RunMeets, usage_line}
use Rattle.pack_cli.specs.Headline.Builds.{refuses, leaves}
use Rattle.pack_cli.specs.Run.PutsLines.{whole, part}
use Rattle.watch_core.specs.declared.faults.BuildFault.{BuildFault}
use Rattle.pack_cli.specs.declared.faults.RoundFault.{RoundFault}
use Rattle.pack_cli.specs.declared.faults.RoundFault.TheVariants as round
use Rattle.pack_cli.specs.declared.top.Command.{Command}
use Rattle.pack_cli.specs.declared.status.Status.{Status}
use Rattle.pack_cli.specs.declared.status.Status.TheVariants.{Done, Refused, Usage, ReadFault, WriteFault, SinkFault, NoMemory}

-- what stood before a round and what stands after it, but for the sink
pub record Rounded (answer : Result (List ℕ) RoundFault) (files files_after : FilesMeaning) (store store_after : StoreMeaning) : Type 0 where
  pub keeps : KeepsFiles (is_read_fault answer) [] files files_after
  pub rounds : Rounds answer files files_after store store_after
  pub told : store_after.told ≡ store.told
  pub writes : Counts (is_write_fault answer) store.faults store_after.faults

abbrev moment : FilesMeaning → StoreMeaning → SourceMeaning → SinkMeaning → ℕ → Moment
moment files store source sink steps = record { files = files; store = store; source = source; sink = sink; steps = steps }

-- a build has met its promise, once the headline and the cause of its status are there
meets : (answer : Result (List ℕ) RoundFault) (status : Status) (files files_after : FilesMeaning) (store store_after : StoreMeaning) (source : SourceMeaning) (sink sink_after : SinkMeaning) (steps : ℕ)
    → Rounded answer files files_after store store_after → sink_after.told ≡ sink.told
    → Headline status (moment files store source sink steps) (moment files_after store_after source sink_after steps)
    → HasCause status (moment files store source sink steps) (moment files_after store_after source sink_after steps)
    → BuildMeets status (moment files store source sink steps) (moment files_after store_after source sink_after steps)
meets answer status files files_after store store_after source sink sink_after steps r told outcome cause =
    record {
      outcome = outcome;
      cause = cause;
      asks = asked_once files.asks files_after.asks r.keeps.asks;
      told = record { files = r.keeps.told; store = r.told; source = refl; sink = told };
      tree = r.keeps.tree;
      coming = r.keeps.coming;
      source = refl;
      steps = refl;
    }

-- the lines could not be printed
cut_short : (answer : Result (List ℕ) RoundFault) (files files_after : FilesMeaning) (store store_after : StoreMeaning) (source : SourceMeaning) (sink sink_after : SinkMeaning) (steps : ℕ)
    → Rounded answer files files_after store store_after → sink_after.told ≡ sink.told → Rose sink.faults sink_after.faults → (IsTrue sink.told → AddsPrefix sink.held sink_after.held (lines_of answer))
    → BuildMeets SinkFault (moment files store source sink steps) (moment files_after store_after source sink_after steps)
cut_short answer files files_after store store_after source sink sink_after steps r told rose added =
    meets answer SinkFault files files_after store store_after source sink sink_after steps r told
    (λ h calm memory. absurd (calm.puts rose))
    (record { rose = rose; answer = answer; files = r.keeps; round = r.rounds; writes = r.writes; part = added })

pub done_meets : (lines : List ℕ) (status : Status) (files files_after : FilesMeaning) (store store_after : StoreMeaning) (source : SourceMeaning) (sink sink_after : SinkMeaning) (steps : ℕ)
    → Rounded (Ok lines) files files_after store store_after → PutsLines lines Done status sink sink_after
    → BuildMeets status (moment files store source sink steps) (moment files_after store_after source sink_after steps)
done_meets lines _ files files_after store store_after source _ _ steps r (whole sink sink_after told same held) =
    let b = r.rounds in
    let printed : IsTrue sink.told → sink_after.held ≡ sink.held ++ built_lines b.bundle = λ h. held h ∙ ap (λ l. sink.held ++ l) b.lines_are in
    meets (Ok lines) Done files files_after store store_after source sink sink_after steps r told
    (λ h calm memory. record {
      outcome = record { status = Done; printed = built_lines b.bundle; output = b.bundle.files; asks = (b.of_tree h).asks };
      of_tree = leaves b.bundle (b.of_tree h).asks (record { found = b.found; modules = (b.of_tree h).is; made = b.made });
      does = record { answer = refl; printed = printed; called = b.store_holds.calls; holds = b.store_holds.files_are; asked = (b.of_tree h).asked };
    })
    (record {
      quiet = record { reads = r.keeps.faults.kept refl; writes = r.writes.kept refl; takes = refl; puts = same };
      found = b.found;
      bundle = b.bundle;
      made = b.made;
      of_tree = b.of_tree;
      store = b.store_holds;
      printed = printed;
    })
done_meets lines _ files files_after store store_after source _ _ steps r (part sink sink_after told rose added) =
    cut_short (Ok lines) files files_after store store_after source sink sink_after steps r told rose added

pub refused_meets : (fault : BuildFault) (status : Status) (files files_after : FilesMeaning) (store store_after : StoreMeaning) (source : SourceMeaning) (sink sink_after : SinkMeaning) (steps : ℕ)
    → Rounded (Err (round.Refused fault)) files files_after store store_after → PutsLines (fault_line (round.Refused fault)) Refused status sink sink_after
    → BuildMeets status (moment files store source sink steps) (moment files_after store_after source sink_after steps)
refused_meets fault _ files files_after store store_after source _ _ steps r (whole sink sink_after told same held) =
    meets (Err (round.Refused fault)) Refused files files_after store store_after source sink sink_after steps r told
    (λ h calm memory. record {
      outcome = record { status = Refused; printed = fault_line (round.Refused fault); output = []; asks = (r.rounds.0 h).asks };
      of_tree = refuses fault (r.rounds.0 h).asks (r.rounds.0 h).is;
      does = record { answer = refl; printed = held; called = r.rounds.1.calls ∙ sym (append-nil store.calls); holds = r.rounds.1.files; asked = (r.rounds.0 h).asked };
    })
    (record {
      quiet = record { reads = r.keeps.faults.kept refl; writes = r.writes.kept refl; takes = refl; puts = same };
      fault = fault;
      of_tree = r.rounds.0;
      store = r.rounds.1;
      printed = held;
    })
refused_meets fault _ files files_after store store_after source _ _ steps r (part sink sink_after told rose added) =
    cut_short (Err (round.Refused fault)) files files_after store store_after source sink sink_after steps r told rose added

pub read_fault_meets : (status : Status) (files files_after : FilesMeaning) (store store_after : StoreMeaning) (source : SourceMeaning) (sink sink_after : SinkMeaning) (steps : ℕ)
    → Rounded (Err round.ReadFault) files files_after store store_after → PutsLines (codes "fault read\n") ReadFault status sink sink_after
    → BuildMeets status (moment files store source sink steps) (moment files_after store_after source sink_after steps)
read_fault_meets _ files files_after store store_after source _ _ steps r (whole sink sink_after told same held) =
    let rose = r.keeps.faults.rose refl in
    meets (Err round.ReadFault) ReadFault files files_after store store_after source sink sink_after steps r told
    (λ h calm memory. absurd (calm.reads rose))
    (record { rose = rose; writes = r.writes.kept refl; puts = same; store = r.rounds; printed = held })
read_fault_meets _ files files_after store store_after source _ _ steps r (part sink sink_after told rose added) =
    cut_short (Err round.ReadFault) files files_after store store_after source sink sink_after steps r told rose added

pub write_fault_meets : (status : Status) (files files_after : FilesMeaning) (store store_after : StoreMeaning) (source : SourceMeaning) (sink sink_after : SinkMeaning) (steps : ℕ)
    → Rounded (Err round.WriteFault) files files_after store store_after → PutsLines (codes "fault write\n") WriteFault status sink sink_after
    → BuildMeets status (moment files store source sink steps) (moment files_after store_after source sink_after steps)
write_fault_meets _ files files_after store store_after source _ _ steps r (whole sink sink_after told same held) =
    let rose = r.writes.rose refl in
    meets (Err round.WriteFault) WriteFault files files_after store store_after source sink sink_after steps r told
    (λ h calm memory. absurd (calm.writes rose))
    (record { rose = rose; reads = r.keeps.faults.kept refl; puts = same; round = r.rounds; printed = held })
write_fault_meets _ files files_after store store_after source _ _ steps r (part sink sink_after told rose added) =
    cut_short (Err round.WriteFault) files files_after store store_after source sink sink_after steps r told rose added

-- memory ran out before anything was put or printed
ends_early : (answer : Result (List ℕ) RoundFault) (files files_after : FilesMeaning) (store store_after : StoreMeaning) (source : SourceMeaning) (sink : SinkMeaning) (steps : ℕ)
    → Rounded answer files files_after store store_after → is_read_fault answer ≡ false → is_write_fault answer ≡ false → IsUntouched store store_after
    → BuildMeets NoMemory (moment files store source sink steps) (moment files_after store_after source sink steps)
ends_early answer files files_after store store_after source sink steps r read write untouched =
    meets answer NoMemory files files_after store store_after source sink sink steps r refl
    (λ h calm memory. absurd (memory refl))
    (record {
      quiet = record { reads = r.keeps.faults.kept read; writes = r.writes.kept write; takes = refl; puts = refl };
      store = untouched;
      printed = λ h. sym (append-nil sink.held);
    })

pub no_memory_meets : (files files_after : FilesMeaning) (store store_after : StoreMeaning) (source : SourceMeaning) (sink : SinkMeaning) (steps : ℕ)
    → Rounded (Err round.NoMemory) files files_after store store_after → BuildMeets NoMemory (moment files store source sink steps) (moment files_after store_after source sink steps)
no_memory_meets files files_after store store_after source sink steps r = ends_early (Err round.NoMemory) files files_after store store_after source sink steps r refl refl r.rounds

-- there was none for the line of a fault
pub no_line_meets : (fault : BuildFault) (files files_after : FilesMeaning) (store store_after : StoreMeaning) (source : SourceMeaning) (sink : SinkMeaning) (steps : ℕ)
    → Rounded (Err (round.Refused fault)) files files_after store store_after → BuildMeets NoMemory (moment files store source sink steps) (moment files_after store_after source sink steps)
no_line_meets fault files files_after store store_after source sink steps r =
    ends_early (Err (round.Refused fault)) files files_after store store_after source sink steps r refl refl r.rounds.1

-- words that are no command
pub usage_meets : (command : Option Command) (status : Status) (files : FilesMeaning) (store : StoreMeaning) (source : SourceMeaning) (sink sink_after : SinkMeaning) (steps : ℕ)
    → command ≡ None → PutsLines usage_line Usage status sink sink_after
    → RunMeets command status (moment files store source sink steps) (moment files store source sink_after steps)
usage_meets command status files store source sink sink_after steps none printed =
    subst (λ c. RunMeets c status (moment files store source sink steps) (moment files store source sink_after steps)) (sym none)
    (record { printed = printed; files = refl; store = refl; source = refl; steps = refl })

-- The answers of a round, and their lines.
use Rattle.std.specs.Prelude.{ℕ, Bool, true, false, List, [], ◌++◌, Result, Ok, Err, codes}
use Rattle.pk_base.specs.declared.outside.ReadFail.{ReadFail}
use Rattle.pk_base.specs.declared.outside.ReadFail.TheVariants as fail
use Rattle.watch_core.specs.declared.faults.BuildFault.{BuildFault}
use Rattle.watch_core.specs.declared.faults.BuildFault.TheVariants.{EntryUnresolved, NotBuilt, TooLarge, TooMany}
use Rattle.watch_core.specs.declared.faults.What.{What}
use Rattle.watch_core.specs.declared.faults.What.TheVariants.{Modules, SourceBytes}
use Rattle.pack_cli.specs.declared.faults.RoundFault.{RoundFault}
use Rattle.pack_cli.specs.declared.faults.RoundFault.TheVariants.{Refused, ReadFault, WriteFault, NoMemory}

abbrev pub as_round_fault : ReadFail → RoundFault
as_round_fault fail.Failed = ReadFault
as_round_fault fail.NoMemory = NoMemory

-- a round answered a read fault
abbrev pub is_read_fault : {T : Type 0} → Result T RoundFault → Bool
is_read_fault (Ok x) = false
is_read_fault (Err (Refused fault)) = false
is_read_fault (Err ReadFault) = true
is_read_fault (Err WriteFault) = false
is_read_fault (Err NoMemory) = false

-- a round answered a write fault
abbrev pub is_write_fault : {T : Type 0} → Result T RoundFault → Bool
is_write_fault (Ok x) = false
is_write_fault (Err (Refused fault)) = false
is_write_fault (Err ReadFault) = false
is_write_fault (Err WriteFault) = true
is_write_fault (Err NoMemory) = false

abbrev pub what_text : What → List ℕ
what_text Modules = codes "modules"
what_text SourceBytes = codes "source bytes"

-- the text of a fault
abbrev pub fault_text : BuildFault → List ℕ
fault_text (EntryUnresolved name request why) = codes "entry " ++ name ++ codes ": cannot resolve " ++ request ++ codes ": " ++ why
fault_text (TooLarge path) = path ++ codes ": too large"
fault_text (NotBuilt path) = path ++ codes ": not built yet"
fault_text (TooMany what) = codes "too many " ++ what_text what

-- the lines of a round that was not built
abbrev pub fault_line : RoundFault → List ℕ
fault_line (Refused fault) = codes "refused " ++ fault_text fault ++ codes "\n"
fault_line ReadFault = codes "fault read\n"
fault_line WriteFault = codes "fault write\n"
fault_line NoMemory = []

abbrev pub lines_of : Result (List ℕ) RoundFault → List ℕ
lines_of (Ok lines) = lines
lines_of (Err fault) = fault_line fault

use Rattle.pk_base.specs.Memory.{held_in}
use Rattle.pk_base.proofs.Columns.{turn_taken}
use Rattle.pk_base.proofs.mem_files.MemFilesFiles.turn.Goals as goal

pub returns-in-Some-clause-turned : goal.returns-in-Some-clause-turned
returns-in-Some-clause-turned c told = turn_taken (λ column. held_in c.args.self.now.paths column.items) c.args.listed.now.items c.as_slice.result.now c.args.self.now.coming.items c.pop_front.new.self.items c.in-Some.next (held_in c.args.self.now.paths c.args.self.now.present.items) (held_in c.args.self.now.paths c.take_covered.new.present.items) c.in-Some.ensures.items c.as_slice.ensures.value c.take_covered.ensures.held

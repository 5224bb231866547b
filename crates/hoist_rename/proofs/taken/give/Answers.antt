use Rattle.std.proofs.Common.{is_some, sym, ap, ◌∙◌}
use Rattle.hoist_rename.proofs.Kept.{not_among}
use Rattle.hoist_rename.proofs.Tried.{found_place}
use Rattle.hoist_rename.proofs.taken.give.Goals as goal

pub keep-requires-clause-free : goal.keep-requires-clause-free
keep-requires-clause-free c = not_among c.args.taken.now.names.keys c.args.name.now (sym c.get_index_of.ensures.found ∙ ap is_some c.in-None.is)

pub rename-requires-clause-place : goal.rename-requires-clause-place
rename-requires-clause-place c = (found_place c.args.taken.now.names.keys c.args.name.now c.in-Some.place (sym c.get_index_of.ensures.index ∙ c.in-Some.is)).1

use Rattle.std.proofs.Common.{length, ◌∙◌}
use Rattle.id_assign.proofs.Together.{few_set, same_ranks}
use Rattle.id_assign.proofs.natural.natural_ids.Goals as goal

pub ranks-requires : goal.ranks-requires
ranks-requires c = few_set c.args.chunks.now c.args.placed.now (length c.args.placed.now) c.requires.placed c.requires.few

pub returns-clause-modules : goal.returns-clause-modules
returns-clause-modules c = c.from_vec.ensures ∙ c.in_ok-modules.ensures ∙ same_ranks c.args.chunks.now c.args.placed.now (length c.args.placed.now) c.requires.placed

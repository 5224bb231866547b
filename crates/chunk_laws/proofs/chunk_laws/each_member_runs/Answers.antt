use Rattle.pk_types.proofs.ItemLaws.{member_runs}
use Rattle.pk_types.proofs.HoistLaws.{reached_inside}
use Rattle.chunk_laws.proofs.chunk_laws.each_member_runs.Goals as goal

pub returns : goal.returns
returns c = λ scene is taken root members items set are target member is_target loaded inside.
    member_runs scene.active members root items are set.holds_root member (reached_inside scene is taken root members set target member is_target loaded inside)

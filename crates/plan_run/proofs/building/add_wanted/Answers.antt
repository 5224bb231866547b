use Rattle.std.proofs.Common.{sym, subst}
use Rattle.std.specs.List.{All}
use Rattle.emit_chunk.specs.Bare.{IsBareRow}
use Rattle.plan_run.proofs.Few.{all_push}
use Rattle.plan_run.proofs.building.add_wanted.Goals as goal

pub returns-clause-bare : goal.returns-clause-bare
returns-clause-bare c =
    let facts = c.in_ok-facts.ensures in
    subst (All IsBareRow) (sym c.in_ok-add.ensures.row)
    (all_push IsBareRow _ _ c.requires.bare (record { kind = facts.kind; bindings = facts.bindings; sites = facts.sites }))

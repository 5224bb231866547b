use Rattle.std.proofs.Common.{◌↔◌, ℕ, length, sym, ap, subst, ◌∙◌}
use Rattle.std.specs.List.{Contains, filter}
use Rattle.pk_types.specs.ChunkGroups.{AreAll}
use Rattle.edge_search.specs.Reached.{IsReached}
use Rattle.chunk_files.specs.Entries.{IsWalkedTo}
use Rattle.chunk_files.proofs.Entries.{is_other, walked_all, walked_below}
use Rattle.chunk_files.proofs.entry.walked.Goals as goal

are_walked : (c : goal.After-drop-search-inside-3) → AreAll (IsWalkedTo c.args.material.now.plan c.args.entry) c.ascending.result.items
are_walked c = walked_all c.args.material.now.plan c.args.entry c.reach.new.self c.ascending.result.items
    (subst (λ edges. (number : ℕ) → Contains c.reach.new.self number ↔ IsReached edges c.args.entry number) c.leads.ensures.leads c.in_ok-reach.ensures)
    (subst (λ groups. AreAll (Contains groups) c.ascending.result.items) (c.in_ok-groups.ensures ∙ ap (filter (is_other c.args.entry)) c.met.ensures.met) c.ascending.ensures)

pub returns-clause-walked : goal.returns-clause-walked
returns-clause-walked c = are_walked c

pub returns-clause-within : goal.returns-clause-within
returns-clause-within c =
    walked_below c.args.material.now.plan c.args.entry _ c.ascending.result.items (are_walked c) (ap length (sym c.leads.ensures.leads) ∙ c.leads.ensures.each) c.requires
    c.leads.ensures.within

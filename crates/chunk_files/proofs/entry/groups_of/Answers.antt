use Rattle.std.proofs.Common.{◌≡◌, ◌∷◌, ◌++◌, ap, ◌∙◌}
use Rattle.chunk_files.proofs.Entries.{own_first, own_below}
use Rattle.chunk_files.proofs.entry.groups_of.Goals as goal

are_groups : (c : goal.After-drop-others-2) → c.extend_from_slice.new.self.items ≡ c.args.entry ∷ c.in_ok-others.others.items
are_groups c =
    own_first c.args.entry c.new-groups.result.items c.push.new.self.items c.in_ok-others.others.items c.extend_from_slice.new.self.items
    c.new-groups.ensures.items c.in_ok-push.ensures.items (c.in_ok-extend_from_slice.ensures.items ∙ ap (λ l. c.push.new.self.items ++ l) c.as_slice.ensures.value)

pub returns-clause-groups : goal.returns-clause-groups
returns-clause-groups c = (c.in_ok-others.others.items, are_groups c, c.in_ok-others.ensures.walked)

pub returns-clause-within : goal.returns-clause-within
returns-clause-within c = own_below _ c.args.entry c.in_ok-others.others.items _ (are_groups c) c.requires c.in_ok-others.ensures.within

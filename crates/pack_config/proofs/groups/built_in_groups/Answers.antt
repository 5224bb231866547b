use Rattle.std.proofs.Common.{◌≡◌, [], ◌∷◌, None, codes, sym, ◌∙◌, rules}
use Rattle.pack_config.specs.Settings.{group_of}
use Rattle.pack_config.proofs.Merged.{built_in}
use Rattle.pack_config.proofs.NamedApart.{built_in_apart}
use Rattle.pack_config.proofs.groups.built_in_groups.Goals as goal

pub returns-clause-made : goal.returns-clause-made
returns-clause-made c =
    let pushed : c.from_vec.result ≡ group_of c.args.shared (codes "default") None ∷ group_of c.args.shared (codes "defaultVendors") None ∷ [] = search rules in
    pushed ∙ sym (built_in c.args.shared)

pub returns-clause-apart : goal.returns-clause-apart
returns-clause-apart c = rw (returns-clause-made c) (built_in_apart c.args.shared)

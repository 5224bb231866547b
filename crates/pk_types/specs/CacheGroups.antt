-- The cache groups of a configuration are told apart by their names.
use Rattle.std.specs.Prelude.{IfSome, List, map}
use Rattle.pk_types.specs.declared.settings.CacheGroup.{CacheGroup}
use Rattle.pk_types.specs.declared.settings.Config.{Config}
use Rattle.pk_types.specs.ExportedNames.{AreInByteOrder}

-- no two groups have one name, and they stand in byte order of their names
abbrev pub AreNamedApart : List CacheGroup → Type 0
AreNamedApart groups = AreInByteOrder (map (λ group. group.name) groups)

-- the groups that chunks are split by, if they are, are named apart
abbrev pub HasGroupsNamedApart : Config → Type 0
HasGroupsNamedApart config = IfSome config.split (λ split. AreNamedApart split.groups)

use Rattle.std.proofs.Common.{◌≡◌, ◌++◌, option_map}
use Rattle.std.specs.Vec.Iter.{into_iter_items}
use Rattle.pkg_manifest.specs.Fields.{texts_of}
use Rattle.pkg_manifest.proofs.fields.texts.Given as goal

-- the texts so far, and those of the items that are left
abbrev pub invariant-loop-item : goal.invariant-loop-item
invariant-loop-item l = texts_of l.fn.items ≡ option_map (λ more. l.texts.items ++ more) (texts_of (into_iter_items l.item-iterator))

-- What is left of a loop over items.
use Rattle.std.proofs.Common.{List}
use Rattle.pkg_exports.specs.declared.meaning.Outcome.{Outcome}
use Rattle.pkg_exports.specs.Meanings.{first_or, last_or, is_usable, is_defined}

-- what an array is whose items so far are not usable, and whose last of those that is not undefined is o
abbrev pub items_left : Outcome → List Outcome → Outcome
items_left o os = first_or is_usable (last_or is_defined o os) os

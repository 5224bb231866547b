-- What keeps a text from being the path of a file.
use Rattle.std.specs.Prelude.{◌≡◌, ◌≢◌, ℕ, ◌<◌, ◌≤◌, List, [], length}
use Rattle.pk_base.specs.declared.path.PathFault.{PathFault}
use Rattle.pk_base.specs.declared.path.PathFault.TheVariants.{Empty, Long, Bad, NoMemory}
use Rattle.pk_base.specs.Paths.{IsFirstBreak}

abbrev pub IsFaultOf : List ℕ → PathFault → Type 0
IsFaultOf text Empty = text ≡ []
IsFaultOf text (Long n) = (n ≡ length text) × (1024 < n)
IsFaultOf text (Bad p) = (text ≢ []) × (length text ≤ 1024) × IsFirstBreak text p
IsFaultOf text NoMemory = ⊥

use Rattle.std.proofs.Common.{◌≡◌, true}
use Rattle.pk_types.proofs.Availabilities.{greatest}
use Rattle.graph_laws.proofs.groups.greatest_by_parents.Goals as goal

pub returns : goal.returns
returns c groups rows others parents group number said =
    greatest groups number (λ g. rows g number ≡ true) (λ g h. others g number h) (λ parent g l h. parents parent g number l h) group said

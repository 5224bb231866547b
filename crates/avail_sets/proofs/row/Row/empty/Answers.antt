use Rattle.std.proofs.Common.{get_or, ap, ◌∙◌}
use Rattle.avail_sets.proofs.Flags.{no_flag, zero_words}
use Rattle.avail_sets.proofs.row.Row.empty.Goals as goal

pub returns-clause-flags : goal.returns-clause-flags
returns-clause-flags c =
    no_flag c.in_ok-zeros.field-0.items (λ k. ap (λ l. get_or l k 0) c.in_ok-zeros.ensures ∙ zero_words c.div_ceil.result k)

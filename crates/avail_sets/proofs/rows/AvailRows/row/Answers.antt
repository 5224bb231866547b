use Rattle.std.proofs.Common.{◌<◌, [], length, get_or, sym, ap, subst, ◌∙◌, arith}
use Rattle.std.proofs.lemmas.List.{get_or_default}
use Rattle.std.proofs.lemmas.List.{length-map}
use Rattle.avail_sets.specs.Words.{flags_of}
use Rattle.avail_sets.specs.Rows.{AreWordsOf}
use Rattle.avail_sets.proofs.Flags.{row_of, words_of_flags}
use Rattle.avail_sets.proofs.rows.AvailRows.row.Goals as goal

pub returns : goal.returns
returns c =
    let rows = c.self.inside.rows.items in
    let count = c.self.inside.modules in
    let group = c.args.group in
    let within : group < length rows = omega (arith, c.requires, ap length c.self.view_is, length-map rows (flags_of count)) in
    let read = c.words.ensures ∙ c.index.ensures ∙ get_or_default rows group c.index.result.now [] within in
    let flags = sym (row_of count rows group within) ∙ ap (λ l. get_or l group []) c.self.view_is in
    subst (AreWordsOf (get_or c.args.self.now group [])) (sym read) (subst (λ l. AreWordsOf l (get_or rows group [])) flags
    (words_of_flags count (get_or rows group []) (c.self.invariant.long group within) (c.self.invariant.past group)))

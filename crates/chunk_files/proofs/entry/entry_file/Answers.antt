use Rattle.std.proofs.Common.{sym, ap, subst, ◌∙◌}
use Rattle.chunk_files.specs.Entries.{IsEntryText}
use Rattle.chunk_files.specs.Pens.{penned}
use Rattle.chunk_files.proofs.Penning.{kept_text}
use Rattle.chunk_files.proofs.entry.entry_file.Goals as goal

pub returns : goal.returns
returns c =
    let put = c.in_ok-put_entry_file.ensures in
    subst (λ hashes. IsEntryText c.args.material.now hashes c.args.entry c.into_text.result) c.as_slice.ensures
    (subst (IsEntryText c.args.material.now c.as_slice.result.now c.args.entry)
    (sym (c.into_text.ensures ∙ ap (λ pen. pen.text) (put.2 ∙ ap (λ pen. penned pen put.0) c.writing-pen.ensures) ∙ kept_text put.0)) put.1)

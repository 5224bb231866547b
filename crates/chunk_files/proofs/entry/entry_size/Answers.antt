use Rattle.std.proofs.Common.{◌≡◌, [], length, sym, ap, ◌∙◌}
use Rattle.std.proofs.lemmas.List.Elements.{All-nil}
use Rattle.chunk_files.specs.Pens.{size_of, penned}
use Rattle.chunk_files.proofs.Entries.{any_hashes}
use Rattle.chunk_files.proofs.Penning.{measured}
use Rattle.chunk_files.proofs.entry.entry_size.Goals as goal

pub returns : goal.returns
returns c = λ hashes short.
    let put = c.in_ok-put_entry_file.ensures in
    let other = any_hashes c.args.material.now [] hashes c.args.entry put.0 (All-nil (λ hash. length hash ≡ 8)) short put.1 in
    let size = c.size.ensures ∙ ap (λ pen. pen.size) (put.2 ∙ ap (λ pen. penned pen put.0) c.measuring-pen.ensures) ∙ measured put.0 in
    (other.0, other.1, size ∙ ap size_of (sym other.2))

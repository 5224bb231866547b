use Rattle.std.proofs.Common.{◌≡◌, ap, ◌∙◌, get_or}
use Rattle.pk_text.specs.Places.{place_of}
use Rattle.pk_base.proofs.Columns.{is_some_of, still_known, known_more, known_all}
use Rattle.pk_base.proofs.mem_files.list_paths.Goals as goal

pub loop-file-preserved : goal.loop-file-preserved
loop-file-preserved c =
    let item = c.file-item.result in
    let paths = c.intern.new.self in
    let files = c.args.files.now in
    let e : (get_or files c.loop-file.file-index item).0 ≡ c.as_bytes.result.now = cc in
    record {
      kept = λ q known. still_known c.loop-file.paths paths c.intern.ensures.kept q (c.loop-file.invariant.kept q known);
      known = known_more c.loop-file.paths paths files c.loop-file.file-index item (still_known c.loop-file.paths paths c.intern.ensures.kept) c.loop-file-test.true c.loop-file.invariant.known (is_some_of (place_of paths (get_or files c.loop-file.file-index item).0) c.in_ok-intern.field-0 (ap (place_of paths) e ∙ c.in_ok-intern.ensures.place));
    }

pub returns-clause-known : goal.returns-clause-known
returns-clause-known c = known_all c.loop-file.paths c.args.files.now c.loop-file.file-index c.loop-file-test.false c.loop-file.invariant.known

use Rattle.std.proofs.Common.{◌≡◌, ◌<◌, ◌∙◌, sym, arith, length, Some, []}
use Rattle.std.specs.Str.{bytes_eq}
use Rattle.std.proofs.lemmas.List.Quantifiers.{position-Some}
use Rattle.pk_text.specs.Places.{place_of}
use Rattle.pk_base.proofs.Columns.{held_set}
use Rattle.pk_base.proofs.mem_files.fill.Goals as goal

pub returns-in-Some-clause-held : goal.returns-in-Some-clause-held
returns-in-Some-clause-held c q =
    let at : place_of c.args.paths.now c.args.path.now ≡ Some c.in-Some.n = sym c.find.ensures ∙ c.in-Some.is in
    let known : c.in-Some.n < length c.args.paths.now = (position-Some (bytes_eq c.args.path.now) c.args.paths.now c.in-Some.n [] at).0 in
    let within : c.in-Some.n < length c.args.column.now.items = omega arith in
    held_set c.args.paths.now c.args.column.now.items c.args.path.now c.args.bytes q c.in-Some.n at within

use Rattle.std.proofs.Common.{◌≡◌, ◌<◌, false, [], length, get_or, sym, ap, ◌∙◌, arith}
use Rattle.std.proofs.lemmas.List.{get_or_default}
use Rattle.std.proofs.lemmas.List.{length-map}
use Rattle.avail_sets.specs.Words.{flag_in, flags_of}
use Rattle.avail_sets.proofs.Flags.{row_of, length_flags, read_below, has_room}
use Rattle.avail_sets.proofs.rows.AvailRows.is_available.Goals as goal

pub has-requires : goal.has-requires
has-requires c =
    let rows = c.self.inside.rows.items in
    let count = c.self.inside.modules in
    let group = c.args.group in
    let within : group < length rows = omega (arith, c.requires.group, ap length c.self.view_is, length-map rows (flags_of count)) in
    let read : c.index.result.now ≡ get_or rows group [] = c.index.ensures ∙ get_or_default rows group c.index.result.now [] within in
    let flags = sym (row_of count rows group within) ∙ ap (λ l. get_or l group []) c.self.view_is in
    let below : c.args.module < count = omega (arith, c.requires.module, ap length flags, length_flags count (get_or rows group [])) in
    omega (arith, below, has_room count, c.self.invariant.long group within, ap length read)

pub returns : goal.returns
returns c =
    let rows = c.self.inside.rows.items in
    let count = c.self.inside.modules in
    let group = c.args.group in
    let within : group < length rows = omega (arith, c.requires.group, ap length c.self.view_is, length-map rows (flags_of count)) in
    let read : c.index.result.now ≡ get_or rows group [] = c.index.ensures ∙ get_or_default rows group c.index.result.now [] within in
    let flags = sym (row_of count rows group within) ∙ ap (λ l. get_or l group []) c.self.view_is in
    let below : c.args.module < count = omega (arith, c.requires.module, ap length flags, length_flags count (get_or rows group [])) in
    c.has.ensures ∙ ap (λ r. flag_in r c.args.module) read ∙ sym (read_below count (get_or rows group []) c.args.module below) ∙ ap (λ l. get_or l c.args.module false) flags

use Rattle.std.proofs.Common.{◌≡◌, ◌*◌, ◌/◌, ◌%◌, ◌^◌, ◌<◌, ◌||◌, bit_or, nat_eq, length, get_or, ap, ◌∙◌, arith}
use Rattle.std.proofs.lemmas.List.{get_or_default}
use Rattle.std.proofs.Math.ListN.{set}
use Rattle.avail_sets.specs.Words.{flag_in}
use Rattle.avail_sets.proofs.Flags.{flag_set}
use Rattle.avail_sets.proofs.row.Row.set.Goals as goal

pub returns-clause-flags : goal.returns-clause-flags
returns-clause-flags c other =
    let words = c.self.inside.words.items in
    let number = c.args.number in
    let within : number / 64 < length words = omega (arith, c.requires, ap length c.self.view_is) in
    let word : c.index_mut.result.now ≡ get_or words (number / 64) 0 = c.index_mut.ensures.value ∙ get_or_default words (number / 64) c.index_mut.result.now 0 within in
    ap (λ w. flag_in (set words (number / 64) (bit_or w (1 * 2 ^ (number % 64) % 2 ^ 64))) other) word ∙ flag_set words number within other
    ∙ ap (λ r. nat_eq other number || flag_in r other) c.self.view_is

use Rattle.std.proofs.Common.{◌≡◌, ◌/◌, ◌%◌, ◌^◌, ◌<◌, bit_and, nat_eq, length, get_or, ap, ◌∙◌, arith}
use Rattle.std.proofs.lemmas.List.{get_or_default}
use Rattle.std.proofs.lemmas.Nat.Bits.{shr_and_one}
use Rattle.avail_sets.specs.Words.{flag_in}
use Rattle.avail_sets.proofs.row.Row.has.Goals as goal

pub returns : goal.returns
returns c =
    let words = c.self.inside.words.items in
    let number = c.args.number in
    let within : number / 64 < length words = omega (arith, c.requires, ap length c.self.view_is) in
    let word : c.index.result.now ≡ get_or words (number / 64) 0 = c.index.ensures ∙ get_or_default words (number / 64) c.index.result.now 0 within in
    ap (λ w. nat_eq (bit_and (w / 2 ^ (number % 64)) 1) 1) word ∙ ap (λ b. nat_eq b 1) (shr_and_one (get_or words (number / 64) 0) (number % 64))
    ∙ ap (λ r. flag_in r number) c.self.view_is

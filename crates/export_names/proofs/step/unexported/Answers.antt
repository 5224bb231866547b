use Rattle.std.proofs.Common.{refl, sym, ◌∙◌}
use Rattle.std.proofs.lemmas.Bool.{true≢false}
use Rattle.export_names.proofs.Asking.{row_there}
use Rattle.export_names.proofs.Opening.{opens_default, opens_stars}
use Rattle.export_names.proofs.step.unexported.Goals as goal

pub returns-then-is_default : goal.returns-then-is_default
returns-then-is_default c =
    let there = row_there c.args.resolver.now c.args.module c.requires.module in
    opens_default c.args.resolver.now c.args.module c.args.name.now there.0 there.1 (c.requires.none there.0 there.1) (c.is_default.ensures.0 c.if-is_default.true)

pub returns : goal.returns
returns c =
    let row = c.row-row.result.now in
    let at = c.row-row.ensures.at in
    opens_stars c.args.resolver.now c.args.module c.args.name.now row at c.row-row.ensures.fits _ c.as_slice.ensures refl c.as_slice-2.ensures refl (c.requires.none row at)
    (λ is. true≢false (sym (c.is_default.ensures.1 is) ∙ c.if-is_default.false))

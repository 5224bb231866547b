use Rattle.std.proofs.Common.{sym, ◌∙◌}
use Rattle.es_facts.proofs.Exported.{by_default, by_outer, by_own}
use Rattle.es_facts.proofs.faults.exporting_name.Goals as goal

pub returns-then-says_default : goal.returns-then-says_default
returns-then-says_default c = by_default c.args.outlined.now c.args.place (sym c.says_default.ensures ∙ c.if-says_default.true)

pub returns-then-says_outer : goal.returns-then-says_outer
returns-then-says_outer c = by_outer c.args.outlined.now c.args.place (sym c.says_outer.ensures ∙ c.if-says_outer.true)

pub returns : goal.returns
returns c =
    by_own c.args.outlined.now c.args.place (sym c.says_default.ensures ∙ c.if-says_default.false) (sym c.says_outer.ensures ∙ c.if-says_outer.false)
    c.requires.exports.0 c.requires.exports.1

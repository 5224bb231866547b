use Rattle.std.proofs.Common.{sym, ◌∙◌}
use Rattle.es_asks.proofs.ForwardingLaws.{nothing_forwarded}
use Rattle.es_asks.proofs.forwarded.Forwarded.of_text.Goals as goal

pub returns-else-exports_names : goal.returns-else-exports_names
returns-else-exports_names c =
    nothing_forwarded c.args.outlined.now c.none.result (sym c.exports_names.ensures ∙ c.if-exports_names.false) c.none.ensures

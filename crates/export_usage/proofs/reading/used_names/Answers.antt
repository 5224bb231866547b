use Rattle.std.proofs.Common.{length, Contains, sym, subst, ◌∙◌, arith}
use Rattle.export_usage.specs.Reading.{IsInRange, AreByModule, IsRead}
use Rattle.export_usage.proofs.ReadOff.{in_range, has_use}
use Rattle.export_usage.proofs.reading.used_names.Goals as goal

pub by_module-requires : goal.by_module-requires
by_module-requires c =
    let texts = c.as_slice-2.ensures.value ∙ c.in_ok-texts.ensures in
    λ fact m. subst (λ n. IsInRange c.as_slice-2.result.now n fact) (sym c.len-count.ensures)
    (subst (λ t. IsInRange t (length c.args.graph.now.rows) fact) (sym texts)
    (in_range c.args.graph.now c.in_ok-facts.facts c.in_ok-facts.ensures fact (subst (λ l. Contains l fact) c.as_slice.ensures.keys m)))

pub returns : goal.returns
returns c =
    let graph = c.args.graph.now in
    let facts = c.in_ok-facts.facts in
    let through = c.in_ok-through.through in
    let texts = c.as_slice-2.ensures.value ∙ c.in_ok-texts.ensures in
    let by = subst (λ t. AreByModule t facts.known.keys (length graph.rows) through) texts
    (subst (λ l. AreByModule c.as_slice-2.result.now l (length graph.rows) through) c.as_slice.ensures.keys
    (subst (λ n. AreByModule c.as_slice-2.result.now c.as_slice.result.now n through) c.len-count.ensures c.in_ok-through.ensures)) in
    has_use graph facts c.in_ok-facts.ensures through c.in_ok-used.used by
    (subst (λ n. IsRead n through c.in_ok-used.used) (omega (arith, c.len-count.ensures, c.requires.few_rows)) c.in_ok-used.ensures)

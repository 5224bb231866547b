use Rattle.std.proofs.Common.{◌+◌, get_or, take, take_all, sym, subst, ◌∙◌, arith}
use Rattle.std.proofs.lemmas.List.{take_more}
use Rattle.std.proofs.lemmas.List.Elements.{Contains-get_or}
use Rattle.export_usage.specs.declared.facts.Fact.TheVariants.{Reached}
use Rattle.prune_graph.specs.Gathering.{Gains}
use Rattle.export_usage.specs.Reading.{IsInRange}
use Rattle.export_usage.proofs.ReadOff.{OneSaysName, OneSaysSpace, said_none, said_more, by_module}
use Rattle.export_usage.proofs.reading.by_module.Goals as goal

pub loop-fact-init : goal.loop-fact-init
loop-fact-init c = said_none c.args.texts.now c.in_ok-through.through

pub add_fact-requires : goal.add_fact-requires
add_fact-requires c =
    let facts = c.args.facts.now in
    let fact = get_or facts c.loop-fact.fact-index (Reached 0) in
    let there = Contains-get_or facts c.loop-fact.fact-index (Reached 0) c.loop-fact-test.true in
    let names = c.loop-fact.invariant.each_names ∙ c.in_ok-through.ensures.requests.names in
    record {
      names = subst (λ n. IsInRange c.args.texts.now n fact) (sym names) (c.requires fact there);
      spaces = c.loop-fact.invariant.each_spaces ∙ c.in_ok-through.ensures.requests.spaces ∙ sym names;
    }

pub loop-fact-preserved : goal.loop-fact-preserved
loop-fact-preserved c =
    let facts = c.args.facts.now in
    let place = c.loop-fact.fact-index in
    said_more c.args.texts.now c.in_ok-through.through c.loop-fact.through c.add_fact.new.through (take place facts) (take (place + 1) facts) (get_or facts place (Reached 0))
    (take_more facts place (Reached 0) c.loop-fact-test.true) c.loop-fact.invariant c.in_ok-add_fact.ensures

pub returns : goal.returns
returns c =
    let facts = c.args.facts.now in
    let end = take_all c.loop-fact.fact-index facts (omega (arith, c.loop-fact-test.false)) in
    by_module c.args.texts.now c.in_ok-through.through c.loop-fact.through facts c.args.count c.in_ok-through.ensures
    (subst (λ l. Gains c.in_ok-through.through (OneSaysName c.args.texts.now l) (OneSaysSpace l) c.loop-fact.through) end c.loop-fact.invariant)

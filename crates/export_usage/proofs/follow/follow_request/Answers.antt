use Rattle.std.proofs.Common.{sym, subst, ◌∙◌}
use Rattle.std.proofs.lemmas.Bool.{true≢false}
use Rattle.prune_graph.specs.Gathering.{the_names}
use Rattle.export_usage.specs.Claims.{AreUsed, Learns}
use Rattle.export_usage.proofs.Following.{with_space, without_space}
use Rattle.export_usage.proofs.follow.follow_request.Goals as goal

pub returns-then-not-is_space : goal.returns-then-not-is_space
returns-then-not-is_space c =
    without_space c.args.through.now c.args.request c.args.target (the_names c.in_ok-names.names.items) c.in_ok-names.ensures.each c.args.facts.now c.put_names.new.facts c.put_names.new.facts
    (subst (λ l. Learns c.args.facts.now (AreUsed c.args.target (the_names l)) c.put_names.new.facts) c.as_slice.ensures.value c.in_ok-put_names.ensures)
    (λ space. true≢false (sym space ∙ sym c.is_space.ensures ∙ c.if-not-is_space.true))

pub returns : goal.returns
returns c =
    with_space c.args.through.now c.args.request c.args.target (the_names c.in_ok-names.names.items) c.in_ok-names.ensures.each c.args.facts.now c.put_names.new.facts c.put_space.new.self
    (subst (λ l. Learns c.args.facts.now (AreUsed c.args.target (the_names l)) c.put_names.new.facts) c.as_slice.ensures.value c.in_ok-put_names.ensures)
    (sym c.is_space.ensures ∙ c.if-not-is_space.false) c.in_ok-put_space.ensures

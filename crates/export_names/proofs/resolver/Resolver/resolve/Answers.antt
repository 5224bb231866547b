use Rattle.std.proofs.Common.{◌-◌, take, append-nil, ap, subst, ◌∙◌}
use Rattle.pk_types.specs.declared.graph.Graph.{Graph}
use Rattle.export_names.specs.Searching.{pairs, GoesOn}
use Rattle.export_names.proofs.Searching.{IsSearch, ends, stars_on, answer_on}
use Rattle.export_names.proofs.resolver.Resolver.resolve.Goals as goal

pub returns-in-None-clause-found : goal.returns-in-None-clause-found
returns-in-None-clause-found c =
    let visited = pairs c.steps.visited.keys in
    let now = subst (λ s. IsSearch c.args.self.now c.args.module c.args.name.now visited s c.steps.waiting.items) c.in-Answer.is c.steps.invariant.search in (
      visited,
      ends c.args.self.now c.args.module c.args.name.now visited c.in-Answer.found c.steps.waiting.items
          (c.in-None.ensures.items ∙ append-nil c.pop.new.self.items ∙ c.in-None.ensures.rest ∙ ap (λ n. take (n - 1) c.steps.waiting.items) c.in-None.ensures.cases.0) now,
    )

pub steps-preserved-in_ok-step-in-Stars : goal.steps-preserved-in_ok-step-in-Stars
steps-preserved-in_ok-step-in-Stars c =
    let visited = pairs c.steps.visited.keys in
    let now = subst (λ s. IsSearch c.args.self.now c.args.module c.args.name.now visited s c.steps.waiting.items) c.in-Stars.is c.steps.invariant.search in
    record {
      same = c.steps.invariant.same;
      search = stars_on c.args.self.now c.args.module c.args.name.now visited c.steps.waiting.items c.ask_next.new.waiting.items c.in-Stars.stars c.in_ok-step-in-Stars.step now
          (subst (λ (graph : Graph). GoesOn graph c.in-Stars.stars c.steps.waiting.items c.ask_next.new.waiting.items c.in_ok-step-in-Stars.step) c.steps.invariant.same c.in_ok-step-in-Stars.ensures);
    }

pub steps-preserved : goal.steps-preserved
steps-preserved c =
    let visited = pairs c.steps.visited.keys in
    let now = subst (λ s. IsSearch c.args.self.now c.args.module c.args.name.now visited s c.steps.waiting.items) c.in-Answer.is c.steps.invariant.search in
    record {
      same = c.steps.invariant.same;
      search = answer_on c.args.self.now c.args.module c.args.name.now visited c.steps.waiting.items c.pop.new.self.items c.in-Some.stars c.in-Answer.found c.answer.result c.in-Some.ensures.items now c.answer.ensures;
    }

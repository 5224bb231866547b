use Rattle.std.proofs.Common.{◌≡◌, ◌⊎◌, inl, inr, ⊎_elim, ◌<◌, length, get_or, sym, ap, subst, ◌∙◌, arith}
use Rattle.std.specs.List.{Contains}
use Rattle.std.proofs.lemmas.List.Elements.{Contains-get_or}
use Rattle.pk_types.specs.SplitCandidates.{path_of}
use Rattle.pk_types.specs.SplitPicks.{IsBefore}
use Rattle.split_chunks.proofs.Orders.{before_paths, least_more, least_of_all}
use Rattle.split_chunks.proofs.order.least.Goals.{then-comes_before, else-comes_before}
use Rattle.split_chunks.proofs.order.least.Goals as goal

pub loop-member-preserved : goal.loop-member-preserved
loop-member-preserved c =
    let graph = c.args.graph.now in
    let modules = c.args.modules.now in
    let at = c.loop-member.member-index in
    let least = c.loop-member.least in
    let next = c.if-comes_before.least in
    let inside : at < length modules = c.loop-member-test.true in
    let either : ((next ≡ get_or modules at 0) × IsBefore (path_of graph next) (path_of graph least)) ⊎ ((next ≡ least) × (¬ IsBefore (path_of graph (get_or modules at 0)) (path_of graph least)))
    = elim c.if-comes_before.branch [
      | then-comes_before w ↦ inl (
        w.least-is,
        before_paths c.path.result.now c.path-in-loop-member.result.now (path_of graph next) (path_of graph least)
            (c.path.ensures ∙ ap (path_of graph) (sym w.least-is)) c.path-in-loop-member.ensures (c.comes_before.ensures.before w.if-comes_before.true),
      )
      | else-comes_before w ↦ inr (
        w.least-is,
        λ before. c.comes_before.ensures.not_before w.if-comes_before.false
            (before_paths (path_of graph (get_or modules at 0)) (path_of graph least) c.path.result.now c.path-in-loop-member.result.now (sym c.path.ensures) (sym c.path-in-loop-member.ensures) before),
      )
    ] in
    record {
      among = ⊎_elim (λ one. subst (Contains modules) (sym one.0) (Contains-get_or modules at 0 inside)) (λ old. subst (Contains modules) (sym old.0) c.loop-member.invariant.among) either;
      least = least_more graph modules least next at inside c.loop-member.invariant.least either;
    }

pub returns : goal.returns
returns c = record {
  among = c.loop-member.invariant.among;
  least = λ member among. least_of_all c.args.graph.now c.args.modules.now c.loop-member.least c.loop-member.member-index
      (omega (arith, c.loop-member-test.false)) c.loop-member.invariant.least member among;
}

use Rattle.std.proofs.Common.{◌+◌, drop, refl, sym, ap, ◌∙◌}
use Rattle.std.specs.Map.{keys_of}
use Rattle.module_graph.specs.Known.{with_paths}
use Rattle.watch_core.specs.Trees.{looked_at}
use Rattle.watch_core.proofs.Looking.{next, stops_first, stops_looking, goes_first, goes_looking}
use Rattle.watch_core.proofs.Seeing.{looks_nothing, then_sights}
use Rattle.watch_core.proofs.sights.Sights.first_there.Goals as goal

pub returns-then-branch-clause-value : goal.returns-then-branch-clause-value
returns-then-branch-clause-value g c = λ t h.
    let there = c.in_ok-is_there.ensures.value t (c.loop-path.invariant.keeps.sees t h) in
    sym (stops_first t _ c.path-item.result _ (next c.args.paths.now c.loop-path.path-index c.path-item.result c.path-item.is c.loop-path-test.true) (sym there ∙ c.if-branch.true)) ∙ c.loop-path.invariant.first t h

pub returns-then-branch-clause-keys : goal.returns-then-branch-clause-keys
returns-then-branch-clause-keys g c = λ t h.
    let there = c.in_ok-is_there.ensures.value t (c.loop-path.invariant.keeps.sees t h) in
    c.in_ok-is_there.ensures.keys
    ∙ sym (stops_looking t (keys_of c.loop-path.self) _ c.path-item.result _ (next c.args.paths.now c.loop-path.path-index c.path-item.result c.path-item.is c.loop-path-test.true) (sym there ∙ c.if-branch.true))
    ∙ c.loop-path.invariant.keys t h

pub loop-path-preserved : goal.loop-path-preserved
loop-path-preserved g c =
    let left = next c.args.paths.now c.loop-path.path-index c.path-item.result c.path-item.is c.loop-path-test.true in
    record {
      keeps = then_sights _ _ _ _ _ _ c.loop-path.invariant.keeps c.in_ok-is_there.ensures.looks;
      keys = λ t h.
          let there = c.in_ok-is_there.ensures.value t (c.loop-path.invariant.keeps.sees t h) in
          ap (λ keys. with_paths keys (looked_at t (drop (c.loop-path.path-index + 1) c.args.paths.now))) c.in_ok-is_there.ensures.keys
          ∙ sym (goes_looking t (keys_of c.loop-path.self) _ c.path-item.result _ left (sym there ∙ c.if-branch.false))
          ∙ c.loop-path.invariant.keys t h;
      first = λ t h.
          let there = c.in_ok-is_there.ensures.value t (c.loop-path.invariant.keeps.sees t h) in
          sym (goes_first t _ c.path-item.result _ left (sym there ∙ c.if-branch.false)) ∙ c.loop-path.invariant.first t h;
    }

pub loop-path-init : goal.loop-path-init
loop-path-init g c = record { keeps = looks_nothing (g.F.Files.means c.args.files.now) c.args.self.now; keys = λ t h. refl; first = λ t h. refl }

pub returns-then-branch-clause-looks : goal.returns-then-branch-clause-looks
returns-then-branch-clause-looks g c = then_sights _ _ _ _ _ _ c.loop-path.invariant.keeps c.in_ok-is_there.ensures.looks

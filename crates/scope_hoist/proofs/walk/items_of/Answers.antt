use Rattle.std.proofs.Common.{◌≡◌, ◌-◌, ◌∷◌, ◌++◌, [], nat_eq, take, append-nil, ap, ◌∙◌}
use Rattle.indexmap.specs.IndexSet.{insert_key}
use Rattle.scope_hoist.proofs.Walking.{walking_starts, frame_low, walks_on, walk_less, walking_ends}
use Rattle.scope_hoist.proofs.walk.items_of.Goals as goal

pub loop-frame-init : goal.loop-frame-init
loop-frame-init c = walking_starts c.args.edges.now c.args.roots.now c.args.root _ _ _ c.requires.root
    (c.in_ok-meet.ensures ∙ ap (λ met. insert_key nat_eq met c.args.root) c.clear.ensures) (c.in_ok-push.ensures.items ∙ ap (λ l. l ++ record { «module» = c.args.root; next = 0 } ∷ []) c.new-stack.ensures.items)
    c.new-items.ensures.items

pub step-requires-clause-frame : goal.step-requires-clause-frame
step-requires-clause-frame c = frame_low c.args.edges.now c.args.roots.now c.args.root c.in-Some.frame c.loop-frame.met c.loop-frame.met c.loop-frame.stack.items c.pop.new.self.items
    c.pop.new.self.items c.loop-frame.items.items c.loop-frame.items.items c.requires.roots c.requires.edges c.loop-frame.invariant c.in-Some.ensures.items

pub loop-frame-smaller : goal.loop-frame-smaller
loop-frame-smaller c = walk_less c.args.edges.now c.args.roots.now c.args.root c.in-Some.frame c.loop-frame.met c.step.new.met c.loop-frame.stack.items c.pop.new.self.items
    c.step.new.stack.items c.loop-frame.items.items c.step.new.items.items c.requires.roots c.requires.edges c.loop-frame.invariant c.in-Some.ensures.items c.in_ok-step.ensures

pub loop-frame-preserved : goal.loop-frame-preserved
loop-frame-preserved c = walks_on c.args.edges.now c.args.roots.now c.args.root c.in-Some.frame c.loop-frame.met c.step.new.met c.loop-frame.stack.items c.pop.new.self.items
    c.step.new.stack.items c.loop-frame.items.items c.step.new.items.items c.requires.roots c.requires.edges c.loop-frame.invariant c.in-Some.ensures.items c.in_ok-step.ensures

pub returns : goal.returns
returns c =
    let none : c.loop-frame.stack.items ≡ [] =
    c.in_default.ensures.items ∙ append-nil c.pop.new.self.items ∙ c.in_default.ensures.rest ∙ ap (λ n. take (n - 1) c.loop-frame.stack.items) c.in_default.ensures.cases.0 in
    walking_ends c.args.edges.now c.args.roots.now c.args.root c.loop-frame.met c.loop-frame.stack.items c.loop-frame.items.items c.loop-frame.invariant none

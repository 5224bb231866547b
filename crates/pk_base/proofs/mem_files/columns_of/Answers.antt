use Rattle.std.proofs.Common.{ap, ◌∙◌, ◌≡◌, ◌∷◌, ◌++◌, map, length, vec_len, Some}
use Rattle.std.proofs.lemmas.List.Elements.{All-cons, All-pop, All-same}
use Rattle.pk_base.specs.Memory.{AreKnown, held_in}
use Rattle.pk_base.specs.Trees.{held_of}
use Rattle.pk_base.proofs.Columns.{one_more}
use Rattle.pk_base.proofs.mem_files.columns_of.Goals as goal

pub column_of-requires : goal.column_of-requires
column_of-requires c = (All-pop (λ t. AreKnown c.args.paths.now t.files) c.loop-tree.trees.items c.pop.new.self.items (Some c.in-Some.tree) c.in-Some.ensures.items c.loop-tree.invariant.known).1

pub loop-tree-preserved : goal.loop-tree-preserved
loop-tree-preserved c =
    let paths = c.args.paths.now in
    let rest = c.pop.new.self.items in
    let column = c.in_ok-column_of.field-0 in
    let columns = c.loop-tree.columns.items in
    let new = c.push_front.new.self.items in
    record {
      known = (All-pop (λ t. AreKnown paths t.files) c.loop-tree.trees.items rest (Some c.in-Some.tree) c.in-Some.ensures.items c.loop-tree.invariant.known).0;
      len = All-same (λ k. vec_len k ≡ length paths) new (column ∷ columns) c.in_ok-push_front.ensures.items (All-cons (λ k. vec_len k ≡ length paths) column columns c.in_ok-column_of.ensures.len c.loop-tree.invariant.len);
      held = ap (λ ks. map held_of rest ++ map (λ k. held_in paths k.items) ks) c.in_ok-push_front.ensures.items
          ∙ one_more held_of (λ k. held_in paths k.items) c.loop-tree.trees.items rest c.in-Some.tree columns column (map held_of c.args.trees.items) c.in-Some.ensures.items c.in_ok-column_of.ensures.held c.loop-tree.invariant.held;
    }

use Rattle.std.proofs.Common.{◌≡◌, sym, get_or, take}
use Rattle.std.specs.Option.{IsSome}
use Rattle.std.proofs.lemmas.List.{take_all}
use Rattle.std.proofs.lemmas.List.Elements.{All-more, All-same, All-weaker}
use Rattle.pk_base.specs.Memory.{AreKnown}
use Rattle.pk_text.specs.Places.{place_of}
use Rattle.pk_base.proofs.mem_files.list_all.Goals as goal

pub loop-tree-preserved : goal.loop-tree-preserved
loop-tree-preserved c =
    let old = c.loop-tree.paths in
    let new = c.list_paths.new.paths in
    let trees = c.args.trees.now in
    let i = c.loop-tree.tree-index in
    let tree = c.tree-item.result in
    let e : (get_or trees i tree).files ≡ c.as_slice.result.now = cc in
    All-more (λ t. AreKnown new t.files) trees i tree c.loop-tree-test.true
    (All-weaker (λ t. AreKnown old t.files) (λ t. AreKnown new t.files) (λ t. All-weaker (λ file. IsSome (place_of old file.0)) (λ file. IsSome (place_of new file.0)) (λ file. c.list_paths.ensures.kept file.0) t.files) (take i trees) c.loop-tree.invariant)
    (All-same (λ file. IsSome (place_of new file.0)) (get_or trees i tree).files c.as_slice.result.now e c.in_ok-list_paths.ensures.known)

pub returns : goal.returns
returns c = All-same (λ t. AreKnown c.loop-tree.paths t.files) c.args.trees.now (take c.loop-tree.tree-index c.args.trees.now) (sym (take_all c.loop-tree.tree-index c.args.trees.now c.loop-tree-test.false)) c.loop-tree.invariant

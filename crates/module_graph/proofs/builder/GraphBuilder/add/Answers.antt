use Rattle.std.proofs.Common.{◌≡◌, ◌∷◌, ◌++◌, [], length, map, take, slice_get, get_or, IsTrue, sym, ap, subst, ◌∙◌, arith}
use Rattle.std.proofs.lemmas.List.{get_or_default}
use Rattle.std.proofs.lemmas.Grind.{common_steps}
use Rattle.pk_base.specs.Paths.{is_path}
use Rattle.module_graph.specs.Building.{Building, IsWanting, wanted_path, row_of}
use Rattle.module_graph.specs.Known.{with_paths, numbers_in}
use Rattle.module_graph.proofs.Builds.{adds, same_building}
use Rattle.module_graph.proofs.Sights.{by_path, keeps}
use Rattle.module_graph.proofs.builder.GraphBuilder.add.Goals as goal

pub invariant_of-self-2 : goal.invariant_of-self-2
invariant_of-self-2 c =
    let here : Building = record { known = c.self.inside.known.keys; rows = c.self.inside.rows.items; entries = c.self.inside.entries.items } in
    let wanted = subst IsWanting (sym c.self.view_is) c.requires.wanted in
    let at : wanted_path here ≡ c.index-as_slice-len.result =
    get_or_default c.self.inside.known.keys (length c.self.inside.rows.items) [] c.index-as_slice-len.result wanted
    ∙ ap (λ l. get_or l (length c.self.inside.rows.items) c.index-as_slice-len.result) (sym c.as_slice.ensures.keys)
    ∙ ap (λ n. get_or c.as_slice.result.now n c.index-as_slice-len.result) (cc c.len.ensures) ∙ sym c.index-as_slice-len.is in
    let path : IsTrue (is_path (wanted_path here)) = subst (λ t. IsTrue (is_path t)) (sym at) c.as_bytes.ensures.path in
    let row : c.push.new.self.items ≡ c.self.inside.rows.items ++ row_of here (with_paths c.self.inside.known.keys c.args.targets.items) c.args.facts c.args.targets.items c.args.flagged c.args.size ∷ [] = grind (arith, common_steps) in
    same_building c.number.new.known.keys (with_paths c.self.inside.known.keys c.args.targets.items) c.push.new.self.items
    (c.self.inside.rows.items ++ row_of here (with_paths c.self.inside.known.keys c.args.targets.items) c.args.facts c.args.targets.items c.args.flagged c.args.size ∷ [])
    c.self.inside.entries.items c.self.inside.entries.items
    c.in_ok-targets.ensures.known row (λ _. c.self.inside.entries.items)
    (adds c.self.inside.known.keys c.self.inside.rows.items c.self.inside.entries.items c.self.invariant wanted c.args.facts c.args.targets.items c.args.flagged c.args.size c.requires.facts c.requires.each c.in_ok-targets.ensures.few path)

pub returns-clause-by_path : goal.returns-clause-by_path
returns-clause-by_path c =
    ap (λ l. map (slice_get l) (numbers_in l c.args.targets.items)) c.in_ok-targets.ensures.known
    ∙ by_path c.args.targets.items c.self.inside.known.keys

pub returns-clause-kept : goal.returns-clause-kept
returns-clause-kept c =
    rw (← c.self.view_is) (ap (λ l. take (length c.self.inside.known.keys) l) c.in_ok-targets.ensures.known ∙ keeps c.args.targets.items c.self.inside.known.keys)

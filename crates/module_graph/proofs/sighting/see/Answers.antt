use Rattle.std.proofs.Common.{◌+◌, [], ◌∷◌, ◌++◌, length, take, sym, ap, ◌∙◌, arith}
use Rattle.std.proofs.lemmas.Iterator.Consumers.{YieldsList-turn, YieldsList-so_far}
use Rattle.std.proofs.lemmas.Iterator.Adapters.{YieldsList-from_vec}
use Rattle.std.proofs.lemmas.List.{map-id}
use Rattle.module_graph.specs.Known.{with_path, with_paths, number_in, numbers_in}
use Rattle.module_graph.proofs.Sights.{keeps, with_one_more, numbers_one_more, fewer_before, count_grows, beginning}
use Rattle.module_graph.proofs.sighting.see.Goals as goal

pub returns-in_err-number-clause-kept : goal.returns-in_err-number-clause-kept
returns-in_err-number-clause-kept c =
    ap (λ l. take (length c.args.known.now.keys) l) (c.in_err-number.ensures.err ∙ c.loop-path.invariant.known) ∙ keeps c.loop-path.yielded c.args.known.now.keys

pub returns-then-number-ge-MAX_MODULES-clause-too_many :
    goal.returns-then-number-ge-MAX_MODULES-clause-too_many
returns-then-number-ge-MAX_MODULES-clause-too_many c = λ e.
    let road = YieldsList-from_vec c.args.paths.items (cc) (cc) in
    let turn = YieldsList-turn road c.loop-path.yielded _ c.loop-path.yielded_by _ c.next.new.self c.in-Some.path c.in-Some.is c.next.ensures.steps in
    let before = YieldsList-so_far road c.loop-path.yielded _ c.loop-path.yielded_by in
    let known = c.in_ok-number.ensures.keys ∙ ap (λ l. with_path l c.in-Some.path) c.loop-path.invariant.known ∙ sym (with_one_more c.loop-path.yielded c.args.known.now.keys c.in-Some.path) in
    let so_far = beginning c.args.paths.items c.loop-path.yielded c.in-Some.path turn.0 turn.1 (sym (map-id c.loop-path.yielded) ∙ before) in
    let grown = ap length (known ∙ ap (λ l. with_paths c.args.known.now.keys l) so_far) in
    omega (arith, c.in_ok-number.ensures.within, c.if-number-ge-MAX_MODULES.true, grown, fewer_before c.args.paths.items c.args.known.now.keys (length c.loop-path.yielded + 1))

pub returns-then-number-ge-MAX_MODULES-clause-kept :
    goal.returns-then-number-ge-MAX_MODULES-clause-kept
returns-then-number-ge-MAX_MODULES-clause-kept c =
    let known = c.in_ok-number.ensures.keys ∙ ap (λ l. with_path l c.in-Some.path) c.loop-path.invariant.known ∙ sym (with_one_more c.loop-path.yielded c.args.known.now.keys c.in-Some.path) in
    ap (λ l. take (length c.args.known.now.keys) l) known ∙ keeps (c.loop-path.yielded ++ c.in-Some.path ∷ []) c.args.known.now.keys

pub loop-path-preserved : goal.loop-path-preserved
loop-path-preserved c =
    let known = c.in_ok-number.ensures.keys ∙ ap (λ l. with_path l c.in-Some.path) c.loop-path.invariant.known ∙ sym (with_one_more c.loop-path.yielded c.args.known.now.keys c.in-Some.path) in
    record {
      known = known;
      numbers = c.in_ok-push.ensures.items ∙ ap (λ l. l ++ c.in_ok-number.number ∷ []) c.loop-path.invariant.numbers
          ∙ ap (λ n. numbers_in (with_paths c.args.known.now.keys c.loop-path.yielded) c.loop-path.yielded ++ n ∷ []) (c.in_ok-number.ensures.index ∙ ap (λ l. number_in l c.in-Some.path) c.loop-path.invariant.known)
          ∙ sym (numbers_one_more c.loop-path.yielded c.args.known.now.keys c.in-Some.path);
      few = omega (arith, ap length c.in_ok-number.ensures.keys, count_grows c.loop-path.known.keys c.in-Some.path, c.in_ok-number.ensures.index, c.if-number-ge-MAX_MODULES.false, c.loop-path.invariant.few);
    }

pub returns-in_err-push-clause-kept : goal.returns-in_err-push-clause-kept
returns-in_err-push-clause-kept c =
    let known = c.in_ok-number.ensures.keys ∙ ap (λ l. with_path l c.in-Some.path) c.loop-path.invariant.known ∙ sym (with_one_more c.loop-path.yielded c.args.known.now.keys c.in-Some.path) in
    ap (λ l. take (length c.args.known.now.keys) l) known ∙ keeps (c.loop-path.yielded ++ c.in-Some.path ∷ []) c.args.known.now.keys

pub returns-clause-kept : goal.returns-clause-kept
returns-clause-kept c =
    ap (λ l. take (length c.args.known.now.keys) l) c.loop-path.invariant.known ∙ keeps c.loop-path.yielded c.args.known.now.keys

use Rattle.std.proofs.Common.{◌≡◌, ⊎_elim, ◌<◌, [], length, get_or, sym, ap, subst, ◌∙◌, arith}
use Rattle.std.specs.List.{All}
use Rattle.std.proofs.lemmas.Bool.{cases_lt}
use Rattle.std.proofs.lemmas.List.{get_or_default}
use Rattle.pk_types.specs.ChunkClauses.{row_at}
use Rattle.pk_types.specs.SplitCandidates.{IsCandidate}
use Rattle.pk_types.proofs.SplitLaws.{modules_in_range}
use Rattle.split_chunks.specs.States.{state_of}
use Rattle.split_chunks.specs.Choices.{Yields}
use Rattle.split_chunks.specs.Picking.{candidate_at}
use Rattle.split_chunks.proofs.Lists.{all_of}
use Rattle.split_chunks.proofs.Gathers.{is_candidate}
use Rattle.split_chunks.proofs.PickSteps.{few_modules, yields_group}
use Rattle.split_chunks.proofs.picks.best_of.Goals as goal

pub bytes_of-requires-clause-within : goal.bytes_of-requires-clause-within
bytes_of-requires-clause-within c =
    let graph = c.args.graph.now in
    let config = c.args.config.now in
    let state = state_of c.args.state.now in
    let cache = c.args.cache.now in
    let gathered = c.args.gathered.now in
    let place = c.loop-place.place in
    let inside : place < length gathered.sets.keys = subst (λ l. place < length l) c.as_slice-set-items.ensures.keys c.loop-place-test.true in
    let is = is_candidate graph config state cache gathered c.requires.gathered c.requires.cache place inside in
    let low : place < length gathered.members.items = omega (arith, inside, c.requires.gathered.each) in
    let read = c.as_slice-modules.ensures ∙ c.index.ensures ∙ get_or_default gathered.members.items place c.index.result.now [] low in
    subst (All (λ member. member < length graph.rows)) (sym read)
    (all_of (λ member. member < length graph.rows) (row_at gathered.members.items place) (modules_in_range graph config state (candidate_at cache gathered place) is))

pub bytes_of-requires-clause-few : goal.bytes_of-requires-clause-few
bytes_of-requires-clause-few c =
    let graph = c.args.graph.now in
    let config = c.args.config.now in
    let state = state_of c.args.state.now in
    let cache = c.args.cache.now in
    let gathered = c.args.gathered.now in
    let place = c.loop-place.place in
    let inside : place < length gathered.sets.keys = subst (λ l. place < length l) c.as_slice-set-items.ensures.keys c.loop-place-test.true in
    let is = is_candidate graph config state cache gathered c.requires.gathered c.requires.cache place inside in
    let low : place < length gathered.members.items = omega (arith, inside, c.requires.gathered.each) in
    let read = c.as_slice-modules.ensures ∙ c.index.ensures ∙ get_or_default gathered.members.items place c.index.result.now [] low in
    let long = ap length read in
    let few = few_modules graph config state (candidate_at cache gathered place) is in
    omega (arith, long, few, c.requires.fits.few_rows)

pub better-requires-clause-choice : goal.better-requires-clause-choice
better-requires-clause-choice c =
    let graph = c.args.graph.now in
    let config = c.args.config.now in
    let state = state_of c.args.state.now in
    let cache = c.args.cache.now in
    let gathered = c.args.gathered.now in
    let place = c.loop-place.place in
    let inside : place < length gathered.sets.keys = subst (λ l. place < length l) c.as_slice-set-items.ensures.keys c.loop-place-test.true in
    let is = is_candidate graph config state cache gathered c.requires.gathered c.requires.cache place inside in
    let low : place < length gathered.members.items = omega (arith, inside, c.requires.gathered.each) in
    let read = c.as_slice-modules.ensures ∙ c.index.ensures ∙ get_or_default gathered.members.items place c.index.result.now [] low in
    let sets = c.as_slice.ensures ∙ c.set-item.is ∙ ap (λ l. get_or l place c.set-item.result) c.as_slice-set-items.ensures.keys ∙ get_or_default gathered.sets.keys place c.set-item.result [] inside in
    record {
      is = subst (IsCandidate graph config state) (λ i. record { cache_group = cache; chunks = sym sets i; modules = sym read i }) is;
      bytes = c.bytes_of.ensures;
    }

pub loop-place-preserved : goal.loop-place-preserved
loop-place-preserved c =
    let graph = c.args.graph.now in
    let config = c.args.config.now in
    let state = state_of c.args.state.now in
    let cache = c.args.cache.now in
    let gathered = c.args.gathered.now in
    let place = c.loop-place.place in
    let inside : place < length gathered.sets.keys = subst (λ l. place < length l) c.as_slice-set-items.ensures.keys c.loop-place-test.true in
    let is = is_candidate graph config state cache gathered c.requires.gathered c.requires.cache place inside in
    let low : place < length gathered.members.items = omega (arith, inside, c.requires.gathered.each) in
    let read = c.as_slice-modules.ensures ∙ c.index.ensures ∙ get_or_default gathered.members.items place c.index.result.now [] low in
    let sets = c.as_slice.ensures ∙ c.set-item.is ∙ ap (λ l. get_or l place c.set-item.result) c.as_slice-set-items.ensures.keys ∙ get_or_default gathered.sets.keys place c.set-item.result [] inside in
    let better = c.in_ok-best.ensures in
    let so_far = c.loop-place.invariant in
    record {
      so_far = better.so_far;
      yields = λ candidate yields. better.yields candidate (so_far.yields candidate yields);
      all = λ k below. ⊎_elim
          (λ early. better.yields (candidate_at cache gathered k) (so_far.all k early))
          (λ late. let same : place ≡ k = omega arith in
          subst (λ n. Yields graph config state c.in_ok-best.best (candidate_at cache gathered n)) same
          (subst (Yields graph config state c.in_ok-best.best) (λ i. record { cache_group = cache; chunks = sets i; modules = read i }) better.yields_it))
          (cases_lt k place);
    }

pub returns-clause-all : goal.returns-clause-all
returns-clause-all c = yields_group c.args.graph.now c.args.config.now (state_of c.args.state.now) c.args.cache.now c.args.gathered.now c.loop-place.best c.requires.gathered
    (λ k low. c.loop-place.invariant.all k (omega (arith, low, c.loop-place-test.false, ap length c.as_slice-set-items.ensures.keys)))

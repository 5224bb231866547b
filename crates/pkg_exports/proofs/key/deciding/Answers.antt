use Rattle.std.proofs.Common.{ℕ, List, MatchOption, ◌+◌, length, refl, arith, subst, sym}
use Rattle.std.proofs.lemmas.Option.{slice_get_read}
use Rattle.pkg_exports.specs.Keys.{Fits}
use Rattle.pkg_exports.specs.Choices.{IsFit, Chosen}
use Rattle.pkg_exports.proofs.Best.{chosen_more}
use Rattle.pkg_exports.proofs.key.deciding.Goals as goal

pub loop-place-preserved : goal.loop-place-preserved
loop-place-preserved c =
    let es = c.args.entries.now in
    let m = c.index-entries-place.result in
    let here = slice_get_read es (length es) c.loop-place.place m refl (omega arith) c.index-entries-place.is in
    let fit = subst (λ name. MatchOption c.fit_of.result ((p : List ℕ) → ¬ Fits c.args.key.now name p) (λ fit. IsFit c.loop-place.place c.args.key.now name fit)) c.as_slice.ensures c.fit_of.ensures in
    let more = chosen_more es c.args.key.now c.loop-place.place m here c.loop-place.best c.fit_of.result c.loop-place.invariant fit in
    subst (Chosen es c.args.key.now (c.loop-place.place + 1)) (sym c.better-best.ensures) more

pub returns : goal.returns
returns c = subst (λ n. Chosen c.args.entries.now c.args.key.now n c.loop-place.best) (omega arith) c.loop-place.invariant

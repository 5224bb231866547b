use Rattle.std.proofs.Common.{◌≡◌, ℕ, ◌+◌, ◌<◌, [], length, get_or, Some, true, false, slice_get, sym, ap, subst, ◌∙◌, arith}
use Rattle.std.specs.List.{Contains}
use Rattle.std.proofs.lemmas.Bool.{true≢false}
use Rattle.std.proofs.lemmas.List.{get_or_default}
use Rattle.std.proofs.lemmas.Option.{same_Some, slice_get-get_or, slice_get_within}
use Rattle.chunk_groups.specs.Gathered.{IsGathered, ImportsAt}
use Rattle.chunk_groups.proofs.Gathering.{passes, appends, gathered_all, all_same}
use Rattle.chunk_groups.proofs.grouping.import_targets.Goals as goal
use Rattle.chunk_groups.proofs.grouping.import_targets.Goals.{then-is_marked+in_ok-extend_from_slice, else-is_marked}

pub loop-number-preserved : goal.loop-number-preserved
loop-number-preserved c =
    let marks = c.args.marks.now in
    let imports = c.args.imports.now in
    let place = c.loop-number.number in
    let Gives = ImportsAt imports (λ k. slice_get marks k ≡ Some true) in
    let at = slice_get-get_or marks place false c.loop-number-test.true in
    elim c.if-is_marked.branch [
      | then-is_marked+in_ok-extend_from_slice w ↦
          let within : place < length imports = omega (arith, c.requires, c.loop-number-test.true) in
          let read : w.as_slice.result.now ≡ get_or imports place [] =
          w.as_slice.ensures ∙ w.index-imports-number.is ∙ get_or_default imports place w.index-imports-number.result [] within in
          subst (IsGathered [] Gives (place + 1)) (sym (ap (λ v. v.items) w.targets-is ∙ w.in_ok-extend_from_slice.ensures.items))
          (appends [] Gives place c.loop-number.targets.items c.loop-number.invariant w.as_slice.result.now
          (λ number. (
            λ gives. subst (λ l. Contains l number) (sym read) gives.1,
            λ there. (at ∙ ap Some w.if-is_marked.true, subst (λ l. Contains l number) read there),
          )))
      | else-is_marked w ↦
          subst (IsGathered [] Gives (place + 1)) (sym (ap (λ v. v.items) w.targets-is))
          (passes [] Gives place c.loop-number.targets.items c.loop-number.invariant
          (λ number gives. true≢false (same_Some true false (sym gives.0 ∙ at ∙ ap Some w.if-is_marked.false))))
    ]

pub returns : goal.returns
returns c =
    let marks = c.args.marks.now in
    let imports = c.args.imports.now in
    let Gives = ImportsAt imports (λ k. slice_get marks k ≡ Some true) in
    all_same (λ target. (place : ℕ) × (place < length marks) × Gives place target)
    (λ target. (number : ℕ) × (slice_get marks number ≡ Some true) × Contains (get_or imports number []) target) c.ascending.result.items
    (gathered_all Gives (length marks) c.loop-number.targets.items c.ascending.result.items
    (subst (λ count. IsGathered [] Gives count c.loop-number.targets.items) (omega (arith, c.loop-number-test.false, c.loop-number.auto.number-end)) c.loop-number.invariant)
    c.ascending.ensures)
    (λ target. (λ some. (some.0, some.2.0, some.2.1), λ some. (some.0, slice_get_within marks some.0 true some.1, (some.1, some.2))))

use Rattle.std.proofs.Common.{◌≡◌, ◌↔◌, ◌<◌, ℕ, false, Some, [], ◌∷◌, ◌++◌, length, get_or, slice_get, sym, ap, ◌∙◌, arith}
use Rattle.std.specs.List.{Contains}
use Rattle.std.proofs.lemmas.List.{get_or_default}
use Rattle.std.proofs.lemmas.Option.{slice_get-get_or}
use Rattle.pk_types.specs.HoistSets.{IsRequester}
use Rattle.chunk_groups.proofs.Gathering.{one_more}
use Rattle.scope_hoist.proofs.Gaining.{requests_here, requests_none, all_requests}
use Rattle.scope_hoist.proofs.lists.requests.Goals as goal
use Rattle.scope_hoist.proofs.lists.requests.Goals.{then-is_reached+in_ok-targets+in_ok-push, else-is_reached+in_ok-push-2}

pub loop-from-preserved : goal.loop-from-preserved
loop-from-preserved c =
    let active = c.args.active.now in
    let from = c.loop-from.from in
    let asks = c.loop-from.asks.items in
    let marks = c.as_slice-is_reached-items.result.now in
    let inside : from < length active.reached = omega (arith, c.loop-from-test.true, ap length c.as_slice-is_reached-items.ensures) in
    let within : from < length active.edges = omega (arith, inside, c.requires) in
    let read : slice_get active.reached from ≡ Some (get_or marks from false) =
    slice_get-get_or active.reached from false inside ∙ ap (λ l. Some (get_or l from false)) (sym c.as_slice-is_reached-items.ensures) in
    elim c.if-is_reached.branch [
      | then-is_reached+in_ok-targets+in_ok-push w ↦
          let more = one_more (λ k list. (target : ℕ) → Contains list target ↔ IsRequester active k target) asks w.in_ok-targets.targets.items c.if-is_reached.asks.items from
          c.loop-from.invariant.each c.loop-from.invariant.lists (requests_here active from w.in_ok-targets.targets.items (read ∙ ap Some w.if-is_reached.true)
          (w.in_ok-targets.ensures.items ∙ w.as_slice-then-is_reached.ensures ∙ w.index-as_slice-from.is ∙ ap (λ l. get_or l from w.index-as_slice-from.result) w.as_slice.ensures
          ∙ get_or_default active.edges from w.index-as_slice-from.result [] within))
          (ap (λ v. v.items) w.asks-is ∙ w.in_ok-push.ensures.items ∙ ap (λ l. asks ++ l ∷ []) w.from_vec.ensures) in
          record { each = more.0; lists = more.1 }
      | else-is_reached+in_ok-push-2 w ↦
          let more = one_more (λ k list. (target : ℕ) → Contains list target ↔ IsRequester active k target) asks [] c.if-is_reached.asks.items from
          c.loop-from.invariant.each c.loop-from.invariant.lists (requests_none active from [] (read ∙ ap Some w.if-is_reached.false) (λ i. []))
          (ap (λ v. v.items) w.asks-is ∙ w.in_ok-push-2.ensures.items ∙ ap (λ l. asks ++ l ∷ []) w.new.ensures) in
          record { each = more.0; lists = more.1 }
    ]

pub returns : goal.returns
returns c =
    let active = c.args.active.now in
    let end : c.loop-from.from ≡ length active.reached = omega (arith, c.loop-from-test.false, c.loop-from.auto.from-end, ap length c.as_slice-is_reached-items.ensures) in
    all_requests active c.loop-from.asks.items c.requires (c.loop-from.invariant.each ∙ end) (λ k h. c.loop-from.invariant.lists k (omega (arith, h, end)))

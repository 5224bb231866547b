use Rattle.std.proofs.Common.{◌≡◌, ◌<◌, ◌+◌, true≢false, length, get_or, sym, ap, subst, ◌∙◌, arith}
use Rattle.std.proofs.lemmas.List.{get_or_default}
use Rattle.scope_hoist.proofs.Rooted.{AreSoFar, has_one, stands_alone, has_taken}
use Rattle.scope_hoist.proofs.roots.roots.Goals as goal
use Rattle.scope_hoist.proofs.roots.roots.Goals.{then-index-root+then-shares-place+in_ok-take_set, else-index-root, else-index-root-via-then-index-root+else-shares-place, else-index-root-via-else-index-root}

pub loop-root-preserved : goal.loop-root-preserved
loop-root-preserved c =
    let ground = c.args.ground.now in
    let asks = ground.asks.items in
    let homes = ground.homes.items in
    let may_join = c.args.may_join.now in
    let shares = c.args.shares.now in
    let root = c.loop-root.root in
    let roots = c.loop-root.roots.items in
    let marks = c.loop-root.marks in
    let inside : root < length asks = omega (arith, c.loop-root-test.true, c.len-count.ensures) in
    let read : get_or roots root 0 ≡ c.index.result.now = get_or_default roots root 0 c.index.result.now (omega (arith, inside, c.loop-root.invariant.have.each)) ∙ sym c.index.ensures in
    elim c.if-index-root.branch [
      | then-index-root+then-shares-place+in_ok-take_set w ↦
          subst (λ v. AreSoFar asks homes may_join shares (root + 1) v c.if-index-root.marks) (sym (ap (λ v. v.items) w.roots-is))
          (subst (AreSoFar asks homes may_join shares (root + 1) w.take_set.new.roots.items) (sym w.marks-is)
          (has_taken asks homes may_join shares root roots marks c.loop-root.invariant inside w.take_set.new.roots.items w.take_set.new.marks (read ∙ w.if-index-root.true) w.if-shares-place.true
          (w.in_ok-take_set.ensures.takes may_join c.loop-root.invariant.known) c.requires.may_join w.in_ok-take_set.ensures.standing
          (w.in_ok-take_set.ensures.known may_join c.loop-root.invariant.known)))
      | else-index-root w ↦
          subst (λ v. AreSoFar asks homes may_join shares (root + 1) v c.if-index-root.marks) (sym (ap (λ v. v.items) w.roots-is))
          (subst (AreSoFar asks homes may_join shares (root + 1) roots) (sym w.marks-is)
          (elim w.else-index-root.branch [
            | else-index-root-via-then-index-root+else-shares-place v ↦
                stands_alone asks homes may_join shares root roots marks c.loop-root.invariant inside (read ∙ v.if-index-root.true) (λ is. true≢false (sym is ∙ v.if-shares-place.false)) c.requires.sharing
            | else-index-root-via-else-index-root v ↦
                has_one asks homes may_join shares root roots marks c.loop-root.invariant inside (λ e. v.if-index-root.false (sym read ∙ e))
          ]))
    ]

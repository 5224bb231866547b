use Rattle.std.proofs.Common.{◌≡◌, ◌<◌, ⊎_elim, true, false, true≢false, [], ◌∷◌, length, get_or, sym, ap, subst, ◌∙◌, arith}
use Rattle.std.specs.List.{All, Contains}
use Rattle.std.proofs.lemmas.Bool.{cases_eq}
use Rattle.std.proofs.lemmas.List.Elements.{All-push, Contains-append_left, Contains-append_right}
use Rattle.pk_types.proofs.ListMembers.{here}
use Rattle.scope_hoist.proofs.roots.joining.Goals as goal
use Rattle.scope_hoist.proofs.roots.joining.Goals.{then-joins+in_ok-push, else-joins}

pub loop-member-preserved : goal.loop-member-preserved
loop-member-preserved c =
    let all = c.args.may_join.now in
    let member = c.loop-member.member in
    let old = c.loop-member.joining.items in
    let inside : member < length all = c.loop-member-test.true in
    elim c.if-joins.branch [
      | then-joins+in_ok-push w ↦
          let now = ap (λ v. v.items) w.joining-is ∙ w.in_ok-push.ensures.items in
          record {
            within = subst (All (λ m. m < length all)) (sym now) (All-push (λ m. m < length all) old member c.loop-member.invariant.within inside);
            joining = λ k h is. subst (λ l. Contains l k) (sym now) (⊎_elim
                (λ e. Contains-append_right old (member ∷ []) k (subst (Contains (member ∷ [])) (sym e) (here member [])))
                (λ ne. Contains-append_left old (member ∷ []) k (c.loop-member.invariant.joining k (omega (arith, h, ne)) is))
                (cases_eq k member));
          }
      | else-joins w ↦
          let now = ap (λ v. v.items) w.joining-is in
          record {
            within = subst (All (λ m. m < length all)) (sym now) c.loop-member.invariant.within;
            joining = λ k h is. subst (λ l. Contains l k) (sym now) (⊎_elim
                (λ e. absurd (true≢false (sym (subst (λ m. get_or all m false ≡ true) e is) ∙ w.if-joins.false)))
                (λ ne. c.loop-member.invariant.joining k (omega (arith, h, ne)) is)
                (cases_eq k member));
          }
    ]

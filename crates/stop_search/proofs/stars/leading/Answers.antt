use Rattle.std.proofs.Common.{◌<◌, ◌+◌, true≢false, [], ◌∷◌, ◌++◌, length, take, take_all, get_or, sym, ap, subst, ◌∙◌, length-append, arith}
use Rattle.std.proofs.lemmas.List.{take_more}
use Rattle.std.proofs.lemmas.List.Elements.{All-get_or}
use Rattle.std.proofs.lemmas.Option.{slice_get-get_or}
use Rattle.pk_types.specs.declared.graph.Graph.{Graph}
use Rattle.stop_search.specs.Ways.{LeadsThere}
use Rattle.stop_search.proofs.Leading.{AreLeading, one_in, one_out}
use Rattle.stop_search.proofs.stars.leading.Goals as goal
use Rattle.stop_search.proofs.stars.leading.Goals.{then-branch+in_ok-push, else-branch}

pub loop-star-preserved : goal.loop-star-preserved
loop-star-preserved c =
    let graph = c.args.resolver.now in
    let stars = c.args.stars.now in
    let targets = c.args.targets.now in
    let name = c.args.name.now in
    let found = c.args.found.now in
    let index = c.loop-star.star-index in
    let star = get_or stars index 0 in
    let more = take_more stars index 0 c.loop-star-test.true in
    let inside = All-get_or (λ n. n < length targets) stars index 0 c.loop-star-test.true c.requires.places in
    let t = slice_get-get_or targets star 0 inside in
    let told = c.in_ok-leads_there.ensures.leads in
    record {
      each = elim c.if-branch.branch [
        | then-branch+in_ok-push w ↦
            subst (AreLeading graph targets name found (take (index + 1) stars)) (sym (ap (λ v. v.items) w.leading-is ∙ w.in_ok-push.ensures.items))
            (subst (λ l. AreLeading graph targets name found l (c.loop-star.leading.items ++ star ∷ [])) (sym more)
            (one_in graph targets name found (take index stars) c.loop-star.leading.items star (get_or targets star 0) t
            (subst (λ (g : Graph). LeadsThere g (get_or targets star 0) name found) c.loop-star.invariant.same (told.0 w.if-branch.true)) c.loop-star.invariant.each))
        | else-branch w ↦
            subst (AreLeading graph targets name found (take (index + 1) stars)) (sym (ap (λ v. v.items) w.leading-is))
            (subst (λ l. AreLeading graph targets name found l c.loop-star.leading.items) (sym more)
            (one_out graph targets name found (take index stars) c.loop-star.leading.items star (get_or targets star 0) t
            (λ l. true≢false (sym (told.1 (subst (λ (g : Graph). LeadsThere g (get_or targets star 0) name found) (sym c.loop-star.invariant.same) l)) ∙ w.if-branch.false))
            c.loop-star.invariant.each))
      ];
      few = elim c.if-branch.branch [
        | then-branch+in_ok-push w ↦ omega (arith, c.loop-star.invariant.few, ap (λ v. length v.items) w.leading-is, ap length w.in_ok-push.ensures.items, length-append c.loop-star.leading.items (star ∷ []))
        | else-branch w ↦ omega (arith, c.loop-star.invariant.few, ap (λ v. length v.items) w.leading-is)
      ];
      same = c.in_ok-leads_there.ensures.same ∙ c.loop-star.invariant.same;
    }

pub returns-clause-each : goal.returns-clause-each
returns-clause-each c =
    subst (λ l. AreLeading c.args.resolver.now c.args.targets.now c.args.name.now c.args.found.now l c.loop-star.leading.items)
    (take_all c.loop-star.star-index c.args.stars.now (omega (arith, c.loop-star-test.false))) c.loop-star.invariant.each

use Rattle.std.proofs.Common.{◌≡◌, inl, inr, sym, ap, subst, ◌∙◌}
use Rattle.std.proofs.lemmas.Bool.{true≢false}
use Rattle.module_spelling.specs.Layout.{Layout}
use Rattle.module_spelling.specs.Spelled.{found_text}
use Rattle.pk_types.specs.Resolving.{Resolves}
use Rattle.scope_getters.specs.Gaining.{FindsSome}
use Rattle.scope_getters.proofs.Listing.{no_getter}
use Rattle.scope_getters.proofs.space.add_getter.Goals.{then-is_one+in_ok-name+in_ok-spelling+in_ok-push, else-is_one}
use Rattle.scope_getters.proofs.space.add_getter.Goals as goal

pub returns-clause-adds : goal.returns-clause-adds
returns-clause-adds c =
    let layout = c.args.speller.now in
    let found = c.in_ok-found.found in
    let name = c.args.name.now in
    elim c.if-is_one.branch [
      | then-is_one+in_ok-name+in_ok-spelling+in_ok-push w ↦
          let some = c.is_one.ensures.0 w.if-is_one.true in
          let finds : FindsSome layout.graph c.args.root name = (found, record { resolves = c.in_ok-found.ensures.found; something = some.0; one = some.1 }) in
          let spelled : w.in_ok-spelling.spelling ≡ found_text layout c.args.root found =
          subst (λ (l : Layout). w.in_ok-spelling.spelling ≡ found_text l c.args.root found) c.in_ok-found.ensures.same w.in_ok-spelling.ensures in
          let named : w.in_ok-name.name ≡ name = w.in_ok-name.ensures ∙ w.as_slice.ensures in
          inl (
            record { name = w.in_ok-name.name; spelling = w.in_ok-spelling.spelling },
            record {
              named = named;
              finds = finds;
              spelled = (found, subst (λ n. Resolves layout.graph c.args.root n found) (sym named) c.in_ok-found.ensures.found, spelled);
            },
            ap (λ v. v.items) w.getters-is ∙ w.in_ok-push.ensures.items,
          )
      | else-is_one w ↦ inr (
        no_getter layout c.args.root name found c.in_ok-found.ensures.found (λ some one. true≢false (sym (c.is_one.ensures.1 (some, one)) ∙ w.if-is_one.false)),
        ap (λ v. v.items) w.getters-is,
      )
    ]

use Rattle.std.proofs.Common.{◌≡◌, ℕ, true, length, rules, sym, subst}
use Rattle.std.specs.List.{Contains}
use Rattle.std.proofs.lemmas.Bool.{ltb-true}
use Rattle.pk_types.specs.declared.facts.Kind.TheVariants.{Es}
use Rattle.pk_types.proofs.ListMembers.{has_some, some_of}
use Rattle.scope_hoist.proofs.flags.may_share.Goals as goal

pub returns : goal.returns
returns c =
    let shared : c.args.concatenate ≡ true = search rules in
    let kind : c.args.row.now.facts.kind ≡ Es = search rules in (
      λ t. (shared, kind, subst (λ l. (chunk : ℕ) × Contains l chunk) c.as_slice.ensures (some_of c.as_slice.result.now (ltb-true 0 (length c.as_slice.result.now) t))),
      λ three. has_some c.as_slice.result.now three.2.0 (subst (λ l. Contains l three.2.0) (sym c.as_slice.ensures) three.2.1),
    )

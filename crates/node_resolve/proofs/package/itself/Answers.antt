use Rattle.std.proofs.Common.{Bool, sym, ap, ◌∙◌, if◌then◌else◌}
use Rattle.node_resolve.specs.Resolution.{exported, itself, has_name}
use Rattle.node_resolve.specs.Walks.{on}
use Rattle.node_resolve.proofs.Walking.{went_from, stays_at}
use Rattle.node_resolve.proofs.package.itself.Goals as goal

pub returns-then-not-has_name-clause-went : goal.returns-then-not-has_name-clause-went
returns-then-not-has_name-clause-went g c next =
    let form = c.args.form in
    let request = c.args.request.now in
    let owner = c.args.owner.now in
    let named = c.has_name.ensures ∙ ap (λ name. has_name name owner) c.name_of.ensures in
    let choose = λ (b : Bool). if b then exported form request next owner else next in
    stays_at _ _ _ _ (ap choose (sym c.if-not-has_name.true ∙ named))

pub returns-clause-went : goal.returns-clause-went
returns-clause-went g c next =
    let form = c.args.form in
    let request = c.args.request.now in
    let owner = c.args.owner.now in
    let named = c.has_name.ensures ∙ ap (λ name. has_name name owner) c.name_of.ensures in
    let choose = λ (b : Bool). if b then exported form request next owner else next in
    went_from c.exported.result _ _ _ _ (exported form request next owner) (itself form request next owner) (λ end. on end next)
    (ap choose (sym c.if-not-has_name.false ∙ named)) (c.exported.ensures.went next)

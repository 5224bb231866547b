use Rattle.std.proofs.Common.{Option, sym, ap, ◌∙◌}
use Rattle.pk_base.specs.declared.outside.ReadFail.TheVariants.{NoMemory}
use Rattle.node_resolve.specs.declared.sight.Package.{Package}
use Rattle.node_resolve.specs.Candidates.{ends, scoped}
use Rattle.node_resolve.specs.Looking.{moment}
use Rattle.node_resolve.specs.Resolution.{nearest, scopes, bad_scope, scope_with}
use Rattle.node_resolve.proofs.Walking.{goes_as, goes_from, stops_from, no_walk}
use Rattle.node_resolve.proofs.Ends.{leads_there, asked_all, looked_at, failed_stays, failed_stops, scope_end}
use Rattle.node_resolve.proofs.resolving.scope_of.Goals as goal

pub returns-in_err-folders-clause-files : goal.returns-in_err-folders-clause-files
returns-in_err-folders-clause-files g c =
    let before = moment (g.F.Files.means c.args.files.now) (g.K.Look.means c.args.look.now) in
    failed_stays c.from_residual.result NoMemory c.from_residual.ensures.1 before before (scopes c.args.dir.now) (no_walk before (scopes c.args.dir.now))

pub returns-in_err-folders-clause-stops : goal.returns-in_err-folders-clause-stops
returns-in_err-folders-clause-stops g c =
    failed_stops c.from_residual.result NoMemory c.from_residual.ensures.1 _ _ (scopes c.args.dir.now) (no_walk _ (scopes c.args.dir.now))

pub returns-in_err-found-clause-files : goal.returns-in_err-found-clause-files
returns-in_err-found-clause-files g c =
    let next = λ (owner : Option Package). ends (scoped (scope_with owner)) in
    let other = c.from_residual-in_err-found in
    let stops = stops_from _ _ _ (nearest bad_scope next c.as_slice.result.now) (scopes c.args.dir.now) (ap (nearest bad_scope next) (c.as_slice.ensures.value ∙ c.in_ok-folders.ensures)) (c.in_err-found.ensures.went bad_scope next) in
    failed_stays other.result c.in_err-found.field-0.0 other.ensures.1 _ _ _ stops

pub returns-in_err-found-clause-stops : goal.returns-in_err-found-clause-stops
returns-in_err-found-clause-stops g c =
    let next = λ (owner : Option Package). ends (scoped (scope_with owner)) in
    let other = c.from_residual-in_err-found in
    let stops = stops_from _ _ _ (nearest bad_scope next c.as_slice.result.now) (scopes c.args.dir.now) (ap (nearest bad_scope next) (c.as_slice.ensures.value ∙ c.in_ok-folders.ensures)) (c.in_err-found.ensures.went bad_scope next) in
    failed_stops other.result c.in_err-found.field-0.0 other.ensures.1 _ _ (scopes c.args.dir.now) stops

pub returns-clause-answer : goal.returns-clause-answer
returns-clause-answer g c told =
    let next = λ (owner : Option Package). ends (scoped (scope_with owner)) in
    let start = nearest bad_scope next c.as_slice.result.now in
    let same = ap (nearest bad_scope next) (c.as_slice.ensures.value ∙ c.in_ok-folders.ensures) in
    let goes = goes_from _ _ _ _ start (scopes c.args.dir.now) _ same
    (goes_as _ _ _ _ start _ (ends (scoped c.scope_in.result)) (scope_end c.in_ok-found.found ∙ ap (λ scope. ends (scoped scope)) (sym c.scope_in.ensures)) (c.in_ok-found.ensures.went bad_scope next)) in
    leads_there _ _ _ _ _ _ c.new-asked.ensures.items goes told

pub returns-clause-asked : goal.returns-clause-asked
returns-clause-asked g c =
    let next = λ (owner : Option Package). ends (scoped (scope_with owner)) in
    let start = nearest bad_scope next c.as_slice.result.now in
    let same = ap (nearest bad_scope next) (c.as_slice.ensures.value ∙ c.in_ok-folders.ensures) in
    let goes = goes_from _ _ _ _ start (scopes c.args.dir.now) _ same
    (goes_as _ _ _ _ start _ (ends (scoped c.scope_in.result)) (scope_end c.in_ok-found.found ∙ ap (λ scope. ends (scoped scope)) (sym c.scope_in.ensures)) (c.in_ok-found.ensures.went bad_scope next)) in
    asked_all _ _ _ _ _ _ c.new-asked.ensures.items goes

pub returns-clause-looked : goal.returns-clause-looked
returns-clause-looked g c =
    let next = λ (owner : Option Package). ends (scoped (scope_with owner)) in
    let start = nearest bad_scope next c.as_slice.result.now in
    let same = ap (nearest bad_scope next) (c.as_slice.ensures.value ∙ c.in_ok-folders.ensures) in
    let goes = goes_from _ _ _ _ start (scopes c.args.dir.now) _ same
    (goes_as _ _ _ _ start _ (ends (scoped c.scope_in.result)) (scope_end c.in_ok-found.found ∙ ap (λ scope. ends (scoped scope)) (sym c.scope_in.ensures)) (c.in_ok-found.ensures.went bad_scope next)) in
    looked_at _ _ _ _ _ _ c.new-asked.ensures.items goes

pub returns-clause-files : goal.returns-clause-files
returns-clause-files g c = (c.in_ok-found.ensures.went bad_scope (λ (owner : Option Package). ends (scoped (scope_with owner)))).files

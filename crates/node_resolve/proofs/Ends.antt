-- What a whole walk says of its answer.
use Rattle.std.proofs.Common.{◌≡◌, ℕ, List, [], ◌++◌, Option, Result, Ok, Err, IsTrue, IfErr, refl, sym, ap, subst, ◌∙◌}
use Rattle.std.proofs.lemmas.Result.{err_from_is_err_and}
use Rattle.std.specs.Result.{IsErrAnd}
use Rattle.pk_base.specs.Causes.{is_failed}
use Rattle.pk_base.specs.declared.outside.ReadFail.{ReadFail}
use Rattle.pk_base.specs.declared.outside.ReadFail.TheVariants.{Failed, NoMemory}
use Rattle.node_resolve.specs.declared.sight.Package.{Package}
use Rattle.node_resolve.specs.Candidates.{Candidates, Leads, ends, scoped}
use Rattle.node_resolve.specs.Looking.{Moment, AskedAll, Stays}
use Rattle.node_resolve.specs.Present.{present}
use Rattle.node_resolve.specs.Resolution.{bad_scope, scope_with}
use Rattle.pk_base.proofs.Keeping.{failure}
use Rattle.node_resolve.specs.Walks.{Goes, Stops, behind, found_scope}

-- ---- it went through

module _ (m0 m1 : Moment) (notes asked : List (List ℕ)) (from to : Candidates) (none : notes ≡ []) (goes : Goes m0 m1 notes asked from to) where
  all_noted : asked ≡ goes.asked
  all_noted = goes.noted ∙ ap (λ l. l ++ goes.asked) none

  pub leads_there : IsTrue m0.files.told → Leads (present m0.files.tree) to from asked
  leads_there told = subst (λ l. Leads (present m0.files.tree) to from l) (sym all_noted) (goes.leads told)

  pub asked_all : AskedAll m0 m1 asked
  asked_all = subst (λ l. AskedAll m0 m1 l) (sym all_noted) goes.made

  pub looked_at : m1.look.asks ≡ m0.look.asks ++ asked
  looked_at = goes.asks ∙ ap (λ l. m0.look.asks ++ l) (sym all_noted)

stays_failed : (U : Type 0) (fail : ReadFail) (m0 m1 : Moment) (from : Candidates) → Stops fail m0 m1 from → Stays (is_failed (failure U fail)) m0.files m1.files
stays_failed U Failed m0 m1 from stops = stops.files
stays_failed U NoMemory m0 m1 from stops = stops.files

-- ---- it failed, and so does a call that hands the failure on

module _ {U : Type 0} (other : Result U ReadFail) (fail : ReadFail) (is : IsErrAnd other (λ f. f ≡ fail)) where
  is_err : other ≡ failure U fail
  is_err = let error = err_from_is_err_and other is in error.1 ∙ ap (failure U) error.2

  pub failed_stays : (m0 m1 : Moment) (from : Candidates) → Stops fail m0 m1 from → Stays (is_failed other) m0.files m1.files
  failed_stays m0 m1 from stops = subst (λ (o : Result U ReadFail). Stays (is_failed o) m0.files m1.files) (sym is_err) (stays_failed U fail m0 m1 from stops)

  pub failed_stops : (m0 m1 : Moment) (from : Candidates) → Stops fail m0 m1 from → IfErr other (λ f. Stops f m0 m1 from)
  failed_stops m0 m1 from stops = subst (λ (o : Result U ReadFail). IfErr o (λ f. Stops f m0 m1 from)) (sym is_err) stops

-- ---- the scope of a folder

pub scope_end : (found : Result (Option Package) (List ℕ)) → behind bad_scope (λ owner. ends (scoped (scope_with owner))) found ≡ ends (scoped (found_scope found))
scope_end (Ok owner) = refl
scope_end (Err path) = refl

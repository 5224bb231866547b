-- The facts of a text fit, as a whole.
use Rattle.std.proofs.Common.{◌≡◌, refl, sym, subst}
use Rattle.es_tree.specs.declared.tokens.ProgramGoal.{ProgramGoal}
use Rattle.es_tree.specs.declared.tokens.ProgramGoal.TheVariants.{Script, Module}
use Rattle.pk_types.specs.declared.facts.Facts.{Facts}
use Rattle.pk_types.specs.Fitting.{AreFitting}
use Rattle.pk_types.specs.Lawful.{IsLawful, IsLawfulAs}
use Rattle.es_scope.specs.Source.{Source}
use Rattle.es_scope.specs.Known.{known_of}
use Rattle.es_scope.specs.Faults.{HasNoFault, IsEarly}
use Rattle.es_scope.specs.Refused.{IsRefused}
use Rattle.es_scope.specs.FactsOf.{kind_of, AreFacts}
use Rattle.facts_laws.specs.Conditions.{IsOutlined, HasFewMarks}
use Rattle.facts_laws.proofs.Bindings.{bindings_differ}
use Rattle.facts_laws.proofs.Exports.{exports_differ}
use Rattle.facts_laws.proofs.Requests.{order_differs}
use Rattle.facts_laws.proofs.Places.{has_places}
use Rattle.facts_laws.proofs.Short.{has_short_lists}
use Rattle.facts_laws.proofs.Modules.{is_lawful_module}
use Rattle.facts_laws.proofs.Plain.{is_lawful_script}
use Rattle.facts_laws.proofs.Scripts.{plain_script}

module _ (source : Source) (facts : Facts) (are : AreFacts source facts) where
  lawful_as : IsOutlined source → (goal : ProgramGoal) → source.goal ≡ goal → IsLawfulAs (kind_of goal) facts
  lawful_as outlined Script e = is_lawful_script source (plain_script source outlined e) facts e are
  lawful_as outlined Module e = is_lawful_module source facts are e

  pub is_lawful : IsOutlined source → HasNoFault source → IsLawful facts
  is_lawful outlined no_fault = record {
    bindings = bindings_differ source (λ place twice. no_fault.no_error place _ (IsEarly.exported_twice twice))
        (λ place occurs reserved. no_fault.no_refusal place _ (IsRefused.reserved_name occurs reserved)) facts.bindings are.bindings;
    exports = exports_differ source (known_of facts) (λ place twice. no_fault.no_error place _ (IsEarly.exported_twice twice)) facts.exports are.exports;
    order = order_differs source facts.requests are.requests facts.order are.order;
    kind = subst (λ kind. IsLawfulAs kind facts) (sym are.kind) (lawful_as outlined source.goal refl);
  }

pub facts_fit : (source : Source) (facts : Facts) → IsOutlined source → HasFewMarks source → HasNoFault source → AreFacts source facts → AreFitting facts
facts_fit source facts outlined few no_fault are = record {
  places = has_places source facts are;
  lawful = is_lawful source facts are outlined no_fault;
  short = has_short_lists source facts few are;
}

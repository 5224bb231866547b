-- A tree has one outcome.
use Rattle.std.proofs.Common.{◌≡◌, ℕ, Bool, true, false, List, [], Result, Ok, Err, sym, ap, subst, ◌∙◌}
use Rattle.std.proofs.lemmas.Bool.{true≢false}
use Rattle.pk_base.specs.FileTree.{FileTree}
use Rattle.watch_core.specs.declared.faults.BuildFault.{BuildFault}
use Rattle.watch_core.specs.declared.walk.FoundModules.{FoundModules}
use Rattle.watch_laws.proofs.OneAnswer.{one_answer}
use Rattle.plan_laws.proofs.SamePlans.{plan_once}
use Rattle.pack_cli.specs.Output.{Bundle, IsBundle, HasBundle, bundle_of, built_lines}
use Rattle.pack_cli.specs.Answers.{fault_line}
use Rattle.pack_cli.specs.declared.faults.RoundFault.TheVariants as round
use Rattle.pack_cli.specs.declared.status.Status.TheVariants.{Done, Refused}
use Rattle.pack_cli.specs.Headline.{Outcome, Builds, refuses, leaves}

abbrev found_of : FoundModules → Result FoundModules BuildFault → FoundModules
found_of default (Ok found) = found
found_of default (Err fault) = default

abbrev fault_of : BuildFault → Result FoundModules BuildFault → BuildFault
fault_of default (Ok found) = default
fault_of default (Err fault) = fault

abbrev is_found : Result FoundModules BuildFault → Bool
is_found (Ok found) = true
is_found (Err fault) = false

-- the outcomes of a tree that is refused, and of one that is built
abbrev refused : BuildFault → List (List ℕ) → Outcome
refused fault asks = record { status = Refused; printed = fault_line (round.Refused fault); output = []; asks = asks }

abbrev built : Bundle → List (List ℕ) → Outcome
built bundle asks = record { status = Done; printed = built_lines bundle; output = bundle.files; asks = asks }

made_once : (found : FoundModules) (bundle other : Bundle) → IsBundle found bundle → IsBundle found other → bundle ≡ other
made_once found bundle other one two =
    one.is ∙ ap (λ plan. bundle_of found.graph plan found.bodies) (plan_once found.graph one.plan two.plan one.planned two.planned) ∙ sym two.is

module _ (t : FileTree) where
  pub bundle_once : (bundle other : Bundle) (asks others : List (List ℕ)) → HasBundle t bundle asks → HasBundle t other others → (bundle ≡ other) × (asks ≡ others)
  bundle_once bundle other asks others one two =
      let same = one_answer t asks others (Ok one.found) (Ok two.found) one.modules two.modules in
      let found : one.found ≡ two.found = ap (found_of one.found) same.0 in
      (made_once two.found bundle other (subst (λ f. IsBundle f bundle) found one.made) two.made, same.1)

  pub outcome_once : (outcome other : Outcome) → Builds t outcome → Builds t other → outcome ≡ other
  outcome_once outcome other (refuses fault asks h) (refuses last others k) =
      let same = one_answer t asks others (Err fault) (Err last) h k in
      ap (λ f. refused f asks) (ap (fault_of fault) same.0) ∙ ap (refused last) same.1
  outcome_once outcome other (refuses fault asks h) (leaves bundle others k) =
      absurd (true≢false (sym (ap is_found (one_answer t asks others (Err fault) (Ok k.found) h k.modules).0)))
  outcome_once outcome other (leaves bundle asks h) (refuses fault others k) =
      absurd (true≢false (ap is_found (one_answer t asks others (Ok h.found) (Err fault) h.modules k).0))
  outcome_once outcome other (leaves bundle asks h) (leaves last others k) =
      let same = bundle_once bundle last asks others h k in
      ap (λ b. built b asks) same.0 ∙ ap (built last) same.1

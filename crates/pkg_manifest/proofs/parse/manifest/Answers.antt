use Rattle.std.proofs.Common.{◌≡◌, ◌≢◌, Err, inr, refl, ap, ◌∙◌, arith}
use Rattle.pkg_manifest.specs.declared.value.Json.TheVariants.{Object}
use Rattle.pkg_manifest.specs.declared.fault.ManifestFault.{ManifestFault}
use Rattle.pkg_manifest.specs.declared.fault.ManifestFault.TheVariants.{NotJson, NotObject, NoMemory}
use Rattle.pkg_manifest.proofs.parse.manifest.Goals as goal

want_of_memory : (e : ManifestFault) → e ≢ NotObject → e ≢ NotJson → e ≡ NoMemory
want_of_memory NotJson object json = absurd (json refl)
want_of_memory NotObject object json = absurd (object refl)
want_of_memory NoMemory object json = refl

pub returns-in_err-members-clause-object : goal.returns-in_err-members-clause-object
returns-in_err-members-clause-object c ms stands =
    let e = c.in_err-members.field-0.0 in
    let same : c.from_residual.result ≡ Err e = grind arith in
    inr (same ∙ ap Err (want_of_memory e (λ x. c.in_err-members.ensures.no_object (ap Err x)) (λ x. c.in_err-members.ensures.not_json (ap Err x) (Object ms) stands)))

pub returns-in_err-members-clause-not_object : goal.returns-in_err-members-clause-not_object
returns-in_err-members-clause-not_object c j stands other =
    let e = c.in_err-members.field-0.0 in
    let same : c.from_residual.result ≡ Err e = grind arith in
    inr (same ∙ ap Err (want_of_memory e (λ x. c.in_err-members.ensures.no_object (ap Err x)) (λ x. c.in_err-members.ensures.not_json (ap Err x) j stands)))

pub returns-in_err-members-clause-is_not_json : goal.returns-in_err-members-clause-is_not_json
returns-in_err-members-clause-is_not_json c told j stands =
    let e = c.in_err-members.field-0.0 in
    let same : c.from_residual.result ≡ Err e = grind arith in
    let is : e ≡ NotJson = grind (arith, same) in
    c.in_err-members.ensures.not_json (ap Err is) j stands

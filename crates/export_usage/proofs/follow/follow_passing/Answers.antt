use Rattle.std.proofs.Common.{◌≡◌, Some, get_or, length, Contains, refl, sym, ap, subst, ◌∙◌, arith}
use Rattle.std.proofs.lemmas.List.Elements.{Contains-get_or}
use Rattle.std.proofs.lemmas.Option.{same_Some, slice_get-get_or}
use Rattle.pk_types.specs.declared.facts.Origin.TheVariants.{Other, Space}
use Rattle.pk_types.specs.declared.graph.Row.{Row}
use Rattle.pk_types.specs.Reexports.{PassesOn}
use Rattle.pk_types.specs.Resolving.{origin_of}
use Rattle.pk_types.specs.Fitting.{RowFits}
use Rattle.prune_graph.specs.declared.passing.Passing.TheVariants as passing
use Rattle.prune_graph.specs.PassingOn.{IsPassedBy}
use Rattle.prune_graph.proofs.Passes.{export_within, name_within}
use Rattle.export_usage.specs.Claims.{Claim, IsTheClaim, Learns}
use Rattle.export_usage.specs.Steps.{Each, SaysStar}
use Rattle.export_usage.proofs.Following.{passes_name, passes_space, passes_stars}
use Rattle.export_usage.proofs.follow.follow_passing.Goals as goal

pub bounds-targets-request : goal.bounds-targets-request
bounds-targets-request c =
    let graph = c.args.resolver.now in
    let row = c.row.result.now in
    let name = c.args.name.now in
    let fits = c.row.ensures.fits in
    let o : origin_of row.facts name ≡ Some (Other c.in-Name.request c.in-Name.other.now) =
    subst (IsPassedBy graph c.args.module row name) c.in-Name.is (c.requires.passed row c.row.ensures.at) in
    let h = export_within graph c.args.module row name fits (Other c.in-Name.request c.in-Name.other.now) c.in-Name.request o refl in
    omega (arith, h, fits.each, ap length c.as_slice-targets.ensures)

pub bounds-targets-request-in-Space : goal.bounds-targets-request-in-Space
bounds-targets-request-in-Space c =
    let graph = c.args.resolver.now in
    let row = c.row.result.now in
    let name = c.args.name.now in
    let fits = c.row.ensures.fits in
    let o : origin_of row.facts name ≡ Some (Space c.in-Space.request) =
    subst (IsPassedBy graph c.args.module row name) c.in-Space.is (c.requires.passed row c.row.ensures.at) in
    let h = export_within graph c.args.module row name fits (Space c.in-Space.request) c.in-Space.request o refl in
    omega (arith, h, fits.each, ap length c.as_slice-targets.ensures)

pub follow_stars-requires : goal.follow_stars-requires
follow_stars-requires c = λ k d h.
    let graph = c.args.resolver.now in
    let row = c.row.result.now in
    let name = c.args.name.now in
    let fits = c.row.ensures.fits in
    let list = c.as_slice-in-Stars.result.now in
    let is : IsPassedBy graph c.args.module row name (passing.Stars c.in-Stars.stars) =
    subst (IsPassedBy graph c.args.module row name) c.in-Stars.is (c.requires.passed row c.row.ensures.at) in
    let star = get_or list k d in
    let among = subst (λ l. Contains l star) c.as_slice-in-Stars.ensures.value (Contains-get_or list k d h) in
    let within = name_within graph c.args.module row name fits star name (PassesOn.by_star star ((is.1 star).0 among)) in
    omega (arith, within, fits.each, ap length c.as_slice-targets.ensures)

pub returns-in_ok-put_used-in-Name : goal.returns-in_ok-put_used-in-Name
returns-in_ok-put_used-in-Name c = λ row at.
    let graph = c.args.resolver.now in
    let number = c.args.module in
    let name = c.args.name.now in
    let request = c.in-Name.request in
    let other = c.in-Name.other.now in
    let same : c.row.result.now ≡ row = same_Some c.row.result.now row (sym c.row.ensures.at ∙ at) in
    let o : origin_of row.facts name ≡ Some (Other request other) = subst (IsPassedBy graph number row name) c.in-Name.is (c.requires.passed row at) in
    let targets : c.as_slice-targets.result.now ≡ row.targets = c.as_slice-targets.ensures ∙ ap (λ (r : Row). r.targets) same in
    let fits = subst (RowFits graph) same c.row.ensures.fits in
    let h = export_within graph number row name fits (Other request other) request o refl in
    let t = slice_get-get_or row.targets request 0 (omega (arith, h, fits.each)) in
    passes_name graph number row name c.args.facts.now c.put_used.new.self request (get_or row.targets request 0) other o t
    (subst (λ l. Learns c.args.facts.now (IsTheClaim (Claim.is_used (get_or l request 0) other)) c.put_used.new.self) targets
    (subst (λ n. Learns c.args.facts.now (IsTheClaim (Claim.is_used (get_or c.as_slice-targets.result.now request 0) n)) c.put_used.new.self) c.as_slice.ensures c.in_ok-put_used-in-Name.ensures))

pub returns-in_ok-put_space-in-Space : goal.returns-in_ok-put_space-in-Space
returns-in_ok-put_space-in-Space c = λ row at.
    let graph = c.args.resolver.now in
    let number = c.args.module in
    let name = c.args.name.now in
    let request = c.in-Space.request in
    let same : c.row.result.now ≡ row = same_Some c.row.result.now row (sym c.row.ensures.at ∙ at) in
    let o : origin_of row.facts name ≡ Some (Space request) = subst (IsPassedBy graph number row name) c.in-Space.is (c.requires.passed row at) in
    let targets : c.as_slice-targets.result.now ≡ row.targets = c.as_slice-targets.ensures ∙ ap (λ (r : Row). r.targets) same in
    let fits = subst (RowFits graph) same c.row.ensures.fits in
    let h = export_within graph number row name fits (Space request) request o refl in
    let t = slice_get-get_or row.targets request 0 (omega (arith, h, fits.each)) in
    passes_space graph number row name c.args.facts.now c.put_space.new.self request (get_or row.targets request 0) o t
    (subst (λ l. Learns c.args.facts.now (IsTheClaim (Claim.is_space (get_or l request 0))) c.put_space.new.self) targets c.in_ok-put_space-in-Space.ensures)

pub returns-in_ok-follow_stars-in-Stars : goal.returns-in_ok-follow_stars-in-Stars
returns-in_ok-follow_stars-in-Stars c = λ row at.
    let graph = c.args.resolver.now in
    let number = c.args.module in
    let name = c.args.name.now in
    let same : c.row.result.now ≡ row = same_Some c.row.result.now row (sym c.row.ensures.at ∙ at) in
    let is : IsPassedBy graph number row name (passing.Stars c.in-Stars.stars) = subst (IsPassedBy graph number row name) c.in-Stars.is (c.requires.passed row at) in
    let targets : c.as_slice-targets.result.now ≡ row.targets = c.as_slice-targets.ensures ∙ ap (λ (r : Row). r.targets) same in
    passes_stars graph number row name c.args.facts.now c.follow_stars.new.facts c.in-Stars.stars.items is.0 is.1
    (subst (λ l. Learns c.args.facts.now (Each (SaysStar l name) c.in-Stars.stars.items) c.follow_stars.new.facts) targets
    (subst (λ l. Learns c.args.facts.now (Each (SaysStar c.as_slice-targets.result.now name) l) c.follow_stars.new.facts) c.as_slice-in-Stars.ensures.value c.in_ok-follow_stars-in-Stars.ensures))

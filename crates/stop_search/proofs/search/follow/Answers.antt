use Rattle.std.proofs.Common.{◌++◌, slice_get, refl, ap, sym, subst, ◌∙◌}
use Rattle.std.proofs.lemmas.Option.{same_Some}
use Rattle.pk_types.specs.declared.graph.Graph.{Graph}
use Rattle.pk_types.specs.declared.graph.Row.{Row}
use Rattle.pk_types.specs.Fitting.{RowFits}
use Rattle.pk_types.specs.Places.{ArePlacesIn}
use Rattle.pk_types.specs.StopSearch.{AreFoundThrough}
use Rattle.stop_search.specs.Ways.{Goes}
use Rattle.stop_search.specs.Searching.{asks, stack_of}
use Rattle.stop_search.proofs.Waiting.{asks_pushed}
use Rattle.stop_search.proofs.Ways.{ends_there, goes_on, by_stars, places_of_stars}
use Rattle.stop_search.proofs.search.follow.Goals as goal

pub ask_later-requires : goal.ask_later-requires
ask_later-requires c =
    let graph = c.args.resolver.now in
    let number = c.args.asked.number in
    let name = c.args.asked.name.now in
    let stars = c.in_ok-stars-in-Stars.stars.items in
    let bare = subst (Goes graph number name) c.in-Stars.is c.in_ok-stop.ensures.goes in
    let first = c.in_ok-stop.ensures.same in
    let both = c.in_ok-stars-in-Stars.ensures.same ∙ first in
    let through = subst (λ (g : Graph). AreFoundThrough g number bare.0 name stars) first
    (c.in_ok-stars-in-Stars.ensures.through bare.0 (ap (λ (g : Graph). slice_get g.rows number) first ∙ bare.1.at)) in
    let row = same_Some c.row.result.now bare.0 (sym c.row.ensures.at ∙ ap (λ (g : Graph). slice_get g.rows number) both ∙ bare.1.at) in
    subst (λ t. ArePlacesIn t stars) (sym (c.as_slice-targets.ensures ∙ ap (λ (r : Row). r.targets) row)) (places_of_stars graph c.args.found.now number bare.0 name stars through)

pub returns-in_ok-push-in-Ends-clause-follows : goal.returns-in_ok-push-in-Ends-clause-follows
returns-in_ok-push-in-Ends-clause-follows c =
    let graph = c.args.resolver.now in
    let number = c.args.asked.number in
    let name = c.args.asked.name.now in
    ends_there graph c.args.found.now (number, name) (asks c.args.waiting.now.items) c.args.stops.now.items c.requires.found c.in-Ends.stop (asks c.args.waiting.now.items)
    c.push.new.self.items refl c.in_ok-push-in-Ends.ensures.items (subst (Goes graph number name) c.in-Ends.is c.in_ok-stop.ensures.goes)

pub returns-in_ok-push-in-Passes-clause-follows : goal.returns-in_ok-push-in-Passes-clause-follows
returns-in_ok-push-in-Passes-clause-follows c =
    let graph = c.args.resolver.now in
    let number = c.args.asked.number in
    let name = c.args.asked.name.now in
    let behind = c.in-Passes.behind in
    let goes = subst (Goes graph number name) c.in-Passes.is c.in_ok-stop.ensures.goes in
    let pushed = ap asks c.in_ok-push-in-Passes.ensures.items ∙ asks_pushed c.args.waiting.now.items behind in
    goes_on graph c.args.found.now (number, name) (asks c.args.waiting.now.items) c.args.stops.now.items c.requires.found (behind.number, behind.name.now)
    (asks c.push-in-Passes.new.self.items) c.args.stops.now.items pushed refl goes.0 goes.1

pub returns-in_ok-ask_later-in-Stars-clause-follows : goal.returns-in_ok-ask_later-in-Stars-clause-follows
returns-in_ok-ask_later-in-Stars-clause-follows c =
    let graph = c.args.resolver.now in
    let number = c.args.asked.number in
    let name = c.args.asked.name.now in
    let stars = c.in_ok-stars-in-Stars.stars.items in
    let bare = subst (Goes graph number name) c.in-Stars.is c.in_ok-stop.ensures.goes in
    let first = c.in_ok-stop.ensures.same in
    let both = c.in_ok-stars-in-Stars.ensures.same ∙ first in
    let through = subst (λ (g : Graph). AreFoundThrough g number bare.0 name stars) first
    (c.in_ok-stars-in-Stars.ensures.through bare.0 (ap (λ (g : Graph). slice_get g.rows number) first ∙ bare.1.at)) in
    let row = same_Some c.row.result.now bare.0 (sym c.row.ensures.at ∙ ap (λ (g : Graph). slice_get g.rows number) both ∙ bare.1.at) in
    let fits = subst (RowFits graph) row (subst (λ (g : Graph). RowFits g c.row.result.now) both c.row.ensures.fits) in
    let waits = c.in_ok-ask_later-in-Stars.ensures
    ∙ ap (λ t. asks c.args.waiting.now.items ++ stack_of t name stars) (c.as_slice-targets.ensures ∙ ap (λ (r : Row). r.targets) row) in
    by_stars graph c.args.found.now (number, name) (asks c.args.waiting.now.items) c.args.stops.now.items c.requires.found stars (asks c.ask_later.new.waiting.items)
    c.args.stops.now.items bare waits refl fits.targets through c.in_ok-stars-in-Stars.ensures.few

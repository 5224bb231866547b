use Rattle.std.proofs.Common.{◌≡◌, Some, sym, subst}
use Rattle.pk_text.specs.Places.{place_of}
use Rattle.export_usage.specs.declared.facts.Fact.TheVariants.{Reached, Exposed, Used}
use Rattle.export_usage.specs.Claims.{KnowsOf}
use Rattle.export_usage.specs.Spreading.{Spreads}
use Rattle.export_usage.proofs.Onward.{spreads_reached, spreads_exposed, spreads_space, spreads_used, used_within}
use Rattle.export_usage.proofs.spread.follow.Goals as goal

pub follow_reached-requires : goal.follow_reached-requires
follow_reached-requires c = (c.requires.truth (Reached c.in-Reached.module) (subst (KnowsOf c.args.facts.now) c.in-Reached.is c.requires.known)).0

pub follow_exposed-requires : goal.follow_exposed-requires
follow_exposed-requires c = (c.requires.truth (Exposed c.in-Exposed.module) (subst (KnowsOf c.args.facts.now) c.in-Exposed.is c.requires.known)).0

pub text_of-requires : goal.text_of-requires
text_of-requires c =
    used_within c.args.resolver.now c.args.facts.now c.in-Used.module c.in-Used.number c.requires.truth (subst (KnowsOf c.args.facts.now) c.in-Used.is c.requires.known)

pub follow_used-requires : goal.follow_used-requires
follow_used-requires c = (c.requires.truth (Used c.in-Used.module c.in-Used.number) (subst (KnowsOf c.args.facts.now) c.in-Used.is c.requires.known)).2.0

pub returns-in_ok-follow_reached-in-Reached-clause-spreads : goal.returns-in_ok-follow_reached-in-Reached-clause-spreads
returns-in_ok-follow_reached-in-Reached-clause-spreads c =
    subst (λ fact. Spreads c.args.resolver.now c.args.facts.now fact c.follow_reached.new.facts) (sym c.in-Reached.is)
    (spreads_reached c.args.resolver.now c.requires.fits c.args.facts.now c.follow_reached.new.facts c.requires.truth c.in-Reached.module
    (subst (KnowsOf c.args.facts.now) c.in-Reached.is c.requires.known) c.in_ok-follow_reached-in-Reached.ensures)

pub returns-in_ok-follow_exposed-in-Exposed-clause-spreads : goal.returns-in_ok-follow_exposed-in-Exposed-clause-spreads
returns-in_ok-follow_exposed-in-Exposed-clause-spreads c =
    subst (λ fact. Spreads c.args.resolver.now c.args.facts.now fact c.follow_exposed.new.facts) (sym c.in-Exposed.is)
    (spreads_exposed c.args.resolver.now c.requires.fits c.args.facts.now c.follow_exposed.new.facts c.requires.truth c.in-Exposed.module
    (subst (KnowsOf c.args.facts.now) c.in-Exposed.is c.requires.known) c.in_ok-follow_exposed-in-Exposed.ensures)

pub returns-in_ok-follow_space-in-Space-clause-spreads : goal.returns-in_ok-follow_space-in-Space-clause-spreads
returns-in_ok-follow_space-in-Space-clause-spreads c =
    subst (λ fact. Spreads c.args.resolver.now c.args.facts.now fact c.follow_space.new.facts) (sym c.in-Space.is)
    (spreads_space c.args.resolver.now c.requires.fits c.args.facts.now c.follow_space.new.facts c.requires.truth c.in-Space.module
    (subst (KnowsOf c.args.facts.now) c.in-Space.is c.requires.known) c.in_ok-follow_space-in-Space.ensures)

pub returns-in_ok-follow_used-in-Used-clause-spreads : goal.returns-in_ok-follow_used-in-Used-clause-spreads
returns-in_ok-follow_used-in-Used-clause-spreads c =
    let named : place_of c.args.facts.now.names c.in_ok-name-in-Used.name ≡ Some c.in-Used.number =
    subst (λ n. place_of c.args.facts.now.names n ≡ Some c.in-Used.number) (sym c.in_ok-name-in-Used.ensures) c.text_of.ensures.place in
    subst (λ fact. Spreads c.args.resolver.now c.args.facts.now fact c.follow_used.new.facts) (sym c.in-Used.is)
    (spreads_used c.args.resolver.now c.requires.fits c.args.facts.now c.follow_used.new.facts c.requires.truth c.in-Used.module c.in-Used.number c.in_ok-name-in-Used.name
    (subst (KnowsOf c.args.facts.now) c.in-Used.is c.requires.known) named c.in_ok-follow_used-in-Used.ensures.learns)

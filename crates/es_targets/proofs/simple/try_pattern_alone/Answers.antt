use Rattle.std.proofs.Common.{◌≡◌, None, Err, sym, subst}
use Rattle.es_reader.specs.Targets.{pattern_alone}
use Rattle.es_reader.specs.Tying.{readers_to}
use Rattle.es_trace.specs.Basics.{Traces}
use Rattle.es_trace.specs.Targets as spec
use Rattle.es_trace.specs.Tying.{tracers_to}
use Rattle.es_targets.proofs.Passing.{pattern_gives_way, pattern_passes}
use Rattle.es_targets.proofs.simple.try_pattern_alone.Goals as goal

pub returns-then-has_passed-clause-traces : goal.returns-then-has_passed-clause-traces
returns-then-has_passed-clause-traces g c =
    pattern_gives_way c.args.cursor.now c.args.knot.now.nest c.args.c c.args.outline.now.marks c.args.at (c.has_passed.ensures c.if-has_passed.true)

pub pass-requires : goal.pass-requires
pass-requires g c =
    let none = subst (λ f. Traces (spec.pattern_alone c.args.cursor.now (tracers_to c.args.cursor.now c.args.knot.now.nest) c.args.c c.args.outline.now.marks c.args.at)
    c.pattern_or_back.new.outline.marks (Err f)) c.in-Err-Syntax.field-0-is c.in-Err-Syntax.ensures.traces in
    subst (λ text. pattern_alone text (readers_to text c.args.knot.now.nest) c.args.c c.args.at ≡ None) (sym c.in-Err-Syntax.ensures.same)
    (pattern_passes c.args.cursor.now c.args.knot.now.nest c.args.c c.args.outline.now.marks c.args.at none)

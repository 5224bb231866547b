use Rattle.std.proofs.Common.{◌≡◌, None, Err, sym, subst}
use Rattle.es_reader.specs.Targets.{read_bare}
use Rattle.es_reader.specs.Tying.{readers_to}
use Rattle.es_trace.specs.Basics.{Traces}
use Rattle.es_trace.specs.Targets as spec
use Rattle.es_trace.specs.Tying.{tracers_to}
use Rattle.es_targets.proofs.Passing.{bare_gives_way, bare_passes}
use Rattle.es_targets.proofs.bare.try_bare.Goals as goal

pub returns-then-has_passed-clause-traces : goal.returns-then-has_passed-clause-traces
returns-then-has_passed-clause-traces g c =
    bare_gives_way c.args.cursor.now c.args.knot.now.nest c.args.c c.args.outline.now.marks c.args.at (c.has_passed.ensures c.if-has_passed.true)

pub pass-requires : goal.pass-requires
pass-requires g c =
    let none = subst (λ f. Traces (spec.trace_bare c.args.cursor.now (tracers_to c.args.cursor.now c.args.knot.now.nest) c.args.c c.args.outline.now.marks c.args.at)
    c.bare_or_back.new.outline.marks (Err f)) c.in-Err-Syntax.field-0-is c.in-Err-Syntax.ensures.traces in
    subst (λ text. read_bare text (readers_to text c.args.knot.now.nest) c.args.c c.args.at ≡ None) (sym c.in-Err-Syntax.ensures.same)
    (bare_passes c.args.cursor.now c.args.knot.now.nest c.args.c c.args.outline.now.marks c.args.at none)

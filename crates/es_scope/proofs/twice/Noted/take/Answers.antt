use Rattle.std.proofs.Common.{List, sym, ap, subst, arith}
use Rattle.es_scope.specs.declared.frame.Frame.{Frame}
use Rattle.es_scope.specs.Frames.{scopes_of}
use Rattle.es_scope.proofs.Agreeing.{descending}
use Rattle.es_scope.proofs.Hoisting.{innermost_low}
use Rattle.es_scope.proofs.Through.{Descend}
use Rattle.es_scope.proofs.twice.Noted.take.Goals as goal

pub through-requires : goal.through-requires
through-requires c = subst (λ (frames : List Frame). Descend (scopes_of frames)) (sym c.requires.parts) (descending c.args.outlined.now c.args.place)

pub class-requires : goal.class-requires
class-requires c =
    let low = innermost_low c.args.outlined.now c.args.place c.args.parts.now c.requires.parts in
    omega (arith, low, ap (λ (frame : Frame). frame.scope) c.innermost-frame.ensures)

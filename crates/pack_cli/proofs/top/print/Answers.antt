use Rattle.std.proofs.Common.{ap}
use Rattle.std.specs.Result.{is_err}
use Rattle.pack_cli.specs.Run.PutsLines.{whole, part}
use Rattle.pack_cli.proofs.top.print.Goals as goal

pub returns-in-Ok : goal.returns-in-Ok
returns-in-Ok g c = whole _ _ c.put.ensures.told (c.put.ensures.cause.kept (ap is_err c.in-Ok.is)) c.in-Ok.ensures.put

pub returns-in-Err : goal.returns-in-Err
returns-in-Err g c = part _ _ c.put.ensures.told (c.put.ensures.cause.rose (ap is_err c.in-Err.is)) c.in-Err.ensures.lost

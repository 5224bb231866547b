-- the files before the present one were put
use Rattle.std.proofs.Common.{◌≡◌, ◌++◌, IsTrue, take}
use Rattle.pack_cli.specs.Output.{put_calls, put_all}
use Rattle.pack_cli.proofs.rounds.put_files.Given as goal

abbrev pub invariant-loop-file : goal.invariant-loop-file
invariant-loop-file g l =
    let old = g.O.Store.means l.fn.out in
    let now = g.O.Store.means l.out in
    record {
      told : now.told ≡ old.told;
      faults : now.faults ≡ old.faults;
      calls : now.calls ≡ old.calls ++ put_calls (take l.file-index l.files);
      held : IsTrue old.told → now.files ≡ put_all (take l.file-index l.files) old.files;
    }

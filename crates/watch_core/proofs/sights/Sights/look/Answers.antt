use Rattle.std.proofs.Common.{rules, sym}
use Rattle.std.specs.Map.{keys_of}
use Rattle.watch_core.proofs.Seeing.{found_stands, looks_nothing, some_known, none_known, keys_grow}
use Rattle.watch_core.proofs.sights.Sights.look.Goals as goal

pub add-requires : goal.add-requires
add-requires g c = record { new = none_known (keys_of c.args.self.now) c.args.path.now (search rules) }

pub returns-in-Some-clause-place : goal.returns-in-Some-clause-place
returns-in-Some-clause-place g c = found_stands c.args.self.now c.args.path.now c.in-Some.number (search rules)

pub returns-in-Some-clause-keys : goal.returns-in-Some-clause-keys
returns-in-Some-clause-keys g c = sym (some_known (keys_of c.args.self.now) c.args.path.now c.in-Some.number (search rules))

pub returns-in-None-clause-keys : goal.returns-in-None-clause-keys
returns-in-None-clause-keys g c = keys_grow c.add.result (keys_of c.args.self.now) (keys_of c.add.new.self) c.args.path.now (search rules) c.add.ensures.keys

pub returns-in-Some-clause-looks : goal.returns-in-Some-clause-looks
returns-in-Some-clause-looks g c = looks_nothing (g.F.Files.means c.args.files.now) c.args.self.now

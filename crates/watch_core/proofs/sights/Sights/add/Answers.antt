use Rattle.std.proofs.Common.{rules, Ok, ap, ◌∙◌}
use Rattle.std.specs.Map.{keys_of}
use Rattle.pk_base.specs.declared.outside.Read.{Read}
use Rattle.watch_core.proofs.Seeing.{added, added_kept, last_stands, keys_with, read_failed, read_kept, short_after}
use Rattle.watch_core.proofs.sights.Sights.add.Goals as goal

pub returns-in-Ok-clause-place : goal.returns-in-Ok-clause-place
returns-in-Ok-clause-place g c =
    let entries = added c.args.self.now c.insert.new.self.entries c.args.path.now c.in_ok-path.path c.in_ok-read.read c.requires.new (search rules) (search rules) in
    last_stands c.args.self.now c.insert.new.self.entries c.args.path.now c.in_ok-read.read c.len-number.result entries (search rules)

pub returns-in-Ok-clause-keys : goal.returns-in-Ok-clause-keys
returns-in-Ok-clause-keys g c =
    let entries = added c.args.self.now c.insert.new.self.entries c.args.path.now c.in_ok-path.path c.in_ok-read.read c.requires.new (search rules) (search rules) in
    ap keys_of entries ∙ keys_with c.args.self.now c.args.path.now c.in_ok-read.read

pub invariant_of-self : goal.invariant_of-self
invariant_of-self g c = short_after c.self.inside.reads.entries c.insert.new.self.entries c.args.path.now c.in_ok-path.path c.in_ok-read.read c.insert.result (search rules) (search rules) c.insert.ensures.entries c.insert.ensures.err c.in_ok-read.ensures.within (search rules)

pub returns-in_err-read-clause-looks : goal.returns-in_err-read-clause-looks
returns-in_err-read-clause-looks g c =
    read_failed Read _ _ c.from_residual-in_err-read.result (g.F.Files.means c.args.files.now) (g.F.Files.means c.ask.new.files) c.args.self.now c.args.self.now _ c.from_residual-in_err-read.ensures.1
    (read_kept _ (g.F.Files.means c.args.files.now) (g.F.Files.means c.ask.new.files) c.args.self.now c.args.path.now c.in_ok-path.path c.requires.new (search rules) c.in_err-read.ensures.asks)

pub returns-in-Ok-clause-looks : goal.returns-in-Ok-clause-looks
returns-in-Ok-clause-looks g c =
    let entries = added c.args.self.now c.insert.new.self.entries c.args.path.now c.in_ok-path.path c.in_ok-read.read c.requires.new (search rules) (search rules) in
    added_kept (g.F.Files.means c.args.files.now) (g.F.Files.means c.ask.new.files) c.args.self.now c.insert.new.self.entries c.args.path.now c.in_ok-read.read
    (read_kept (Ok c.in_ok-read.read) (g.F.Files.means c.args.files.now) (g.F.Files.means c.ask.new.files) c.args.self.now c.args.path.now c.in_ok-path.path c.requires.new (search rules) c.in_ok-read.ensures.asks)
    (search rules) entries

pub returns-clause-looks : goal.returns-clause-looks
returns-clause-looks g c =
    (read_kept (Ok c.in_ok-read.read) (g.F.Files.means c.args.files.now) (g.F.Files.means c.ask.new.files) c.args.self.now c.args.path.now c.in_ok-path.path c.requires.new (search rules) c.in_ok-read.ensures.asks).files

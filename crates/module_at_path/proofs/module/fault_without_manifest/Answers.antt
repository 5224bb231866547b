use Rattle.std.proofs.Common.{ap, option_map}
use Rattle.module_at_path.specs.Files.{file}
use Rattle.module_at_path.proofs.Files.{first_large}
use Rattle.module_at_path.proofs.module.fault_without_manifest.Goals as goal

pub returns-in-None-clause-fault : goal.returns-in-None-clause-fault
returns-in-None-clause-fault c scope =
    first_large (file c.args.path.now (option_map (λ bytes. bytes.now) c.args.text) scope) (ap (option_map (λ bytes. bytes.now)) c.in-None.is)

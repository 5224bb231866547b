-- the modules that are required so far, each once
use Rattle.std.proofs.Common.{◌≡◌, map, take}
use Rattle.std.specs.List.{concat}
use Rattle.pk_text.specs.FirstPlaces.{first_places}
use Rattle.chunk_files.specs.Factories.{required_at}
use Rattle.chunk_files.proofs.required.required.Given as goal

abbrev pub invariant-loop-site : goal.invariant-loop-site
invariant-loop-site l = l.modules.keys ≡ first_places (concat (map (λ site. required_at l.row site.kind) (take l.site-index l.row.facts.sites)))

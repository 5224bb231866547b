use Rattle.std.proofs.Common.{◌<◌, ℕ, length, slice_index_or, subst}
use Rattle.std.proofs.lemmas.List.Elements.{All-same}
use Rattle.hoist_rename.proofs.Rows.{set_within}
use Rattle.pk_types.specs.HoistSets.{set_of}
use Rattle.scope_getters.proofs.scopes.scope.Goals as goal

pub variables-requires : goal.variables-requires
variables-requires c =
    let layout = c.args.speller.now in
    All-same (λ m. m < length layout.graph.rows) c.args.members.now (set_of layout.roots c.args.root) c.requires.members
    (subst (λ n. (k : ℕ) (d : ℕ) → k < length (set_of layout.roots c.args.root) → slice_index_or (set_of layout.roots c.args.root) k d < n) c.requires.fits.each_root
    (set_within layout.roots c.args.root))

pub cell_names-requires : goal.cell_names-requires
cell_names-requires c =
    let layout = c.args.speller.now in
    All-same (λ m. m < length layout.graph.rows) c.args.members.now (set_of layout.roots c.args.root) c.requires.members
    (subst (λ n. (k : ℕ) (d : ℕ) → k < length (set_of layout.roots c.args.root) → slice_index_or (set_of layout.roots c.args.root) k d < n) c.requires.fits.each_root
    (set_within layout.roots c.args.root))

-- the lists of the first modules
use Rattle.std.proofs.Common.{◌≡◌, ℕ, length, Some, slice_get}
use Rattle.emit_body.specs.declared.getters.ScopeGetters.{ScopeGetters}
use Rattle.scope_getters.specs.Gaining.{IsListed}
use Rattle.scope_getters.proofs.scopes.scopes.Given as goal

abbrev pub invariant-loop-root : goal.invariant-loop-root
invariant-loop-root l = record {
  same : l.speller ≡ l.fn.speller;
  each : length l.scopes.items ≡ l.root;
  scopes : (root : ℕ) (scope : ScopeGetters) → slice_get l.scopes.items root ≡ Some scope → IsListed l.fn.speller l.spaces l.cells.keys root scope;
}

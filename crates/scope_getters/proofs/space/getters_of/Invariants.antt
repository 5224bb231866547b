-- the getters of the names that were gone through
use Rattle.std.proofs.Common.{◌≡◌, take}
use Rattle.scope_getters.proofs.Listing.{AreFirstGetters}
use Rattle.scope_getters.proofs.space.getters_of.Given as goal

abbrev pub invariant-loop-name : goal.invariant-loop-name
invariant-loop-name l = record {
  same : l.speller ≡ l.fn.speller;
  getters : AreFirstGetters l.fn.speller l.root (take l.name-index l.name-items) l.getters.items;
}

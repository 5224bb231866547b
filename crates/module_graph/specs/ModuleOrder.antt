-- The order of the modules is that of their least addresses.
use Rattle.std.specs.Prelude.{ℕ, ◌<◌, List, length}
use Rattle.pk_types.specs.declared.graph.Graph.{Graph}
use Rattle.module_graph.specs.Addresses.{HasAddress}
use Rattle.module_graph.specs.Shortlex.{ComesBefore, IsAtMost}

-- an address of the module, and no other one of it comes before
pub record IsLeastAddress (graph : Graph) (number : ℕ) (address : List ℕ) : Type 0 where
  pub has : HasAddress graph number address
  pub least : (other : List ℕ) → HasAddress graph number other → IsAtMost address other

-- each module has a least address, and a module of a smaller number has one that comes before
pub record IsModuleOrder (graph : Graph) : Type 0 where
  pub addressed : (number : ℕ) → number < length graph.rows → (address : List ℕ) × IsLeastAddress graph number address
  pub ascending : (m n : ℕ) (before after : List ℕ) → m < n → n < length graph.rows → IsLeastAddress graph m before → IsLeastAddress graph n after → ComesBefore before after

-- What is read of the ground.
use Rattle.std.proofs.Common.{◌≡◌, ℕ, ◌<◌, List, [], length, get_or, sym, ap, subst, ◌∙◌, arith}
use Rattle.std.specs.List.{Contains}
use Rattle.std.proofs.lemmas.List.{get_or_default}
use Rattle.std.proofs.lemmas.List.Elements.{All-from_get_or, All-get_or, Contains-get_or}
use Rattle.pk_types.proofs.ListMembers.{in_row}
use Rattle.pk_types.specs.Places.{ArePlacesIn}
use Rattle.scope_hoist.specs.declared.ground.Ground.{Ground}
use Rattle.scope_hoist.specs.Standing.{IsGround, Asks}

module _ (ground : Ground) (is : IsGround ground) where
  -- what is read at a module's place among the requesters
  pub requesters_read : (member : ℕ) (row list : List ℕ) → member < length ground.asks.items → row ≡ get_or ground.requesters.items member row → list ≡ row
      → list ≡ get_or ground.requesters.items member []
  requesters_read member row list low read same =
      let each = is.transposed.each in same ∙ read ∙ get_or_default ground.requesters.items member row [] (omega (arith, low))

  pub requester_asks : (member from : ℕ) (list : List ℕ) → member < length ground.asks.items → list ≡ get_or ground.requesters.items member []
      → Contains list from → Asks ground.asks.items from member
  requester_asks member from list low read c = (is.transposed.lists member from low).0 (subst (λ l. Contains l from) read c)

  pub asking_requests : (member from : ℕ) (list : List ℕ) → member < length ground.asks.items → list ≡ get_or ground.requesters.items member []
      → Asks ground.asks.items from member → Contains list from
  asking_requests member from list low read asking = subst (λ l. Contains l from) (sym read) ((is.transposed.lists member from low).1 asking)

  pub requesters_within : (member : ℕ) (list : List ℕ) (all : List (List ℕ)) → member < length ground.asks.items → list ≡ get_or ground.requesters.items member []
      → all ≡ ground.homes.items → ArePlacesIn all list
  requesters_within member list all low read same = All-from_get_or (λ from. from < length all) list 0 (λ k h.
      let asking = requester_asks member (get_or list k 0) list low read (Contains-get_or list k 0 h) in
      let inside = in_row ground.asks.items (get_or list k 0) member asking in
      let each = is.each_home in let long = ap length same in omega (arith, inside))

  pub asks_read : (from : ℕ) (row list : List ℕ) → from < length ground.asks.items → row ≡ get_or ground.asks.items from row → list ≡ row → list ≡ get_or ground.asks.items from []
  asks_read from row list low read same = same ∙ read ∙ get_or_default ground.asks.items from row [] low

  pub asks_within : (from place : ℕ) (list : List ℕ) → list ≡ get_or ground.asks.items from [] → from < length ground.asks.items → place < length list → get_or list place 0 < length ground.asks.items
  asks_within from place list read low inside = All-get_or (λ t. t < length ground.asks.items) list place 0 inside
      (subst (ArePlacesIn ground.asks.items) (sym read) (All-get_or (ArePlacesIn ground.asks.items) ground.asks.items from [] low is.within))

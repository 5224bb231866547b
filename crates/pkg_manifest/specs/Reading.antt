-- What the reader of `json` answers, as a value here. Only private clauses cite it.
use Rattle.std.specs.Prelude.{ℕ, List, [], ◌∷◌, Option, length}
use Rattle.json.specs.Token.{Token}
use Rattle.json.specs.Json as read
use Rattle.json.specs.Json.{parse_map, items, members, value}
use Rattle.pkg_manifest.specs.declared.value.Json.{Json}
use Rattle.pkg_manifest.specs.declared.value.Json.TheVariants as json
use Rattle.pkg_manifest.specs.declared.value.Member.{Member}
use Rattle.pkg_manifest.specs.Members.{member, merged}

abbrev mutual
  pub kept : read.Json → Json
  kept read.null = json.Null
  kept (read.boolean b) = json.Bool b
  kept (read.number s) = json.Number
  kept (read.string s) = json.Text s
  kept (read.array js) = json.List (kept_items js)
  kept (read.object ms) = json.Object (merged (kept_members ms))

  pub kept_items : read.Items → List Json
  kept_items read.no_items = []
  kept_items (read.item j js) = kept j ∷ kept_items js

  pub kept_members : read.Members → List (Member Json)
  kept_members read.no_members = []
  kept_members (read.member s j ms) = member s (kept j) ∷ kept_members ms

abbrev pub value_read : ℕ → List Token → Option (Json × List Token)
value_read depth ts = parse_map kept (value depth ts)

abbrev pub items_read : ℕ → List Token → Option (List Json × List Token)
items_read depth ts = parse_map kept_items (items (value depth) (length ts) ts)

abbrev pub members_read : ℕ → List Token → Option (List (Member Json) × List Token)
members_read depth ts = parse_map (λ ms. merged (kept_members ms)) (members (value depth) (length ts) ts)

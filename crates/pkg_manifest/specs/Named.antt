-- The values of the fields that a manifest is made of. Only private clauses cite it.
use Rattle.std.specs.Prelude.{ℕ, List, Option, Some, codes, if◌then◌else◌}
use Rattle.std.specs.Str.{bytes_eq}
use Rattle.pkg_manifest.specs.declared.value.Json.{Json}
use Rattle.pkg_manifest.specs.declared.value.Member.{Member}
use Rattle.pkg_manifest.specs.declared.fields.Fields.{Fields}
use Rattle.pkg_manifest.specs.Fields.{value_of}

abbrev pub fields_of : List (Member Json) → Fields
fields_of ms = record {
  name = value_of (codes "name") ms;
  main = value_of (codes "main") ms;
  «module» = value_of (codes "module") ms;
  kind = value_of (codes "type") ms;
  exports = value_of (codes "exports") ms;
  imports = value_of (codes "imports") ms;
  side_effects = value_of (codes "sideEffects") ms;
}

-- the field once a member comes before the others
abbrev pub named : List ℕ → Member Json → Option Json → Option Json
named name m old = if bytes_eq m.name name then Some m.value else old

abbrev pub with_member : Fields → Member Json → Fields
with_member fields m = record {
  name = named (codes "name") m fields.name;
  main = named (codes "main") m fields.main;
  «module» = named (codes "module") m fields.«module»;
  kind = named (codes "type") m fields.kind;
  exports = named (codes "exports") m fields.exports;
  imports = named (codes "imports") m fields.imports;
  side_effects = named (codes "sideEffects") m fields.side_effects;
}

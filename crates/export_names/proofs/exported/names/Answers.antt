use Rattle.std.proofs.Common.{◌↔◌, ℕ, List, Result, Ok, Err, IfOk}
use Rattle.std.specs.List.{Contains}
use Rattle.pk_types.specs.ExportedNames.{AreInByteOrder}
use Rattle.export_names.specs.Collected.{key_names}
use Rattle.export_names.proofs.exported.names.Goals as goal

both : {T E : Type 0} (result : Result T E) (P Q R : T → Type 0) → ((x : T) → P x → Q x → R x) → IfOk result P → IfOk result Q → IfOk result R
both (Ok x) P Q R joined p q = joined x p q
both (Err e) P Q R joined p q = tt

pub returns : goal.returns
returns c = both c.in_byte_order.result
    (λ sorted. (name : List ℕ) → Contains sorted.items name ↔ Contains (key_names c.in_ok-names.names.keys) name) (λ sorted. AreInByteOrder sorted.items) _
    (λ sorted each order. record {
      each = λ name. (λ there. (c.in_ok-names.ensures name).0 ((each name).0 there), λ one. (each name).1 ((c.in_ok-names.ensures name).1 one));
      order = order;
    }) c.in_byte_order.ensures.each c.in_byte_order.ensures.order

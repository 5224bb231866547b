-- The numbers that a scope's items name are in range.
use Rattle.std.proofs.Common.{ℕ, ◌<◌, List, [], ◌∷◌, length, sym, subst, get_or}
use Rattle.std.proofs.lemmas.List.Elements.{All-nil, All-cons, All-head, All-tail, All-get_or, All-filter}
use Rattle.std.specs.List.{All}
use Rattle.pk_types.specs.declared.graph.Graph.{Graph}
use Rattle.pk_types.specs.declared.plan.Plan.{Plan}
use Rattle.pk_types.specs.declared.plan.Item.{Item}
use Rattle.pk_types.specs.declared.plan.Item.TheVariants.{Segment, Evaluate}
use Rattle.std.specs.List.{filter}
use Rattle.emit_chunk.specs.Entry.{is_root}
use Rattle.emit_chunk.specs.Factories.{evaluated}
use Rattle.emit_chunk.specs.Ranges.{AreBelow, InRange, module_of}

pub evaluated_below : (count : ℕ) (items : List Item) → All (λ item. module_of item < count) items → AreBelow count (evaluated items)
evaluated_below count [] all = All-nil (λ number. number < count)
evaluated_below count (Segment number ∷ items) all =
    evaluated_below count items (All-tail (λ item. module_of item < count) (Segment number) items all)
evaluated_below count (Evaluate number ∷ items) all =
    All-cons (λ number. number < count) number (evaluated items) (All-head (λ item. module_of item < count) (Evaluate number) items all) (evaluated_below count items (All-tail (λ item. module_of item < count) (Evaluate number) items all))

pub items_below : (graph : Graph) (plan : Plan) (root : ℕ) (default : List Item)
    → InRange graph plan → root < length graph.rows → All (λ item. module_of item < length graph.rows) (get_or plan.hoists.items root default)
items_below graph plan root default range within =
    All-get_or (All (λ item. module_of item < length graph.rows)) plan.hoists.items root default (subst (λ count. root < count) (sym range.scopes) within) range.items

pub modules_below : (graph : Graph) (plan : Plan) (chunk : ℕ) (default : List ℕ)
    → InRange graph plan → chunk < length plan.chunks.modules → AreBelow (length graph.rows) (get_or plan.chunks.modules chunk default)
modules_below graph plan chunk default range within = All-get_or (AreBelow (length graph.rows)) plan.chunks.modules chunk default within range.modules

pub lists_below : (graph : Graph) (plan : Plan) (group : ℕ) (default : List ℕ)
    → InRange graph plan → group < length plan.chunks.lists → AreBelow (length plan.ids.chunks) (get_or plan.chunks.lists group default)
lists_below graph plan group default range within = All-get_or (AreBelow (length plan.ids.chunks)) plan.chunks.lists group default within range.lists

pub roots_below : (plan : Plan) (count : ℕ) (modules : List ℕ) → AreBelow count modules → AreBelow count (filter (is_root plan) modules)
roots_below plan count modules below = All-filter (is_root plan) (λ number. number < count) modules below

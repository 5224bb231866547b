use Rattle.std.proofs.Common.{◌≡◌, ap, ◌∙◌, rules, cond, Some, []}
use mathlib.Core.Path.{fun_ext}
use Rattle.std.specs.Str.{bytes_eq}
use Rattle.std.specs.Option.{IsSome}
use Rattle.std.specs.Map.{lookup}
use Rattle.std.proofs.lemmas.List.Elements.{All-pop, All-same}
use Rattle.pk_base.specs.Memory.{held_in}
use Rattle.pk_text.specs.Places.{place_of}
use Rattle.pk_base.proofs.Columns.{content_none, held_first, held_step, held_last}
use Rattle.pk_base.proofs.mem_files.column_of.Goals as goal

pub loop-path-init : goal.loop-path-init
loop-path-init c = record {
  len = search rules;
  known = All-same (λ file. IsSome (place_of c.args.paths.now file.0)) c.into_vec-files.result.items c.args.tree.files c.into_vec-files.ensures c.requires;
  held = λ q. held_first (lookup (bytes_eq q) c.into_vec-files.result.items) (held_in c.args.paths.now c.in_ok-column.column.items q) (content_none c.in_ok-column.column.items c.in_ok-column.ensures.empty (place_of c.args.paths.now q));
}

pub fill-requires : goal.fill-requires
fill-requires c =
    let e : c.as_bytes.result.now ≡ c.in-Some.path = c.as_bytes.ensures.value ∙ c.text.ensures.text in
    record {
      len = c.loop-path.invariant.len;
      known = rw e ((All-pop (λ file. IsSome (place_of c.args.paths.now file.0)) c.loop-path.files.items c.pop.new.self.items (Some (c.in-Some.path, c.in-Some.bytes)) c.in-Some.ensures.items c.loop-path.invariant.known).1);
    }

pub loop-path-preserved : goal.loop-path-preserved
loop-path-preserved c =
    let paths = c.args.paths.now in
    let old = c.loop-path.column.items in
    let new = c.fill.new.column.items in
    let files = c.loop-path.files.items in
    let rest = c.pop.new.self.items in
    let path = c.in-Some.path in
    let bytes = c.in-Some.bytes in
    let e : c.as_bytes.result.now ≡ path = c.as_bytes.ensures.value ∙ c.text.ensures.text in
    record {
      len = c.fill.ensures.len;
      known = (All-pop (λ file. IsSome (place_of paths file.0)) files rest (Some (path, bytes)) c.in-Some.ensures.items c.loop-path.invariant.known).0;
      held = λ q. held_step (bytes_eq q) files rest path bytes (held_in paths old q) (held_in paths new q) (lookup (bytes_eq q) c.into_vec-files.result.items)
          c.in-Some.ensures.items
          (c.fill.ensures.held q ∙ ap (λ p. cond (bytes_eq q p) (Some bytes) (held_in paths old q)) e)
          (c.loop-path.invariant.held q);
    }

pub returns-clause-held : goal.returns-clause-held
returns-clause-held c =
    let e : c.loop-path.files.items ≡ [] = search rules in
    fun_ext (λ q. held_last (bytes_eq q) c.loop-path.files.items (held_in c.args.paths.now c.loop-path.column.items q) (lookup (bytes_eq q) c.into_vec-files.result.items) e (c.loop-path.invariant.held q) ∙ ap (lookup (bytes_eq q)) c.into_vec-files.ensures)

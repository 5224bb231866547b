use Rattle.std.proofs.Common.{◌≡◌, ◌∷◌, [], false, Some, slice_get, length, get_or, sym, ap, subst, ◌∙◌, length-append, arith}
use Rattle.std.proofs.lemmas.Option.{slice_get_within}
use Rattle.prune_graph.specs.Gathering.{the_names}
use Rattle.export_usage.proofs.ReadOff.{AreNamesAt, names_more, whole_more, whole_read}
use Rattle.export_usage.proofs.reading.read.Goals as goal

pub loop-module-init : goal.loop-module-init
loop-module-init c = record {
  each_names = ap length c.in_ok-names.ensures.items;
  each_whole = ap length c.in_ok-whole.ensures.items;
  names = λ k list e. absurd (omega (arith, slice_get_within c.in_ok-names.names.items k list e, ap length c.in_ok-names.ensures.items));
  whole = λ k h. absurd (omega (arith, h));
}

pub loop-module-preserved : goal.loop-module-preserved
loop-module-preserved c =
    let inv = c.loop-module.invariant in
    let sorted = c.in_ok-sorted.sorted.items in
    let copy : c.in_ok-copies.field-0 ≡ the_names sorted = c.in_ok-copies.ensures ∙ ap the_names c.as_slice.ensures.value in
    record {
      each_names = omega (arith, inv.each_names, ap length c.in_ok-push.ensures.items, length-append c.loop-module.names.items (c.in_ok-copies.field-0 ∷ []));
      each_whole = omega (arith, inv.each_whole, ap length c.in_ok-push-2.ensures.items, length-append c.loop-module.whole.items (c.is_space.result ∷ []));
      names = names_more c.args.through.now c.loop-module.names.items c.push.new.self.items c.in_ok-copies.field-0 c.loop-module.module c.in_ok-push.ensures.items
          inv.each_names inv.names (subst (AreNamesAt c.args.through.now c.loop-module.module) (sym copy) (c.in_ok-sorted.ensures.order, c.in_ok-sorted.ensures.each));
      whole = whole_more c.loop-module.whole.items c.push-in-loop-module.new.self.items c.args.through.now.spaces.items c.is_space.result c.loop-module.module
          c.in_ok-push-2.ensures.items inv.each_whole inv.whole c.is_space.ensures;
    }

pub returns : goal.returns
returns c =
    let through = c.args.through.now in
    let inv = c.loop-module.invariant in
    let end : c.loop-module.module ≡ c.args.count = omega (arith, c.loop-module-test.false, c.loop-module.auto.module-end) in
    let each_whole : length c.from_vec-2.result ≡ c.args.count = ap length c.from_vec-2.ensures ∙ inv.each_whole ∙ end in
    record {
      each_names = ap length c.from_vec.ensures ∙ inv.each_names ∙ end;
      each_whole = each_whole;
      names = λ k list e. inv.names k list (subst (λ l. slice_get l k ≡ Some list) c.from_vec.ensures e);
      whole = whole_read through c.from_vec-2.result c.args.count c.requires each_whole
          (λ k h. ap (λ l. get_or l k false) c.from_vec-2.ensures ∙ inv.whole k (omega (arith, h, end)));
    }

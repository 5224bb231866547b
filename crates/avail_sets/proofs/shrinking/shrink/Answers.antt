use Rattle.std.proofs.Common.{◌≡◌, ℕ, ◌+◌, ◌<◌, ◌↔◌, ◌⊎◌, true, [], ◌∷◌, ◌++◌, length, get_or, Some, refl, sym, ap, subst, ◌∙◌, length-append, arith}
use Rattle.std.proofs.lemmas.List.{get_or_default}
use Rattle.std.specs.List.{All, Contains}
use Rattle.std.proofs.lemmas.List.Elements.{All-get_or, All-contains, Contains-append_right}
use Rattle.std.proofs.lemmas.Option.{slice_get-get_or}
use Rattle.avail_sets.specs.Words.{flag_in, words_for}
use Rattle.avail_sets.specs.Rows.{IsShrinking}
use Rattle.avail_sets.proofs.Flags.{has_room}
use Rattle.avail_sets.proofs.Passing.{nobody}
use Rattle.avail_sets.proofs.Falling.{one_waits_more, begins, goes_on}
use Rattle.avail_sets.proofs.shrinking.shrink.Goals as goal

pub loop-group-init : goal.loop-group-init
loop-group-init c k =
    (λ there. absurd (omega (arith, there.1, ap length c.new-waiting.ensures.empty)), λ h. absurd (omega (arith, h)))

pub loop-group-preserved : goal.loop-group-preserved
loop-group-preserved c k =
    subst (λ l. Contains l k ↔ (k < c.loop-group.group + 1)) (sym c.in_ok-insert.ensures.keys) (one_waits_more c.loop-group.waiting.keys c.loop-group.group c.loop-group.invariant k)

pub loop-group-2-init : goal.loop-group-2-init
loop-group-2-init c =
    let end : c.loop-group.group ≡ c.args.groups.now.entries = omega (arith, c.loop-group-test.false, c.loop-group.auto.group-end) in
    record {
      shrinking = begins c.args.groups.now c.args.modules c.requires.fits c.args.rows.items c.loop-group.waiting.keys c.requires.each c.requires.rows
          (subst (λ n. (k : ℕ) → Contains c.loop-group.waiting.keys k ↔ (k < n)) end c.loop-group.invariant);
      long = c.in_ok-have.ensures.long;
    }

pub index-requires : goal.index-requires
index-requires c =
    let groups = c.args.groups.now in
    let count = c.args.modules in
    let rows = c.loop-group-2.rows.items in
    let group = c.in-Some.group in
    let fits = c.requires.fits in
    let left = c.pop.new.self.keys in
    let popped : IsShrinking groups count rows (left ++ group ∷ []) = subst (IsShrinking groups count rows) c.in-Some.ensures.keys c.loop-group-2.invariant.shrinking in
    let here : group < length groups.targets = popped.within group (Contains-append_right left (group ∷ []) group (0, omega arith, refl)) in
    omega (arith, here, popped.each, c.loop-group-2.rows.ok)

pub bounds-as_slice-place : goal.bounds-as_slice-place
bounds-as_slice-place c =
    let groups = c.args.groups.now in
    let count = c.args.modules in
    let rows = c.loop-group-2.rows.items in
    let group = c.in-Some.group in
    let fits = c.requires.fits in
    let left = c.pop.new.self.keys in
    let popped : IsShrinking groups count rows (left ++ group ∷ []) = subst (IsShrinking groups count rows) c.in-Some.ensures.keys c.loop-group-2.invariant.shrinking in
    let here : group < length groups.targets = popped.within group (Contains-append_right left (group ∷ []) group (0, omega arith, refl)) in
    omega (arith, here, fits.each_closure, ap length c.as_slice.ensures)

pub bounds-as_slice-place-in-Some : goal.bounds-as_slice-place-in-Some
bounds-as_slice-place-in-Some c =
    let groups = c.args.groups.now in
    let count = c.args.modules in
    let rows = c.loop-group-2.rows.items in
    let group = c.in-Some.group in
    let fits = c.requires.fits in
    let left = c.pop.new.self.keys in
    let popped : IsShrinking groups count rows (left ++ group ∷ []) = subst (IsShrinking groups count rows) c.in-Some.ensures.keys c.loop-group-2.invariant.shrinking in
    let here : group < length groups.targets = popped.within group (Contains-append_right left (group ∷ []) group (0, omega arith, refl)) in
    omega (arith, here, fits.each_lead, ap length c.as_slice-in-Some-2.ensures)

pub load-requires-clause-long : goal.load-requires-clause-long
load-requires-clause-long c =
    let groups = c.args.groups.now in
    let count = c.args.modules in
    let rows = c.loop-group-2.rows.items in
    let group = c.in-Some.group in
    let fits = c.requires.fits in
    let left = c.pop.new.self.keys in
    let popped : IsShrinking groups count rows (left ++ group ∷ []) = subst (IsShrinking groups count rows) c.in-Some.ensures.keys c.loop-group-2.invariant.shrinking in
    let here : group < length groups.targets = popped.within group (Contains-append_right left (group ∷ []) group (0, omega arith, refl)) in
    let within : group < length rows = omega (arith, here, popped.each) in
    let read : c.index.result.now ≡ get_or rows group [] = c.index.ensures ∙ get_or_default rows group c.index.result.now [] within in
    let long : length c.index.result.now ≡ words_for count = ap length read ∙ popped.long group here in
    c.loop-group-2.invariant.long ∙ sym long

pub load-requires-clause-modules : goal.load-requires-clause-modules
load-requires-clause-modules c k d h =
    let groups = c.args.groups.now in
    let count = c.args.modules in
    let rows = c.loop-group-2.rows.items in
    let group = c.in-Some.group in
    let fits = c.requires.fits in
    let left = c.pop.new.self.keys in
    let popped : IsShrinking groups count rows (left ++ group ∷ []) = subst (IsShrinking groups count rows) c.in-Some.ensures.keys c.loop-group-2.invariant.shrinking in
    let here : group < length groups.targets = popped.within group (Contains-append_right left (group ∷ []) group (0, omega arith, refl)) in
    let within : group < length rows = omega (arith, here, popped.each) in
    let read : c.index.result.now ≡ get_or rows group [] = c.index.ensures ∙ get_or_default rows group c.index.result.now [] within in
    let long : length c.index.result.now ≡ words_for count = ap length read ∙ popped.long group here in
    let inside : group < length groups.closures = omega (arith, here, fits.each_closure) in
    let closure : c.as_slice-in-Some.result.now ≡ get_or groups.closures group [] =
    c.as_slice-in-Some.ensures ∙ c.index-as_slice-place.is ∙ ap (λ l. get_or l group c.index-as_slice-place.result) c.as_slice.ensures
    ∙ get_or_default groups.closures group c.index-as_slice-place.result [] inside in
    let own : All (λ n. n < count) c.as_slice-in-Some.result.now =
    subst (All (λ n. n < count)) (sym closure) (All-get_or (λ l. All (λ n. n < count) l) groups.closures group [] inside c.requires.modules) in
    omega (arith, own k d h, has_room count, long)

pub pass_on-requires-clause-leads : goal.pass_on-requires-clause-leads
pass_on-requires-clause-leads c k d h =
    let groups = c.args.groups.now in
    let count = c.args.modules in
    let rows = c.loop-group-2.rows.items in
    let group = c.in-Some.group in
    let fits = c.requires.fits in
    let left = c.pop.new.self.keys in
    let popped : IsShrinking groups count rows (left ++ group ∷ []) = subst (IsShrinking groups count rows) c.in-Some.ensures.keys c.loop-group-2.invariant.shrinking in
    let here : group < length groups.targets = popped.within group (Contains-append_right left (group ∷ []) group (0, omega arith, refl)) in
    let led : group < length groups.leads = omega (arith, here, fits.each_lead) in
    let leads : c.as_slice-in-Some-3.result.now ≡ get_or groups.leads group [] =
    c.as_slice-in-Some-3.ensures ∙ c.index-as_slice-place-in-Some.is ∙ ap (λ l. get_or l group c.index-as_slice-place-in-Some.result) c.as_slice-in-Some-2.ensures
    ∙ get_or_default groups.leads group c.index-as_slice-place-in-Some.result [] led in
    let to_groups : All (λ g. g < length groups.targets) c.as_slice-in-Some-3.result.now =
    subst (All (λ g. g < length groups.targets)) (sym leads) (All-get_or (λ l. All (λ g. g < length groups.targets) l) groups.leads group [] led fits.leads) in
    omega (arith, to_groups k d h, popped.each)

pub pass_on-requires-clause-long : goal.pass_on-requires-clause-long
pass_on-requires-clause-long c g h =
    let groups = c.args.groups.now in
    let count = c.args.modules in
    let rows = c.loop-group-2.rows.items in
    let group = c.in-Some.group in
    let fits = c.requires.fits in
    let left = c.pop.new.self.keys in
    let popped : IsShrinking groups count rows (left ++ group ∷ []) = subst (IsShrinking groups count rows) c.in-Some.ensures.keys c.loop-group-2.invariant.shrinking in
    let here : group < length groups.targets = popped.within group (Contains-append_right left (group ∷ []) group (0, omega arith, refl)) in
    let within : group < length rows = omega (arith, here, popped.each) in
    let read : c.index.result.now ≡ get_or rows group [] = c.index.ensures ∙ get_or_default rows group c.index.result.now [] within in
    let long : length c.index.result.now ≡ words_for count = ap length read ∙ popped.long group here in
    popped.long g (omega (arith, h, popped.each)) ∙ sym (c.load.ensures.long ∙ long)

pub loop-group-2-preserved : goal.loop-group-2-preserved
loop-group-2-preserved c =
    let groups = c.args.groups.now in
    let count = c.args.modules in
    let rows = c.loop-group-2.rows.items in
    let group = c.in-Some.group in
    let fits = c.requires.fits in
    let left = c.pop.new.self.keys in
    let popped : IsShrinking groups count rows (left ++ group ∷ []) = subst (IsShrinking groups count rows) c.in-Some.ensures.keys c.loop-group-2.invariant.shrinking in
    let here : group < length groups.targets = popped.within group (Contains-append_right left (group ∷ []) group (0, omega arith, refl)) in
    let within : group < length rows = omega (arith, here, popped.each) in
    let read : c.index.result.now ≡ get_or rows group [] = c.index.ensures ∙ get_or_default rows group c.index.result.now [] within in
    let long : length c.index.result.now ≡ words_for count = ap length read ∙ popped.long group here in
    let inside : group < length groups.closures = omega (arith, here, fits.each_closure) in
    let closure : c.as_slice-in-Some.result.now ≡ get_or groups.closures group [] =
    c.as_slice-in-Some.ensures ∙ c.index-as_slice-place.is ∙ ap (λ l. get_or l group c.index-as_slice-place.result) c.as_slice.ensures
    ∙ get_or_default groups.closures group c.index-as_slice-place.result [] inside in
    let led : group < length groups.leads = omega (arith, here, fits.each_lead) in
    let leads : c.as_slice-in-Some-3.result.now ≡ get_or groups.leads group [] =
    c.as_slice-in-Some-3.ensures ∙ c.index-as_slice-place-in-Some.is ∙ ap (λ l. get_or l group c.index-as_slice-place-in-Some.result) c.as_slice-in-Some-2.ensures
    ∙ get_or_default groups.leads group c.index-as_slice-place-in-Some.result [] led in
    let to_groups : All (λ g. g < length groups.targets) c.as_slice-in-Some-3.result.now =
    subst (All (λ g. g < length groups.targets)) (sym leads) (All-get_or (λ l. All (λ g. g < length groups.targets) l) groups.leads group [] led fits.leads) in
    record {
      shrinking = goes_on groups count fits rows c.pass_on.new.rows.items group left c.pass_on.new.waiting.keys c.load.new.have c.as_slice-in-Some-3.result.now
          c.as_slice-in-Some.result.now popped
          (slice_get-get_or groups.leads group [] led ∙ ap Some (sym leads)) (slice_get-get_or groups.closures group [] inside ∙ ap Some (sym closure))
          (λ number. subst (λ r. (flag_in c.load.new.have number ≡ true) ↔ ((flag_in r number ≡ true) ⊎ Contains c.as_slice-in-Some.result.now number)) read (c.load.ensures.flags number))
          (λ next among. All-contains (λ g. g < length groups.targets) c.as_slice-in-Some-3.result.now next to_groups among)
          c.in_ok-pass_on.ensures;
      long = c.load.ensures.long ∙ long;
    }

pub loop-group-2-smaller : goal.loop-group-2-smaller
loop-group-2-smaller c =
    let passed = c.in_ok-pass_on.ensures in
    omega (arith, passed.fewer, ap length c.in-Some.ensures.keys, length-append c.pop.new.self.keys (c.in-Some.group ∷ []))

pub returns : goal.returns
returns c = subst (IsShrinking c.args.groups.now c.args.modules c.loop-group-2.rows.items) (nobody c.loop-group-2.waiting.keys c.in_default.ensures.found.1) c.loop-group-2.invariant.shrinking

use Rattle.std.proofs.Common.{◌≡◌, ◌<◌, ℕ, List, [], length, get_or, Contains, sym, ap, subst, ◌∙◌}
use Rattle.std.specs.List.{All}
use Rattle.std.specs.List.Sorted.{IsStrictlyIncreasing}
use Rattle.std.proofs.lemmas.List.{get_or_default}
use Rattle.pk_types.specs.GivenNames.{GivesNames}
use Rattle.pk_types.specs.HoistSets.{set_of}
use Rattle.hoist_rename.proofs.Rows.{set_within}
use Rattle.bundle_plan.proofs.PutNames.{set_rises, as_many, names_more}
use Rattle.bundle_plan.proofs.names.given_names.Goals as goal

-- the list that the loop looks at is the set of its root
set_there : (roots : List ℕ) (sets now : List (List ℕ)) (item : List ℕ) (root : ℕ) → now ≡ sets → root < length now → item ≡ get_or now root item
    → ((root : ℕ) → get_or sets root [] ≡ set_of roots root) → item ≡ set_of roots root
set_there roots sets now item root same low is all = is ∙ get_or_default now root item [] low ∙ ap (λ l. get_or l root []) same ∙ all root

pub names_of_set-requires : goal.names_of_set-requires
names_of_set-requires c =
    let roots = c.args.roots.now in
    let index = c.loop-members.members-index in
    let is = set_there roots c.in_ok-sets.sets.items c.as_slice-members-items.result.now c.members-item.result index c.as_slice-members-items.ensures.value
    c.loop-members-test.true c.members-item.is c.in_ok-sets.ensures.sets in
    subst (All (λ member. member < length c.args.graph.now.rows)) (sym (c.as_slice.ensures ∙ is))
    (subst (λ n. All (λ member. member < n) (set_of roots index)) c.requires.each (set_within roots index))

pub put-requires-clause-each : goal.put-requires-clause-each
put-requires-clause-each c =
    as_many c.args.graph.now c.as_slice.result.now c.in_ok-given.given.items c.in_ok-given.ensures ∙ ap length (c.as_slice.ensures ∙ sym c.as_slice-in-loop-members.ensures)

pub put-requires-clause-within : goal.put-requires-clause-within
put-requires-clause-within c =
    let roots = c.args.roots.now in
    let index = c.loop-members.members-index in
    let is = set_there roots c.in_ok-sets.sets.items c.as_slice-members-items.result.now c.members-item.result index c.as_slice-members-items.ensures.value
    c.loop-members-test.true c.members-item.is c.in_ok-sets.ensures.sets in
    subst (All (λ member. member < length c.loop-members.names.items)) (sym (c.as_slice-in-loop-members.ensures ∙ is))
    (subst (λ n. All (λ member. member < n) (set_of roots index)) (sym c.loop-members.invariant.each) (set_within roots index))

pub put-requires-clause-apart : goal.put-requires-clause-apart
put-requires-clause-apart c =
    let roots = c.args.roots.now in
    let index = c.loop-members.members-index in
    let is = set_there roots c.in_ok-sets.sets.items c.as_slice-members-items.result.now c.members-item.result index c.as_slice-members-items.ensures.value
    c.loop-members-test.true c.members-item.is c.in_ok-sets.ensures.sets in
    subst IsStrictlyIncreasing (sym (c.as_slice-in-loop-members.ensures ∙ is)) (set_rises roots index)

pub loop-members-preserved : goal.loop-members-preserved
loop-members-preserved c =
    let graph = c.args.graph.now in
    let roots = c.args.roots.now in
    let index = c.loop-members.members-index in
    let old = c.loop-members.names.items in
    let now = c.put.new.names.items in
    let given = c.in_ok-given.given.items in
    let is = set_there roots c.in_ok-sets.sets.items c.as_slice-members-items.result.now c.members-item.result index c.as_slice-members-items.ensures.value
    c.loop-members-test.true c.members-item.is c.in_ok-sets.ensures.sets in
    let here = c.as_slice-in-loop-members.ensures ∙ is in
    record {
      each = c.put.ensures.long ∙ c.loop-members.invariant.each;
      given = names_more graph roots index old now given (subst (λ l. GivesNames graph l given) (c.as_slice.ensures ∙ is) c.in_ok-given.ensures)
          (subst (λ (l : List ℕ). (k : ℕ) → k < length l → get_or now (get_or l k 0) [] ≡ get_or given k []) here c.put.ensures.given)
          (subst (λ (l : List ℕ). (n : ℕ) → ¬ Contains l n → get_or now n [] ≡ get_or old n []) here c.put.ensures.others) c.loop-members.invariant.given;
    }

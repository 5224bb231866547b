use Rattle.std.proofs.Common.{◌≡◌, eqb, sym, subst}
use Rattle.std.specs.List.{Contains, dedup}
use Rattle.std.specs.List.Sorted.{IsStrictlyIncreasing}
use Rattle.std.proofs.lemmas.List.Filters.{dedup_is}
use Rattle.std.proofs.lemmas.List.Kept.{Contains-dedup_nat, Contains-from_dedup}
use Rattle.std.proofs.lemmas.List.Sorted.{Contains-permutation, IsPermutation-sym}
use Rattle.std.proofs.lemmas.Map.Keys.{IsStrictlyIncreasing-dedup}
use Rattle.split_chunks.proofs.numbers.put.Goals as goal

pub returns : goal.returns
returns c =
    let numbers = c.args.numbers.now.items in
    let sorted = c.sort_unstable.new.self.items in
    let is : c.dedup.new.self.items ≡ dedup eqb sorted = dedup_is eqb sorted c.dedup.new.self.items c.dedup.ensures.filtered in
    record {
      ascending = subst IsStrictlyIncreasing (sym is) (IsStrictlyIncreasing-dedup sorted c.sort_unstable.ensures.sorted);
      each = λ number. (
        λ there. Contains-permutation sorted numbers number (IsPermutation-sym numbers sorted c.sort_unstable.ensures.permutation)
            (Contains-from_dedup eqb sorted number (subst (λ l. Contains l number) is there)),
        λ there. subst (λ l. Contains l number) (sym is) (Contains-dedup_nat sorted number (Contains-permutation numbers sorted number c.sort_unstable.ensures.permutation there)),
      );
    }

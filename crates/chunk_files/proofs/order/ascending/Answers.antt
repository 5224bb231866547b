use Rattle.std.proofs.Common.{◌≡◌, eqb, sym, subst}
use Rattle.std.specs.List.{Contains, dedup}
use Rattle.std.specs.List.Sorted.{IsStrictlyIncreasing}
use Rattle.std.proofs.lemmas.List.Filters.{dedup_is}
use Rattle.std.proofs.lemmas.List.Kept.{Contains-dedup_nat, Contains-from_dedup}
use Rattle.std.proofs.lemmas.List.Sorted.{Contains-permutation, IsPermutation-sym}
use Rattle.std.proofs.lemmas.Map.Keys.{IsStrictlyIncreasing-dedup}
use Rattle.chunk_files.proofs.order.ascending.Goals as goal

pub returns : goal.returns
returns c =
    let sorted = c.sort_unstable.new.self.items in
    let is : c.dedup.new.self.items ≡ dedup eqb sorted = dedup_is eqb sorted c.dedup.new.self.items c.dedup.ensures.filtered in
    record {
      ascending = subst IsStrictlyIncreasing (sym is) (IsStrictlyIncreasing-dedup sorted c.sort_unstable.ensures.sorted);
      each = λ number. (
        λ there. Contains-permutation sorted c.args.numbers.items number (IsPermutation-sym c.args.numbers.items sorted c.sort_unstable.ensures.permutation)
            (Contains-from_dedup eqb sorted number (subst (λ l. Contains l number) is there)),
        λ there. subst (λ l. Contains l number) (sym is) (Contains-dedup_nat sorted number (Contains-permutation c.args.numbers.items sorted number c.sort_unstable.ensures.permutation there)),
      );
    }

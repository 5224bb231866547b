-- What an occurrence is to the marks around it: a callee, the operand of a prefix word, in parentheses.
use Rattle.std.specs.Prelude.{◌≡◌, ℕ, ◌+◌, List, codes}
use Rattle.es_outline.specs.declared.mark.Mark.TheVariants as mark
use Rattle.es_outline.specs.declared.mark.Role.TheVariants as is
use Rattle.es_scope.specs.Source.{Source, IsMark, HasRole, spelled_at}

-- a member, a call or a tagged template goes on at the place
pub data GoesOn (source : Source) (place : ℕ) : Type 0 where
  dot : HasRole source place is.Dot → GoesOn source place
  suffix : HasRole source place is.Suffixes → GoesOn source place
  call : IsMark source place mark.Call → GoesOn source place
  tag : IsMark source place mark.Tag → GoesOn source place

-- what goes from `first` to `last` stands in some parentheses or in none, and goes with these from `outer` to `end`
pub data IsParenthesised (source : Source) (first last : ℕ) : ℕ → ℕ → Type 0 where
  bare : IsParenthesised source first last first last
  more : (before outer end : ℕ) → before + 1 ≡ outer → IsParenthesised source first last outer end → HasRole source before is.Opens
      → HasRole source (end + 1) is.Closes → IsParenthesised source first last before (end + 1)

-- a token of a prefix that is spelled like this stands before the place
pub record IsBehindPrefix (source : Source) (place : ℕ) (word : List ℕ) : Type 0 where
  pub before : ℕ
  pub next : before + 1 ≡ place
  pub prefix : HasRole source before is.Prefix
  pub spells : spelled_at source before ≡ word

-- what goes from `first` to `last` is called, maybe in parentheses
pub record IsCalled (source : Source) (first last : ℕ) : Type 0 where
  pub outer : ℕ
  pub end : ℕ
  pub parentheses : IsParenthesised source first last outer end
  pub call : IsMark source (end + 1) mark.Call

-- what goes from `first` to `last` is deleted, maybe in parentheses
pub record IsDeleted (source : Source) (first last : ℕ) : Type 0 where
  pub outer : ℕ
  pub end : ℕ
  pub parentheses : IsParenthesised source first last outer end
  pub prefix : IsBehindPrefix source outer (codes "delete")
  pub whole : ¬ GoesOn source (end + 1)

-- `typeof` of just the name at the place
pub record IsTypeof (source : Source) (place : ℕ) : Type 0 where
  pub prefix : IsBehindPrefix source place (codes "typeof")
  pub whole : ¬ GoesOn source (place + 1)
  pub kept : ¬ IsMark source (place + 1) mark.Assigned

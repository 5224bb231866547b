-- What the marks before a place say of it. They are given with the nearest first.
use Rattle.std.specs.Prelude.{ℕ, ◌+◌, ◌||◌, Bool, true, false, [], ◌∷◌, Option, Some, None}
use Rattle.es_tree.specs.declared.tokens.Token.{Token}
use Rattle.es_outline.specs.declared.mark.Mark.{Mark}
use Rattle.es_outline.specs.declared.mark.Mark.TheVariants as mark
use Rattle.es_outline.specs.declared.mark.Role.TheVariants as is
use Rattle.es_outline.specs.declared.mark.Part.TheVariants as part
use Rattle.es_outline.specs.Outline.{Marks}
use Rattle.module_body.specs.declared.before.Before.{Before}
use Rattle.module_body.specs.declared.standing.Standing.TheVariants as standing
use Rattle.module_body.specs.Standing.{standing_at, stands_behind, is_kept}
use Rattle.module_body.specs.Changes.{ChangesOf, sites_behind, sites_passed, touches_behind, touches_passed, change_behind, last_change}

-- the last token that is kept
abbrev pub kept_behind : Mark → Bool → Option Token → Option Token
kept_behind (mark.Token role token) true last = Some token
kept_behind _ kept last = last

unfoldable pub last_kept : Marks → Option Token
last_kept [] = None
last_kept (one_mark ∷ before) = kept_behind one_mark (is_kept (standing_at before)) (last_kept before)

-- a line terminator stands between that one and the last token
abbrev pub broken_behind : Mark → Bool → Bool → Bool
broken_behind (mark.Token role token) true broken = false
broken_behind (mark.Token role token) false broken = broken || token.newline
broken_behind _ kept broken = broken

unfoldable pub is_broken : Marks → Bool
is_broken [] = false
is_broken (one_mark ∷ before) = broken_behind one_mark (is_kept (standing_at before)) (is_broken before)

-- the next token is the first of an expression that is exported as the default
abbrev pub value_behind : Mark → Bool → Bool
value_behind (mark.Begin part.ExportedValue) begins = true
value_behind (mark.Begin which) begins = begins
value_behind _ begins = false

unfoldable pub begins_value : Marks → Bool
begins_value [] = false
begins_value (one_mark ∷ before) = value_behind one_mark (begins_value before)

-- how many `(` of parentheses stand directly before the place
abbrev pub opens_behind : Mark → ℕ → ℕ
opens_behind (mark.Token is.Opens token) opens = opens + 1
opens_behind _ opens = 0

unfoldable pub opens_before : Marks → ℕ
opens_before [] = 0
opens_before (one_mark ∷ before) = opens_behind one_mark (opens_before before)

abbrev pub nearest : Marks → Option Mark
nearest [] = None
nearest (one_mark ∷ before) = Some one_mark

-- `new` stands directly before the place
abbrev pub is_new : Option Mark → Bool
is_new (Some (mark.Token is.New word)) = true
is_new _ = false

-- the name at the place is the name of a property too
abbrev pub is_shorthand : Option Mark → Bool
is_shorthand (Some mark.Shorthand) = true
is_shorthand _ = false

-- all that is known
abbrev pub before_of : ChangesOf → Marks → Before
before_of changes before = record {
  standing = standing_at before;
  last = last_kept before;
  broken = is_broken before;
  value = begins_value before;
  opens = opens_before before;
  nearest = nearest before;
  sites = sites_passed changes before;
  touches = touches_passed changes before;
  change = last_change changes before;
}

-- what is known behind a mark, of what was known before it
abbrev pub behind : ChangesOf → Mark → Before → Before
behind changes one_mark before = record {
  standing = stands_behind one_mark before.standing;
  last = kept_behind one_mark (is_kept before.standing) before.last;
  broken = broken_behind one_mark (is_kept before.standing) before.broken;
  value = value_behind one_mark before.value;
  opens = opens_behind one_mark before.opens;
  nearest = Some one_mark;
  sites = sites_behind changes one_mark before.sites;
  touches = touches_behind changes one_mark before.touches;
  change = change_behind changes one_mark before.sites before.touches before.change;
}

-- before the first mark
abbrev pub nothing : Before
nothing = record { standing = standing.Kept; last = None; broken = false; value = false; opens = 0; nearest = None; sites = 0; touches = 0; change = None }

-- the same with the changes alone passed
abbrev pub changed : ChangesOf → Mark → Before → Before
changed changes one_mark before = record before {
  sites = sites_behind changes one_mark before.sites;
  touches = touches_behind changes one_mark before.touches;
  change = change_behind changes one_mark before.sites before.touches before.change;
}

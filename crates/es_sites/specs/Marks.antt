-- Tests of single marks, and of the marks around a name.
use Rattle.std.specs.Prelude.{ℕ, zero, suc, ◌+◌, ◌-◌, nat_lt, Bool, true, false, ◌&&◌, ◌||◌, not, cond, [], ◌∷◌, Option, Some, None, drop, slice_get, codes}
use Rattle.std.specs.Str.{bytes_eq}
use Rattle.es_tree.specs.declared.tokens.Token.{Token}
use Rattle.es_outline.specs.declared.mark.Mark.{Mark}
use Rattle.es_outline.specs.declared.mark.Mark.TheVariants as mark
use Rattle.es_outline.specs.declared.mark.Role.{Role}
use Rattle.es_outline.specs.declared.mark.Role.TheVariants as is
use Rattle.es_outline.specs.declared.mark.Part.TheVariants as part
use Rattle.es_outline.specs.Outline.{Marks}
use Rattle.es_scope.specs.Source.{Source, spelled_at, token_of}

abbrev pub role_of : Option Mark → Option Role
role_of (Some (mark.Token role token)) = Some role
role_of _ = None

abbrev pub role_at : Source → ℕ → Option Role
role_at source place = role_of (slice_get source.marks place)

abbrev pub token_at : Source → ℕ → Option Token
token_at source place = token_of (slice_get source.marks place)

abbrev pub is_assigned : Option Mark → Bool
is_assigned (Some mark.Assigned) = true
is_assigned _ = false

abbrev pub is_iterated : Option Mark → Bool
is_iterated (Some mark.Iterated) = true
is_iterated _ = false

abbrev pub is_updated : Option Mark → Bool
is_updated (Some mark.Updated) = true
is_updated _ = false

abbrev pub is_unnamed : Option Mark → Bool
is_unnamed (Some mark.Unnamed) = true
is_unnamed _ = false

abbrev pub begins_class : Option Mark → Bool
begins_class (Some (mark.Begin part.Class)) = true
begins_class _ = false

abbrev pub begins_default : Option Mark → Bool
begins_default (Some (mark.Begin part.ExportDefault)) = true
begins_default _ = false

abbrev pub begins_value : Option Mark → Bool
begins_value (Some (mark.Begin part.ExportedValue)) = true
begins_value _ = false

abbrev pub opens : Option Mark → Bool
opens (Some (mark.Token is.Opens token)) = true
opens _ = false

abbrev pub closes : Option Mark → Bool
closes (Some (mark.Token is.Closes token)) = true
closes _ = false

abbrev pub is_prefix : Option Mark → Bool
is_prefix (Some (mark.Token is.Prefix token)) = true
is_prefix _ = false

abbrev pub is_dot : Option Mark → Bool
is_dot (Some (mark.Token is.Dot token)) = true
is_dot _ = false

abbrev pub initializes : Option Mark → Bool
initializes (Some (mark.Token is.Initializes token)) = true
initializes _ = false

abbrev pub is_reference : Option Mark → Bool
is_reference (Some (mark.Token is.Reference token)) = true
is_reference _ = false

abbrev pub begins_declaration : Option Mark → Bool
begins_declaration (Some (mark.Begin part.Declaration)) = true
begins_declaration _ = false

-- a part begins that binds, but is no declaration
abbrev pub begins_binder : Option Mark → Bool
begins_binder (Some (mark.Begin part.Function)) = true
begins_binder (Some (mark.Begin part.Arrow)) = true
begins_binder (Some (mark.Begin part.Catch)) = true
begins_binder _ = false

-- a member, a call or a tagged template goes on with the mark
abbrev pub goes_on : Option Mark → Bool
goes_on (Some (mark.Token is.Dot token)) = true
goes_on (Some (mark.Token is.Suffixes token)) = true
goes_on (Some mark.Call) = true
goes_on (Some mark.Tag) = true
goes_on _ = false

-- the marks begin with any number of `)` behind a target, and then the mark that it is updated
unfoldable pub updated_by : Marks → Bool
updated_by [] = false
updated_by (one_mark ∷ rest) = cond (closes (Some one_mark)) (updated_by rest) (is_updated (Some one_mark))

abbrev pub updated_from : Source → ℕ → Bool
updated_from source place = updated_by (drop place source.marks)

-- `delete` stands at the place
abbrev pub deletes : Source → ℕ → Bool
deletes source place = is_prefix (slice_get source.marks place) && bytes_eq (spelled_at source place) (codes "delete")

-- `(` stands before what goes from one place to another, and `)` behind it
abbrev pub enclosed : Source → ℕ → ℕ → Bool
enclosed source first last = nat_lt 0 first && (opens (slice_get source.marks (first - 1)) && closes (slice_get source.marks (last + 1)))

-- `delete` stands before it, and nothing goes on behind it
abbrev pub behind_delete : Source → ℕ → ℕ → Bool
behind_delete source first last = nat_lt 0 first && (deletes source (first - 1) && not (goes_on (slice_get source.marks (last + 1))))

-- what goes from one place to another is deleted, maybe in parentheses
unfoldable pub deleted : Source → ℕ → ℕ → Bool
deleted source zero last = false
deleted source (suc before) last =
    cond (opens (slice_get source.marks before) && closes (slice_get source.marks (last + 1))) (deleted source before (last + 1))
    (deletes source before && not (goes_on (slice_get source.marks (last + 1))))

-- the name at the place goes on as `.name`, and this is neither assigned to nor deleted
abbrev pub is_member : Source → ℕ → Bool
is_member source place =
    is_dot (slice_get source.marks (place + 1)) && (not (is_assigned (slice_get source.marks (place + 3))) && not (deleted source place (place + 2)))

-- the name at the place is read
abbrev pub is_read : Source → ℕ → Bool
is_read source place = not (is_assigned (slice_get source.marks (place + 1))) || updated_from source (place + 2)

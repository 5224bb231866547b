-- Whether what stands at a place is called, and how its spelling is held together there.
use Rattle.std.specs.Prelude.{ℕ, ◌-◌, nat_eq, nat_le, nat_lt, ◌&&◌, ◌||◌, Bool, true, false, if◌then◌else◌, List, [], ◌∷◌, codes}
use Rattle.std.specs.List.{starts_with}
use Rattle.std.specs.Str.{bytes_eq}
use Rattle.es_outline.specs.declared.mark.Mark.{Mark}
use Rattle.es_outline.specs.declared.mark.Mark.TheVariants as mark
use Rattle.es_outline.specs.declared.mark.Role.TheVariants as is
use Rattle.es_outline.specs.Outline.{Marks}
use Rattle.es_grammar.specs.Reading.{Bytes, spelled}
use Rattle.module_body.specs.declared.calls.Hold.{Hold}
use Rattle.module_body.specs.declared.calls.Hold.TheVariants as hold

abbrev pub ends_by : ℕ → Mark → Bool
ends_by end (mark.Token role token) = nat_le end token.end
ends_by end _ = false

-- the marks behind the token that ends there
unfoldable pub marks_behind : ℕ → Marks → Marks
marks_behind end [] = []
marks_behind end (one_mark ∷ after) = if ends_by end one_mark then after else marks_behind end after

-- a call or a tagged template begins, also a call behind `?.`
abbrev pub begins_call : Bytes → Marks → Bool
begins_call text (mark.Call ∷ after) = true
begins_call text (mark.Tag ∷ after) = true
begins_call text (mark.Token is.Suffixes dots ∷ mark.Token is.Plain left ∷ after) = bytes_eq (spelled text left) (codes "(")
begins_call text _ = false

abbrev pub closes : Mark → Bool
closes (mark.Token is.Closes right) = true
closes _ = false

-- the same, maybe behind `)` of parentheses, of which so many are open
unfoldable pub is_called : Bytes → ℕ → Marks → Bool
is_called text opens [] = false
is_called text opens (one_mark ∷ after) =
    if nat_lt 0 opens && closes one_mark then is_called text (opens - 1) after else begins_call text (one_mark ∷ after)

-- a spelling that names a property, of whose object a call would make its `this`
abbrev pub is_property : List ℕ → Bool
is_property text = starts_with nat_eq text (codes "__webpack_r.m(") || starts_with nat_eq text (codes "__webpack_r.w(")

-- a spelling that calls the loader, or names what it gives
abbrev pub is_loaded : List ℕ → Bool
is_loaded text = starts_with nat_eq text (codes "__webpack_r")

abbrev pub hold_of : List ℕ → Bool → Bool → Hold
hold_of text called constructed =
    if is_property text && called then hold.Comma else (if is_loaded text && constructed then hold.Parentheses else hold.Nothing)

-- what stands before and behind the spelling
abbrev pub opening_of : Hold → List ℕ
opening_of hold.Nothing = []
opening_of hold.Comma = codes "(0, "
opening_of hold.Parentheses = codes "("

abbrev pub closing_of : Hold → List ℕ
closing_of hold.Nothing = []
closing_of _ = codes ")"

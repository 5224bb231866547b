-- What the module does at a place, by what is told of it.
use Rattle.std.specs.Prelude.{ℕ, ◌+◌, ◌-◌, Bool, false, ◌&&◌, ◌||◌, cond, nat_eq, nat_lt, List, Option, Some, None, is_some, slice_get, codes}
use Rattle.std.specs.Str.{bytes_eq}
use Rattle.std.specs.Option.{option_or}
use Rattle.es_tree.specs.declared.tokens.Token.{Token}
use Rattle.es_tree.specs.declared.tokens.ProgramGoal.{ProgramGoal}
use Rattle.es_tree.specs.declared.tokens.ProgramGoal.TheVariants.{Script, Module}
use Rattle.es_outline.specs.declared.mark.Mark.{Mark}
use Rattle.es_outline.specs.declared.mark.Mark.TheVariants as mark
use Rattle.es_outline.specs.declared.mark.Role.{Role}
use Rattle.es_outline.specs.declared.mark.Role.TheVariants as is
use Rattle.pk_types.specs.declared.facts.Ref.TheVariants as ref
use Rattle.pk_types.specs.declared.facts.Site.{Site}
use Rattle.pk_types.specs.declared.facts.SiteKind.{SiteKind}
use Rattle.pk_types.specs.declared.facts.SiteKind.TheVariants as site
use Rattle.es_scope.specs.Source.{Source, spelled_at, name_at}
use Rattle.es_sites.specs.declared.meaning.Meaning.{Meaning}
use Rattle.es_sites.specs.declared.meaning.Meaning.TheVariants as meaning
use Rattle.es_sites.specs.declared.done.Act.{Act}
use Rattle.es_sites.specs.declared.done.Act.TheVariants as act
use Rattle.es_sites.specs.declared.done.Done.{Done}
use Rattle.es_sites.specs.Marks.{token_at, is_iterated, initializes, begins_default, begins_value, is_reference, is_member, is_read}
use Rattle.es_sites.specs.Tables.{Tables, entry, pattern_around, declaration_around}
use Rattle.es_sites.specs.Meant.{meant}

-- of just the token at the place
abbrev pub just : ℕ → Act → Done
just place what = record { first = place; last = place; act = what }

-- a name that is used, which stands for this
abbrev pub used : Source → ℕ → Option Meaning → Option Done
used source place (Some (meaning.Name to)) = cond (is_read source place) (Some (just place (act.Read to))) None
used source place (Some (meaning.Space request)) =
    cond (is_member source place) (Some (record { first = place; last = place + 2; act = act.Member request })) (Some (just place (act.Space request)))
used source place None = None

-- a name that is given its first value, which stands for this
abbrev pub begun : ℕ → Option Meaning → Option Done
begun place (Some (meaning.Name (ref.Own binding))) = Some (just place (act.Init binding))
begun place _ = None

-- a name that is assigned to, which stands for this
abbrev pub written : ℕ → Option Meaning → Option Done
written place (Some (meaning.Name to)) = Some (just place (act.Write to))
written place _ = None

abbrev pub is_behind : ℕ → Option ℕ → Bool
is_behind opening (Some pattern) = nat_lt opening pattern
is_behind opening None = false

-- the name that a `var` that begins at the opening binds at the place is given a value there
abbrev pub is_given : Tables → ℕ → ℕ → Bool
is_given tables place opening =
    initializes (slice_get tables.source.marks (place + 1))
    || (is_iterated (slice_get tables.source.marks (place + 1)) || is_behind opening (pattern_around tables.around place))

-- a name that is bound by the declaration that begins at the opening, with this word
abbrev pub bound_by : Tables → ℕ → ℕ → List ℕ → Option Done
bound_by tables place opening word =
    cond (bytes_eq word (codes "var")) (cond (is_given tables place opening) (written place (meant tables place)) None)
    (cond (bytes_eq word (codes "let") || bytes_eq word (codes "const")) (begun place (meant tables place)) None)

abbrev pub bound : Tables → ℕ → Option ℕ → Option Done
bound tables place (Some opening) = bound_by tables place opening (spelled_at tables.source (opening + 1))
bound tables place None = None

-- the second word of an `export default` of a value or of a class without a name stands at the place
abbrev pub is_default : Tables → ℕ → Bool
is_default tables place =
    nat_lt 1 place && (begins_default (slice_get tables.source.marks (place - 2))
    && (begins_value (slice_get tables.source.marks (place + 1)) || is_some (entry tables.inside.classes.items (place - 2))))

abbrev pub begun_default : ℕ → Option ℕ → Option Done
begun_default place (Some binding) = Some (just place (act.Init binding))
begun_default place None = None

abbrev pub unnamed : Tables → ℕ → Option Done
unnamed tables place = cond (is_default tables place) (begun_default place tables.declarations.default_binding) None

-- the `)` of the arguments that open at the place, which are one text
abbrev pub right_of : Source → ℕ → ℕ
right_of source left = cond (bytes_eq (spelled_at source (left + 2)) (codes ")")) (left + 2) (left + 3)

-- a call for the request of this number, by the token at the place
abbrev pub called_by : Source → ℕ → Role → ℕ → Option Done
called_by source place is.Request number = None
called_by source place is.ImportCall number = Some (record { first = place; last = right_of source (place + 1); act = act.Import number })
called_by source place _ number = Some (record { first = place; last = right_of source (place + 2); act = act.Require number })

abbrev pub called_for : Source → ℕ → Role → Option ℕ → Option Done
called_for source place role (Some number) = called_by source place role number
called_for source place role None = None

abbrev pub called : Tables → ℕ → Role → Option Done
called tables place role = called_for tables.source place role (entry tables.asked.numbers.items place)

-- what a token does that is this
abbrev pub done_by : Tables → ℕ → Role → Option Done
done_by tables place is.Reference = used tables.source place (meant tables place)
done_by tables place is.Bound = bound tables place (declaration_around tables.source place)
done_by tables place is.ClassName = begun place (meant tables place)
done_by tables place is.ImportCall = called tables place is.ImportCall
done_by tables place _ = None

abbrev pub written_before : Tables → ℕ → Option Done
written_before tables place = cond (is_reference (slice_get tables.source.marks place)) (written place (meant tables place)) None

abbrev pub done_by_token : ProgramGoal → Tables → ℕ → Role → Option Done
done_by_token Script tables place role = called tables place role
done_by_token Module tables place role = option_or (unnamed tables place) (done_by tables place role)

abbrev pub done_by_mark : ProgramGoal → Tables → ℕ → Option Done
done_by_mark Script tables place = None
done_by_mark Module tables place = cond (nat_eq place 0) None (written_before tables (place - 1))

abbrev pub done_with : Tables → ℕ → Option Mark → Option Done
done_with tables place (Some (mark.Token role token)) = done_by_token tables.source.goal tables place role
done_with tables place (Some mark.Assigned) = done_by_mark tables.source.goal tables place
done_with tables place _ = None

unfoldable pub done_at : Tables → ℕ → Option Done
done_at tables place = done_with tables place (slice_get tables.source.marks place)

-- as sites tell it
abbrev pub kind_by : Source → ℕ → Act → SiteKind
kind_by source last (act.Init binding) = site.Init binding
kind_by source last (act.Read to) = site.Read to
kind_by source last (act.Write to) = site.Write to
kind_by source last (act.Member request) = site.Member request (name_at source last)
kind_by source last (act.Space request) = site.Space request
kind_by source last (act.Require request) = site.Require request
kind_by source last (act.Import request) = site.Import request

abbrev pub kind_of : Source → Done → SiteKind
kind_of source one = kind_by source one.last one.act

abbrev pub spanned : SiteKind → Option Token → Option Token → Option Site
spanned kind (Some first) (Some last) = Some (record { kind = kind; start = first.start; end = last.end })
spanned kind _ _ = None

abbrev pub site_of : Source → Option Done → Option Site
site_of source (Some one) = spanned (kind_of source one) (token_at source one.first) (token_at source one.last)
site_of source None = None

-- the site at the place
unfoldable pub site_at : Tables → ℕ → Option Site
site_at tables place = site_of tables.source (done_at tables place)

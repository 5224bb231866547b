-- What is written anew in a module's text, and where: at its sites, and at its touches.
use Rattle.std.specs.Prelude.{ℕ, ◌+◌, ◌==◌, Bool, false, if◌then◌else◌, List, [], ◌∷◌, Option, Some, None, slice_get, unwrap_or, codes}
use Rattle.es_tree.specs.declared.tokens.Token.{Token}
use Rattle.es_outline.specs.declared.mark.Mark.{Mark}
use Rattle.es_outline.specs.declared.mark.Mark.TheVariants as mark
use Rattle.es_outline.specs.Outline.{Marks}
use Rattle.pk_types.specs.declared.facts.Facts.{Facts}
use Rattle.pk_types.specs.declared.facts.Site.{Site}
use Rattle.pk_types.specs.declared.facts.SiteKind.{SiteKind}
use Rattle.pk_types.specs.declared.facts.SiteKind.TheVariants as site
use Rattle.pk_types.specs.declared.spelling.Spelling.{Spelling}
use Rattle.module_body.specs.declared.touch.Touch.{Touch}
use Rattle.module_body.specs.declared.touch.NewText.{NewText}
use Rattle.module_body.specs.declared.touch.NewText.TheVariants as new_text
use Rattle.module_body.specs.declared.changes.Change.{Change}
use Rattle.module_body.specs.declared.changes.Written.{Written}
use Rattle.module_body.specs.declared.changes.Written.TheVariants as written

-- the sites, what is written at each, the names of the bindings, and the touches
pub record ChangesOf : Type 0 where
  pub sites : List Site
  pub spelled : List (List ℕ)
  pub names : List (List ℕ)
  pub touches : List Touch

abbrev pub changes_of : Facts → Spelling → List Touch → ChangesOf
changes_of facts spelling touches = record { sites = facts.sites; spelled = spelling.sites; names = spelling.names; touches = touches }

-- the letters of sites: i, r, w, q, d, and u where a name is read and then written
abbrev pub letter_of : SiteKind → ℕ
letter_of (site.Init binding) = 105
letter_of (site.Read named) = 114
letter_of (site.Write named) = 119
letter_of (site.Member request name) = 114
letter_of (site.Space request) = 114
letter_of (site.Require request) = 113
letter_of (site.Import request) = 100

abbrev pub read_and_written : ℕ
read_and_written = 117

abbrev pub site_begins : Token → Option Site → Bool
site_begins token (Some one_site) = one_site.start == token.start
site_begins token None = false

abbrev pub touch_begins : Token → Option Touch → Bool
touch_begins token (Some touch) = touch.start == token.start
touch_begins token None = false

-- how many of the sites, of which so many are passed, begin at the token: a name that is read and then written has two
abbrev pub sites_at : ChangesOf → Token → ℕ → ℕ
sites_at changes token passed =
    if site_begins token (slice_get changes.sites passed) then (if site_begins token (slice_get changes.sites (passed + 1)) then 2 else 1) else 0

abbrev pub touches_at : ChangesOf → Token → ℕ → ℕ
touches_at changes token passed = if touch_begins token (slice_get changes.touches passed) then 1 else 0

-- how many sites begin at tokens of these marks, the nearest first
abbrev pub sites_behind : ChangesOf → Mark → ℕ → ℕ
sites_behind changes (mark.Token role token) passed = passed + sites_at changes token passed
sites_behind changes _ passed = passed

unfoldable pub sites_passed : ChangesOf → Marks → ℕ
sites_passed changes [] = 0
sites_passed changes (one_mark ∷ before) = sites_behind changes one_mark (sites_passed changes before)

abbrev pub touches_behind : ChangesOf → Mark → ℕ → ℕ
touches_behind changes (mark.Token role token) passed = passed + touches_at changes token passed
touches_behind changes _ passed = passed

unfoldable pub touches_passed : ChangesOf → Marks → ℕ
touches_passed changes [] = 0
touches_passed changes (one_mark ∷ before) = touches_behind changes one_mark (touches_passed changes before)

abbrev pub site_change : Option Site → ℕ → ℕ → Option Change
site_change (Some one_site) how_many number =
    Some (record { end = one_site.end; written = written.Site (if how_many == 2 then read_and_written else letter_of one_site.kind) number })
site_change None how_many number = None

abbrev pub touch_change : Option Touch → Option Change
touch_change (Some touch) = Some (record { end = touch.end; written = written.Touch touch.text })
touch_change None = None

-- the change that begins at the token, where so many sites and touches are passed
abbrev pub change_at : ChangesOf → Token → ℕ → ℕ → Option Change
change_at changes token sites touches =
    if site_begins token (slice_get changes.sites sites) then site_change (slice_get changes.sites sites) (sites_at changes token sites) sites
    else (if touch_begins token (slice_get changes.touches touches) then touch_change (slice_get changes.touches touches) else None)

-- the last change that began, where a mark is passed
abbrev pub or_last : Option Change → Option Change → Option Change
or_last (Some change) last = Some change
or_last None last = last

abbrev pub change_behind : ChangesOf → Mark → ℕ → ℕ → Option Change → Option Change
change_behind changes (mark.Token role token) sites touches last = or_last (change_at changes token sites touches) last
change_behind changes _ sites touches last = last

-- the last change that begins at a token of these marks, the nearest first
unfoldable pub last_change : ChangesOf → Marks → Option Change
last_change changes [] = None
last_change changes (one_mark ∷ before) =
    change_behind changes one_mark (sites_passed changes before) (touches_passed changes before) (last_change changes before)

abbrev pub text_at : List (List ℕ) → ℕ → List ℕ
text_at texts number = unwrap_or (slice_get texts number) []

-- the text that is written
abbrev pub new_text_of : ChangesOf → NewText → List ℕ
new_text_of changes (new_text.Name binding) = text_at changes.names binding
new_text_of changes new_text.Function = codes "\"function\""

abbrev pub text_of : ChangesOf → Written → List ℕ
text_of changes (written.Site letter number) = text_at changes.spelled number
text_of changes (written.Touch text) = new_text_of changes text

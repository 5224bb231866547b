-- Which texts are targets, and what they stand for.
use Rattle.std.specs.Prelude.{ℕ, List, [], ◌∷◌, ◌++◌, Bool, false, ◌&&◌, ◌||◌, ◌==◌, not, nat_eq, drop, codes, if◌then◌else◌}
use Rattle.std.specs.List.{list_any, starts_with}
use Rattle.std.specs.Str.{bytes_eq}
use Rattle.pkg_manifest.specs.Patterns.{segments}
use Rattle.pkg_exports.specs.declared.answer.Table.{Table}
use Rattle.pkg_exports.specs.declared.answer.Table.TheVariants.{Exports, Imports}
use Rattle.pkg_exports.specs.declared.answer.Target.TheVariants.{File, Bare}
use Rattle.pkg_exports.specs.declared.meaning.Outcome.{Outcome}
use Rattle.pkg_exports.specs.declared.meaning.Outcome.TheVariants.{Bad, Usable}

abbrev pub has : ℕ → List ℕ → Bool
has c s = list_any (λ d. d == c) s

-- the text with the part in place of each `*`
abbrev pub with_part : List ℕ → List ℕ → List ℕ
with_part part [] = []
with_part part (c ∷ s) = (if c == 42 then part else c ∷ []) ++ with_part part s

-- no path to a file of a package has such a segment
abbrev pub is_forbidden : List ℕ → Bool
is_forbidden s = bytes_eq s [] || bytes_eq s (codes ".") || bytes_eq s (codes "..") || bytes_eq s (codes "node_modules")

-- it begins `./`, and has no such segment after that
abbrev pub is_file : List ℕ → Bool
is_file s = starts_with nat_eq s (codes "./") && not (list_any is_forbidden (segments (drop 2 s)))

abbrev pub is_path : List ℕ → Bool
is_path s = starts_with nat_eq s (codes "./") || starts_with nat_eq s (codes "../") || starts_with nat_eq s (codes "/")

-- in `imports` a text that is no path is a bare request
abbrev pub is_bare : Table → List ℕ → Bool
is_bare Exports s = false
is_bare Imports s = not (is_path s)

-- what a text stands for: it is a file before and after the part is put in, or a bare request, or bad
abbrev pub text_outcome : Table → List ℕ → List ℕ → Outcome
text_outcome table part s =
    if is_file s then (if is_file (with_part part s) then Usable (File (with_part part s)) else Bad)
    else (if is_bare table s then Usable (Bare (with_part part s)) else Bad)

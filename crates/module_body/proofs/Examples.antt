-- Bodies of small modules, by hand: an outline, what is written anew, and the body that is spelled.
use Rattle.std.proofs.Common.{◌≡◌, ℕ, true, false, List, [], ◌∷◌, refl}
use Rattle.std.specs.Prelude.{codes}
use Rattle.es_tree.specs.declared.tokens.TokenKind.TheVariants as token_kind
use Rattle.es_tree.specs.declared.tokens.ProgramGoal.TheVariants.{Script, Module}
use Rattle.es_tree.specs.Names.{name_of, all_encoded, points_from, name_meaning, encoded}
use Rattle.es_tree.specs.Units.{unicode_escape, plain_escape}
use Rattle.es_outline.specs.declared.mark.Mark.{Mark}
use Rattle.es_outline.specs.declared.mark.Mark.TheVariants as mark
use Rattle.es_outline.specs.declared.mark.Role.{Role}
use Rattle.es_outline.specs.declared.mark.Role.TheVariants as is
use Rattle.es_outline.specs.declared.mark.Part.TheVariants as part
use Rattle.es_scope.specs.Source.{Source}
use Rattle.emit_body.specs.declared.body.Piece.{Piece}
use Rattle.pk_types.specs.declared.facts.Ref.TheVariants as ref
use Rattle.pk_types.specs.declared.facts.Site.{Site}
use Rattle.pk_types.specs.declared.facts.SiteKind.{SiteKind}
use Rattle.pk_types.specs.declared.facts.SiteKind.TheVariants as site
use Rattle.module_body.specs.declared.touch.Touch.{Touch}
use Rattle.module_body.specs.declared.touch.NewText.{NewText}
use Rattle.module_body.specs.declared.touch.NewText.TheVariants as new_text
use Rattle.module_body.specs.Standing.{standing_at}
use Rattle.module_body.specs.Changes.{ChangesOf, sites_passed, touches_passed, last_change}
use Rattle.module_body.specs.Before.{last_kept, is_broken, begins_value, opens_before}
use Rattle.module_body.specs.Calls.{marks_behind, is_called}
use Rattle.module_body.specs.Chunks.{text_of, pieces_of}
use Rattle.module_body.specs.Writing.{chunks_from, body_of}

-- a token, and one behind a line terminator; no rule asks for the kinds of tokens
abbrev token : Role → ℕ → ℕ → Mark
token role start end = mark.Token role (record { kind = token_kind.IdName; newline = false; start = start; end = end })

abbrev broken : Role → ℕ → ℕ → Mark
broken role start end = mark.Token role (record { kind = token_kind.IdName; newline = true; start = start; end = end })

abbrev one_site : SiteKind → ℕ → ℕ → Site
one_site what start end = record { kind = what; start = start; end = end }

abbrev touch : NewText → ℕ → ℕ → Touch
touch text start end = record { start = start; end = end; text = text }

abbrev piece : ℕ → ℕ → ℕ → Piece
piece plain kind site = record { plain = plain; kind = kind; site = site }

-- the body has this text and these pieces
abbrev IsSpelled : Source → ChangesOf → List ℕ → List Piece → Type 0
IsSpelled source changes text pieces = ((body_of source changes).text ≡ text) × ((body_of source changes).pieces ≡ pieces)

-- an imported name is called without a `this`; its import is dropped
abbrev called_import_outline : Source
called_import_outline = record {
  text = codes "import { n } from \"./a.js\";\nn();";
  goal = Module;
  marks = mark.Begin part.ImportDeclaration ∷ token is.Plain 0 6 ∷ token is.Plain 7 8 ∷ mark.Shorthand ∷
      token is.Imported 9 10 ∷ token is.Plain 11 12 ∷ token is.Plain 13 17 ∷ token is.Request 18 26 ∷
      token is.Plain 26 27 ∷ mark.End part.ImportDeclaration ∷ broken is.Reference 28 29 ∷ mark.Call ∷
      token is.Plain 29 30 ∷ token is.Plain 30 31 ∷ token is.Plain 31 32 ∷ [];
}

abbrev called_import_changes : ChangesOf
called_import_changes = record {
  sites = one_site (site.Read (ref.Imported 0)) 28 29 ∷ [];
  spelled = codes "__webpack_r.m(1).n" ∷ [];
  names = [];
  touches = [];
}

called_import : IsSpelled called_import_outline called_import_changes (codes "(0, __webpack_r.m(1).n)();") (piece 4 114 18 ∷ [])
unfolding standing_at sites_passed touches_passed last_change last_kept is_broken begins_value opens_before marks_behind is_called text_of pieces_of chunks_from
called_import = (refl, refl)

-- the callee of a `new`
abbrev constructed_import_outline : Source
constructed_import_outline = record {
  text = codes "new n();";
  goal = Module;
  marks = token is.New 0 3 ∷ token is.Reference 4 5 ∷ token is.Plain 5 6 ∷ token is.Plain 6 7 ∷ token is.Plain 7 8 ∷ [];
}

abbrev constructed_import_changes : ChangesOf
constructed_import_changes = record {
  sites = one_site (site.Read (ref.Imported 0)) 4 5 ∷ [];
  spelled = codes "__webpack_r.m(1).n" ∷ [];
  names = [];
  touches = [];
}

constructed_import : IsSpelled constructed_import_outline constructed_import_changes (codes "new (__webpack_r.m(1).n)();") (piece 5 114 18 ∷ [])
unfolding standing_at sites_passed touches_passed last_change last_kept is_broken begins_value opens_before marks_behind is_called text_of pieces_of chunks_from
constructed_import = (refl, refl)

-- `export` is dropped
abbrev exported_names_outline : Source
exported_names_outline = record {
  text = codes "export function f() {}\nexport let x = 1;";
  goal = Module;
  marks = mark.Begin part.ExportedDeclaration ∷ token is.Plain 0 6 ∷ token is.Plain 7 15 ∷ token is.FunctionName 16 17 ∷
      mark.Begin part.Function ∷ token is.Plain 17 18 ∷ token is.Plain 18 19 ∷ mark.Begin part.FunctionBody ∷
      token is.Plain 20 21 ∷ token is.Plain 21 22 ∷ mark.End part.FunctionBody ∷ mark.End part.Function ∷
      mark.End part.ExportedDeclaration ∷ mark.Begin part.ExportedDeclaration ∷ broken is.Plain 23 29 ∷
      mark.Begin part.Declaration ∷ token is.Plain 30 33 ∷ token is.Bound 34 35 ∷ token is.Initializes 36 37 ∷
      token is.Plain 38 39 ∷ mark.End part.Declaration ∷ token is.Plain 39 40 ∷ mark.End part.ExportedDeclaration ∷ [];
}

abbrev exported_names_changes : ChangesOf
exported_names_changes = record {
  sites = one_site (site.Init 1) 34 35 ∷ [];
  spelled = codes "x" ∷ [];
  names = codes "f" ∷ codes "x" ∷ [];
  touches = touch (new_text.Name 0) 16 17 ∷ [];
}

exported_names : IsSpelled exported_names_outline exported_names_changes (codes "function f() {}\nlet x = 1;") (piece 20 105 1 ∷ [])
unfolding standing_at sites_passed touches_passed last_change last_kept is_broken begins_value opens_before marks_behind is_called text_of pieces_of chunks_from
exported_names = (refl, refl)

-- a value that is exported as the default, over a line and without a semicolon
abbrev default_value_outline : Source
default_value_outline = record {
  text = codes "a;\nexport default b";
  goal = Module;
  marks = token is.Reference 0 1 ∷ token is.Plain 1 2 ∷ mark.Begin part.ExportDefault ∷ broken is.Plain 3 9 ∷
      token is.Plain 10 17 ∷ mark.Begin part.ExportedValue ∷ token is.Reference 18 19 ∷ mark.End part.ExportedValue ∷
      mark.NoSemicolon ∷ mark.End part.ExportDefault ∷ [];
}

abbrev default_value_changes : ChangesOf
default_value_changes = record {
  sites = one_site (site.Init 0) 10 17 ∷ [];
  spelled = codes "__webpack_default" ∷ [];
  names = codes "__webpack_default" ∷ [];
  touches = [];
}

default_value : IsSpelled default_value_outline default_value_changes (codes "a;\nconst __webpack_default = b;") (piece 9 105 17 ∷ [])
unfolding standing_at sites_passed touches_passed last_change last_kept is_broken begins_value opens_before marks_behind is_called text_of pieces_of chunks_from
default_value = (refl, refl)

-- the same of an arrow function, with nothing before it
abbrev default_arrow_outline : Source
default_arrow_outline = record {
  text = codes "export default a=>a;";
  goal = Module;
  marks = mark.Begin part.ExportDefault ∷ token is.Plain 0 6 ∷ token is.Plain 7 14 ∷ mark.Begin part.ExportedValue ∷
      mark.Begin part.Arrow ∷ token is.Bound 15 16 ∷ token is.Plain 16 18 ∷ token is.Reference 18 19 ∷
      mark.End part.Arrow ∷ mark.End part.ExportedValue ∷ token is.Plain 19 20 ∷ mark.End part.ExportDefault ∷ [];
}

abbrev default_arrow_changes : ChangesOf
default_arrow_changes = record {
  sites = one_site (site.Init 0) 7 14 ∷ [];
  spelled = codes "__webpack_default" ∷ [];
  names = codes "__webpack_default" ∷ [];
  touches = [];
}

default_arrow : IsSpelled default_arrow_outline default_arrow_changes (codes "const __webpack_default = a=>a;") (piece 6 105 17 ∷ [])
unfolding standing_at sites_passed touches_passed last_change last_kept is_broken begins_value opens_before marks_behind is_called text_of pieces_of chunks_from
default_arrow = (refl, refl)

-- a function without a name, which is no site
abbrev default_function_outline : Source
default_function_outline = record {
  text = codes "export default async function*(){}";
  goal = Module;
  marks = mark.Begin part.ExportDefault ∷ token is.Plain 0 6 ∷ token is.Plain 7 14 ∷ token is.Plain 15 20 ∷
      token is.Plain 21 29 ∷ token is.Plain 29 30 ∷ mark.Unnamed ∷ mark.Begin part.Function ∷ token is.Plain 30 31 ∷
      token is.Plain 31 32 ∷ mark.Begin part.FunctionBody ∷ token is.Plain 32 33 ∷ token is.Plain 33 34 ∷
      mark.End part.FunctionBody ∷ mark.End part.Function ∷ mark.End part.ExportDefault ∷ [];
}

abbrev default_function_changes : ChangesOf
default_function_changes = record {
  sites = [];
  spelled = [];
  names = codes "__webpack_default" ∷ [];
  touches = touch (new_text.Name 0) 7 14 ∷ [];
}

default_function : IsSpelled default_function_outline default_function_changes (codes "async function* __webpack_default(){}") ([])
unfolding standing_at sites_passed touches_passed last_change last_kept is_broken begins_value opens_before marks_behind is_called text_of pieces_of chunks_from
default_function = (refl, refl)

-- a class without a name, which is a site; what it holds has no name of its own
abbrev default_class_outline : Source
default_class_outline = record {
  text = codes "export default class {x=function(){}}";
  goal = Module;
  marks = mark.Begin part.ExportDefault ∷ token is.Plain 0 6 ∷ token is.Plain 7 14 ∷ token is.Plain 15 20 ∷ mark.Unnamed ∷
      mark.Begin part.Class ∷ token is.Plain 21 22 ∷ token is.Plain 22 23 ∷ token is.Initializes 23 24 ∷
      mark.Begin part.FunctionExpression ∷ token is.Plain 24 32 ∷ mark.Unnamed ∷ mark.Begin part.Function ∷
      token is.Plain 32 33 ∷ token is.Plain 33 34 ∷ mark.Begin part.FunctionBody ∷ token is.Plain 34 35 ∷
      token is.Plain 35 36 ∷ mark.End part.FunctionBody ∷ mark.End part.Function ∷ mark.End part.FunctionExpression ∷
      mark.NoSemicolon ∷ token is.Plain 36 37 ∷ mark.End part.Class ∷ mark.End part.ExportDefault ∷ [];
}

abbrev default_class_changes : ChangesOf
default_class_changes = record {
  sites = one_site (site.Init 0) 7 14 ∷ [];
  spelled = codes "__webpack_default" ∷ [];
  names = codes "__webpack_default" ∷ [];
  touches = [];
}

default_class : IsSpelled default_class_outline default_class_changes (codes "class __webpack_default {x=function(){};}") (piece 6 105 17 ∷ [])
unfolding standing_at sites_passed touches_passed last_change last_kept is_broken begins_value opens_before marks_behind is_called text_of pieces_of chunks_from
default_class = (refl, refl)

-- a shorthand, whose name is decoded
abbrev shorthand_outline : Source
shorthand_outline = record {
  text = codes "f({\\u006e});";
  goal = Module;
  marks = token is.Reference 0 1 ∷ mark.Call ∷ token is.Plain 1 2 ∷ token is.Plain 2 3 ∷ mark.Shorthand ∷
      token is.Reference 3 9 ∷ token is.Plain 9 10 ∷ token is.Plain 10 11 ∷ token is.Plain 11 12 ∷ [];
}

abbrev shorthand_changes : ChangesOf
shorthand_changes = record {
  sites = one_site (site.Read (ref.Imported 0)) 3 9 ∷ [];
  spelled = codes "__webpack_r.m(1).n" ∷ [];
  names = [];
  touches = [];
}

shorthand : IsSpelled shorthand_outline shorthand_changes (codes "f({n: __webpack_r.m(1).n});") (piece 6 114 18 ∷ [])
unfolding name_of all_encoded points_from name_meaning encoded unicode_escape plain_escape standing_at sites_passed touches_passed last_change last_kept is_broken begins_value opens_before marks_behind is_called text_of pieces_of chunks_from
shorthand = (refl, refl)

-- tokens that would make a comment of HTML
abbrev no_comments_outline : Source
no_comments_outline = record {
  text = codes "a<!--b-->c";
  goal = Module;
  marks = token is.Reference 0 1 ∷ token is.Plain 1 2 ∷ token is.Prefix 2 3 ∷ token is.Plain 3 5 ∷
      token is.Reference 5 6 ∷ mark.Assigned ∷ mark.Updated ∷ token is.Plain 6 8 ∷ token is.Plain 8 9 ∷
      token is.Reference 9 10 ∷ mark.NoSemicolon ∷ [];
}

abbrev no_comments_changes : ChangesOf
no_comments_changes = record {
  sites = [];
  spelled = [];
  names = [];
  touches = [];
}

no_comments : IsSpelled no_comments_outline no_comments_changes (codes "a< !--b-- >c;") ([])
unfolding standing_at sites_passed touches_passed last_change last_kept is_broken begins_value opens_before marks_behind is_called text_of pieces_of chunks_from
no_comments = (refl, refl)

-- a callee in parentheses, and another one behind a comma
abbrev called_in_parentheses_outline : Source
called_in_parentheses_outline = record {
  text = codes "((n))();(n,n)`x`";
  goal = Module;
  marks = token is.Opens 0 1 ∷ token is.Opens 1 2 ∷ token is.Reference 2 3 ∷ token is.Closes 3 4 ∷ token is.Closes 4 5 ∷
      mark.Call ∷ token is.Plain 5 6 ∷ token is.Plain 6 7 ∷ token is.Plain 7 8 ∷ token is.Opens 8 9 ∷
      token is.Reference 9 10 ∷ token is.Plain 10 11 ∷ token is.Reference 11 12 ∷ token is.Closes 12 13 ∷ mark.Tag ∷
      token is.Plain 13 16 ∷ mark.NoSemicolon ∷ [];
}

abbrev called_in_parentheses_changes : ChangesOf
called_in_parentheses_changes = record {
  sites = one_site (site.Read (ref.Imported 0)) 2 3 ∷ one_site (site.Read (ref.Imported 0)) 9 10 ∷ one_site (site.Read (ref.Imported 0)) 11 12 ∷ [];
  spelled = codes "__webpack_r.m(1).n" ∷ codes "__webpack_r.m(1).n" ∷ codes "__webpack_r.m(1).n" ∷ [];
  names = [];
  touches = [];
}

called_in_parentheses : IsSpelled called_in_parentheses_outline called_in_parentheses_changes (codes "(((0, __webpack_r.m(1).n)))();(__webpack_r.m(1).n,__webpack_r.m(1).n)`x`;") (piece 6 114 18 ∷ piece 7 114 18 ∷ piece 1 114 18 ∷ [])
unfolding standing_at sites_passed touches_passed last_change last_kept is_broken begins_value opens_before marks_behind is_called text_of pieces_of chunks_from
called_in_parentheses = (refl, refl)

-- a call behind `?.`
abbrev called_behind_question_outline : Source
called_behind_question_outline = record {
  text = codes "n?.();";
  goal = Module;
  marks = token is.Reference 0 1 ∷ token is.Suffixes 1 3 ∷ token is.Plain 3 4 ∷ token is.Plain 4 5 ∷ token is.Plain 5 6 ∷ [];
}

abbrev called_behind_question_changes : ChangesOf
called_behind_question_changes = record {
  sites = one_site (site.Read (ref.Imported 0)) 0 1 ∷ [];
  spelled = codes "__webpack_r.m(1).n" ∷ [];
  names = [];
  touches = [];
}

called_behind_question : IsSpelled called_behind_question_outline called_behind_question_changes (codes "(0, __webpack_r.m(1).n)?.();") (piece 4 114 18 ∷ [])
unfolding standing_at sites_passed touches_passed last_change last_kept is_broken begins_value opens_before marks_behind is_called text_of pieces_of chunks_from
called_behind_question = (refl, refl)

-- a name that is read and written
abbrev updated_outline : Source
updated_outline = record {
  text = codes "x++\ny+=x";
  goal = Module;
  marks = token is.Reference 0 1 ∷ mark.Assigned ∷ mark.Updated ∷ token is.Plain 1 3 ∷ mark.NoSemicolon ∷
      broken is.Reference 4 5 ∷ mark.Assigned ∷ mark.Updated ∷ token is.Plain 5 7 ∷ token is.Reference 7 8 ∷
      mark.NoSemicolon ∷ [];
}

abbrev updated_changes : ChangesOf
updated_changes = record {
  sites = one_site (site.Read (ref.Own 0)) 0 1 ∷ one_site (site.Write (ref.Own 0)) 0 1 ∷ one_site (site.Read (ref.Own 1)) 4 5 ∷ one_site (site.Write (ref.Own 1)) 4 5 ∷ one_site (site.Read (ref.Own 0)) 7 8 ∷ [];
  spelled = codes "x_1" ∷ codes "x_1" ∷ codes "y" ∷ codes "y" ∷ codes "x_1" ∷ [];
  names = codes "x_1" ∷ codes "y" ∷ [];
  touches = [];
}

updated : IsSpelled updated_outline updated_changes (codes "x_1++;\ny+=x_1;") (piece 0 117 3 ∷ piece 4 117 1 ∷ piece 2 114 3 ∷ [])
unfolding standing_at sites_passed touches_passed last_change last_kept is_broken begins_value opens_before marks_behind is_called text_of pieces_of chunks_from
updated = (refl, refl)

-- `typeof require`
abbrev kind_of_require_outline : Source
kind_of_require_outline = record {
  text = codes "f(typeof require);";
  goal = Script;
  marks = token is.Reference 0 1 ∷ mark.Call ∷ token is.Plain 1 2 ∷ token is.Prefix 2 8 ∷ token is.Reference 9 16 ∷
      token is.Plain 16 17 ∷ token is.Plain 17 18 ∷ [];
}

abbrev kind_of_require_changes : ChangesOf
kind_of_require_changes = record {
  sites = [];
  spelled = [];
  names = [];
  touches = touch new_text.Function 2 16 ∷ [];
}

kind_of_require : IsSpelled kind_of_require_outline kind_of_require_changes (codes "f(\"function\");") ([])
unfolding standing_at sites_passed touches_passed last_change last_kept is_broken begins_value opens_before marks_behind is_called text_of pieces_of chunks_from
kind_of_require = (refl, refl)

-- `require()` and `import()`
abbrev asked_for_outline : Source
asked_for_outline = record {
  text = codes "a(require(\"./b\"),import( \"./c\",\n));";
  goal = Script;
  marks = token is.Reference 0 1 ∷ mark.Call ∷ token is.Plain 1 2 ∷ token is.Reference 2 9 ∷ mark.Call ∷
      token is.Plain 9 10 ∷ token is.Plain 10 15 ∷ token is.Plain 15 16 ∷ token is.Plain 16 17 ∷
      token is.ImportCall 17 23 ∷ token is.Plain 23 24 ∷ token is.Plain 25 30 ∷ token is.Plain 30 31 ∷
      broken is.Plain 32 33 ∷ token is.Plain 33 34 ∷ token is.Plain 34 35 ∷ [];
}

abbrev asked_for_changes : ChangesOf
asked_for_changes = record {
  sites = one_site (site.Require 0) 2 16 ∷ one_site (site.Import 1) 17 33 ∷ [];
  spelled = codes "__webpack_r(3)" ∷ codes "__webpack_r.d(4)" ∷ [];
  names = [];
  touches = [];
}

asked_for : IsSpelled asked_for_outline asked_for_changes (codes "a(__webpack_r(3),__webpack_r.d(4));") (piece 2 113 14 ∷ piece 1 100 16 ∷ [])
unfolding standing_at sites_passed touches_passed last_change last_kept is_broken begins_value opens_before marks_behind is_called text_of pieces_of chunks_from
asked_for = (refl, refl)

-- names of a namespace, over a line; the namespace itself
abbrev members_outline : Source
members_outline = record {
  text = codes "ns\n.f();new ns.g.h;ns";
  goal = Module;
  marks = token is.Reference 0 2 ∷ broken is.Dot 3 4 ∷ token is.Plain 4 5 ∷ mark.Call ∷ token is.Plain 5 6 ∷
      token is.Plain 6 7 ∷ token is.Plain 7 8 ∷ token is.New 8 11 ∷ token is.Reference 12 14 ∷ token is.Dot 14 15 ∷
      token is.Plain 15 16 ∷ token is.Dot 16 17 ∷ token is.Plain 17 18 ∷ token is.Plain 18 19 ∷
      token is.Reference 19 21 ∷ mark.NoSemicolon ∷ [];
}

abbrev members_changes : ChangesOf
members_changes = record {
  sites = one_site (site.Member 0 (codes "f")) 0 5 ∷ one_site (site.Member 0 (codes "g")) 12 16 ∷ one_site (site.Space 0) 19 21 ∷ [];
  spelled = codes "__webpack_r.m(2).f" ∷ codes "(void 0)" ∷ codes "__webpack_r.s(2)" ∷ [];
  names = [];
  touches = [];
}

members : IsSpelled members_outline members_changes (codes "(0, __webpack_r.m(2).f)();new (void 0).h;__webpack_r.s(2);") (piece 4 114 18 ∷ piece 8 114 8 ∷ piece 3 114 16 ∷ [])
unfolding standing_at sites_passed touches_passed last_change last_kept is_broken begins_value opens_before marks_behind is_called text_of pieces_of chunks_from
members = (refl, refl)

-- what is dropped leaves what stood there
abbrev dropped_outline : Source
dropped_outline = record {
  text = codes "a;export{a};b/**/;/*\n*/export*from\"c\";b";
  goal = Module;
  marks = token is.Reference 0 1 ∷ token is.Plain 1 2 ∷ mark.Begin part.ExportList ∷ token is.Plain 2 8 ∷
      token is.Plain 8 9 ∷ token is.Exported 9 10 ∷ token is.Plain 10 11 ∷ token is.Plain 11 12 ∷
      mark.End part.ExportList ∷ token is.Reference 12 13 ∷ token is.Plain 17 18 ∷ mark.Begin part.ExportStar ∷
      broken is.Plain 23 29 ∷ token is.Plain 29 30 ∷ token is.Plain 30 34 ∷ token is.Request 34 37 ∷
      token is.Plain 37 38 ∷ mark.End part.ExportStar ∷ token is.Reference 38 39 ∷ mark.NoSemicolon ∷ [];
}

abbrev dropped_changes : ChangesOf
dropped_changes = record {
  sites = [];
  spelled = [];
  names = [];
  touches = [];
}

dropped : IsSpelled dropped_outline dropped_changes (codes "a; b ;\nb;") ([])
unfolding standing_at sites_passed touches_passed last_change last_kept is_broken begins_value opens_before marks_behind is_called text_of pieces_of chunks_from
dropped = (refl, refl)

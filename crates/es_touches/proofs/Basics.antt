-- Choices that give something, and single marks.
use Rattle.std.proofs.Common.{◌≡◌, ◌⊎◌, inl, inr, ℕ, Bool, true, false, cond, Option, Some, None, is_none, refl, sym, arith, true≢false}
use Rattle.std.specs.Option.{option_or}
use Rattle.std.proofs.lemmas.Option.{none-some}
use Rattle.es_outline.specs.declared.mark.Mark.{Mark}
use Rattle.es_outline.specs.declared.mark.Mark.TheVariants as mark
use Rattle.es_outline.specs.declared.mark.Part.{Part}
use Rattle.es_outline.specs.declared.mark.Part.TheVariants as part
use Rattle.es_outline.specs.declared.mark.Role.TheVariants as is
use Rattle.es_outline.specs.Outline.{Marks}
use Rattle.es_tree.specs.declared.tokens.Token.{Token}
use Rattle.es_scope.specs.Parts.{NearestPart}
use Rattle.es_touches.specs.Told.{begins_function, is_class_name}

pub cond_some : {A : Type 0} (b : Bool) (o : Option A) (x : A) → cond b o None ≡ Some x → (b ≡ true) × (o ≡ Some x)
cond_some true o x e = (refl, e)
cond_some false o x e = absurd (none-some x e)

pub some_cond : {A : Type 0} (b : Bool) (o : Option A) (x : A) → b ≡ true → o ≡ Some x → cond b o None ≡ Some x
some_cond true o x e f = f
some_cond false o x e f = absurd (true≢false (sym e))

pub or_one : {A : Type 0} (o other : Option A) (x : A) → option_or o other ≡ Some x → (o ≡ Some x) ⊎ (other ≡ Some x)
or_one (Some y) other x e = inl e
or_one None other x e = inr e

pub or_first : {A : Type 0} (o other : Option A) (x : A) → o ≡ Some x → (y : A) × (option_or o other ≡ Some y)
or_first (Some y) other x e = (y, refl)
or_first None other x e = absurd (none-some x e)

pub or_second : {A : Type 0} (o other : Option A) (x : A) → other ≡ Some x → (y : A) × (option_or o other ≡ Some y)
or_second (Some y) other x e = (y, refl)
or_second None other x e = (x, e)

pub none_is : {A : Type 0} (o : Option A) → is_none o ≡ true → o ≡ None
none_is None e = refl
none_is (Some x) e = absurd (true≢false (sym e))

pub function_mark : (found : Option Mark) → begins_function found ≡ true → found ≡ Some (mark.Begin part.Function)
function_mark (Some (mark.Begin part.Function)) e = refl
function_mark _ e = absurd (true≢false (sym e))

pub class_token : (found : Option Mark) → is_class_name found ≡ true → (token : Token) × (found ≡ Some (mark.Token is.ClassName token))
class_token (Some (mark.Token is.ClassName token)) e = (token, refl)
class_token _ e = absurd (true≢false (sym e))

-- there is one innermost part of some kinds
pub one_nearest : (kinds : Part → Bool) (marks : Marks) (place opening further : ℕ) (which other : Part) → NearestPart kinds marks place which opening
    → NearestPart kinds marks place other further → opening ≡ further
one_nearest kinds marks place opening further which other h k =
    let low = h.nearest other further k.kind k.encloses in let high = k.nearest which opening h.kind h.encloses in omega (arith, low, high)

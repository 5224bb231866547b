-- Looking a name up: what the first declarations of scopes tell an occurrence, and how they are told mark by mark.
use Rattle.std.proofs.Common.{◌≡◌, ℕ, suc, ◌+◌, ◌<◌, ◌≤◌, ◌⊎◌, ⊎_elim, List, [], ◌∷◌, Option, Some, None, AllPairs, length, slice_index_or, refl, sym, ap, subst, ◌∙◌, arith}
use Rattle.std.specs.List.{Contains}
use Rattle.std.proofs.lemmas.Option.{slice_get_within}
use Rattle.pk_types.proofs.ListMembers.{here, there, one_of, none_in}
use Rattle.pk_text.specs.Places.{place_of}
use Rattle.es_outline.specs.declared.mark.Mark.TheVariants as mark
use Rattle.es_outline.specs.declared.mark.Part.TheVariants as part
use Rattle.es_scope.specs.declared.found.Declared.{Declared}
use Rattle.es_scope.specs.Source.{Source, name_at}
use Rattle.es_scope.specs.Occurrences.{IsOccurrence}
use Rattle.es_scope.specs.Scopes.{Declares}
use Rattle.es_scope.specs.Refers.{Refers, IsFree}
use Rattle.es_scope.specs.Frames.{scopes_at, given_at}
use Rattle.es_scope.specs.Firsts.{IsFirst, AreFirst}
use Rattle.es_scope.specs.Found.{IsFound, found, found_or}
use Rattle.es_scope.proofs.Agreeing.{stands_in, descending, declares, belonging_token}

-- what declares is a mark
pub declares_within : (source : Source) (scope : ℕ) (name : List ℕ) (place : ℕ) → Declares source scope name place → place < length source.marks
declares_within source scope name _ (Declares.named place b same) =
    let t = belonging_token source place scope b in slice_get_within source.marks place (mark.Token t.0 t.1.0) t.1.1
declares_within source scope name _ (Declares.by_function opening m same said) = slice_get_within source.marks opening (mark.Begin part.Function) m

-- the first declarations, from mark to mark: the mark at the limit declares just what it gives
pub first_none : (source : Source) (scope : ℕ) (name : List ℕ) → IsFirst source 0 scope name None
first_none source scope name = IsFirst.none (λ place before d. omega arith)

abbrev pub or_here : Option ℕ → ℕ → Option ℕ
or_here (Some place) limit = Some place
or_here None limit = Some limit

earlier_or_here : (place limit : ℕ) → (place < limit) ⊎ (limit ≤ place)
earlier_or_here place limit = grind arith

not_before : (source : Source) (limit scope : ℕ) (name : List ℕ) → ((place : ℕ) → place < limit → ¬ Declares source scope name place) → (other : ℕ)
    → Declares source scope name other → limit ≤ other
not_before source limit scope name none other d = ⊎_elim (λ before. absurd (none other before d)) (λ h. h) (earlier_or_here other limit)

pub first_given : (source : Source) (limit scope : ℕ) (name : List ℕ) (told : Option ℕ) → Contains (given_at source limit) (scope, name)
    → IsFirst source limit scope name told → IsFirst source (limit + 1) scope name (or_here told limit)
first_given source limit scope name _ c (IsFirst.none none) =
    IsFirst.some limit (omega arith) ((declares source scope name limit).1 c) (λ other d. not_before source limit scope name none other d)
first_given source limit scope name _ c (IsFirst.some place before d first) = IsFirst.some place (omega arith) d first

here_or_earlier : (place limit : ℕ) → place < limit + 1 → (place < limit) ⊎ (place ≡ limit)
here_or_earlier place limit h = grind arith

pub first_kept : (source : Source) (limit scope : ℕ) (name : List ℕ) (told : Option ℕ) → ¬ Contains (given_at source limit) (scope, name)
    → IsFirst source limit scope name told → IsFirst source (limit + 1) scope name told
first_kept source limit scope name _ c (IsFirst.none none) = IsFirst.none (λ place before d. ⊎_elim
    (λ earlier. none place earlier d)
    (λ same. c ((declares source scope name limit).0 (subst (Declares source scope name) same d)))
    (here_or_earlier place limit before))
first_kept source limit scope name _ c (IsFirst.some place before d first) = IsFirst.some place (omega arith) d first

-- there is one first
same_first : (source : Source) (limit scope : ℕ) (name : List ℕ) (place : ℕ) (told : Option ℕ) → Declares source scope name place → place < limit
    → ((other : ℕ) → Declares source scope name other → place ≤ other) → IsFirst source limit scope name told → told ≡ Some place
same_first source limit scope name place _ d before first (IsFirst.none none) = absurd (none place before d)
same_first source limit scope name place _ d before first (IsFirst.some other b e least) =
    let above = first other e in let below = least place d in let same : other ≡ place = omega arith in ap Some same

none_first : (source : Source) (limit scope : ℕ) (name : List ℕ) (told : Option ℕ) → ((place : ℕ) → place < limit → ¬ Declares source scope name place)
    → IsFirst source limit scope name told → told ≡ None
none_first source limit scope name _ none (IsFirst.none other) = refl
none_first source limit scope name _ none (IsFirst.some place before d first) = absurd (none place before d)

pub first_one : (source : Source) (limit scope : ℕ) (name : List ℕ) (one other : Option ℕ) → IsFirst source limit scope name one
    → IsFirst source limit scope name other → one ≡ other
first_one source limit scope name _ other (IsFirst.none none) h = sym (none_first source limit scope name other none h)
first_one source limit scope name _ other (IsFirst.some place before d first) h = sym (same_first source limit scope name place other d before first h)

-- what the whole of the marks tells of a scope: the first declaration of the name, or that there is none
TellsAll : Source → List ℕ → (ℕ → Option ℕ) → Type 0
TellsAll source name told = (scope : ℕ) → IsFirst source (length source.marks) scope name (told scope)

told_none : (source : Source) (scope : ℕ) (name : List ℕ) (answer : Option ℕ) → IsFirst source (length source.marks) scope name answer → answer ≡ None
    → (place : ℕ) → ¬ Declares source scope name place
told_none source scope name _ (IsFirst.none none) e place d = none place (declares_within source scope name place d) d
told_none source scope name _ (IsFirst.some other before d first) e place q = cc

record IsFirstIn (source : Source) (scope : ℕ) (name : List ℕ) (place : ℕ) : Type 0 where
  stands : Declares source scope name place
  least : (other : ℕ) → Declares source scope name other → place ≤ other

told_some : (source : Source) (scope : ℕ) (name : List ℕ) (answer : Option ℕ) (place : ℕ) → IsFirst source (length source.marks) scope name answer
    → answer ≡ Some place → IsFirstIn source scope name place
told_some source scope name _ place (IsFirst.none none) e = cc
told_some source scope name _ place (IsFirst.some other before d first) e =
    let same : other ≡ place = cc in
    subst (IsFirstIn source scope name) same (record { stands = d; least = first })

-- what is found among scopes, the innermost first
data IsFoundIn (source : Source) (name : List ℕ) (scopes : List ℕ) : Option Declared → Type 0 where
  nowhere : ((scope place : ℕ) → Contains scopes scope → ¬ Declares source scope name place) → IsFoundIn source name scopes None
  somewhere : (one : Declared) → Contains scopes one.scope → IsFirstIn source one.scope name one.place
      → ((other place : ℕ) → Contains scopes other → Declares source other name place → other ≤ one.scope) → IsFoundIn source name scopes (Some one)

found_further : (source : Source) (name : List ℕ) (scope : ℕ) (scopes : List ℕ) (answer : Option Declared) → ((place : ℕ) → ¬ Declares source scope name place)
    → IsFoundIn source name scopes answer → IsFoundIn source name (scope ∷ scopes) answer
found_further source name scope scopes _ none (IsFoundIn.nowhere no_place) = IsFoundIn.nowhere (λ other place c d. ⊎_elim
    (λ same. none place (subst (λ s. Declares source s name place) (sym same) d)) (λ further. no_place other place further d) (one_of scope scopes other c))
found_further source name scope scopes _ none (IsFoundIn.somewhere one c first inner) = IsFoundIn.somewhere one (there scope scopes one.scope c) first
    (λ other place q d. ⊎_elim
    (λ same. absurd (none place (subst (λ s. Declares source s name place) (sym same) d))) (λ further. inner other place further d) (one_of scope scopes other q))

found_here : (source : Source) (name : List ℕ) (scope : ℕ) (scopes : List ℕ) (further : Option Declared) (answer : Option ℕ)
    → IsFirst source (length source.marks) scope name answer → ((other : ℕ) → Contains scopes other → other ≤ scope)
    → IsFoundIn source name scopes further → IsFoundIn source name (scope ∷ scopes) (found_or further scope answer)
found_here source name scope scopes further None h within rest = found_further source name scope scopes further (told_none source scope name None h refl) rest
found_here source name scope scopes further (Some place) h within rest = IsFoundIn.somewhere (record { scope = scope; place = place }) (here scope scopes)
    (told_some source scope name (Some place) place h refl)
    (λ other p c d. ⊎_elim (λ same. omega arith) (λ further. within other further) (one_of scope scopes other c))

behind_first : (scope : ℕ) (scopes : List ℕ) → AllPairs (λ inner outer. outer ≤ inner) (scope ∷ scopes) → (other : ℕ) → Contains scopes other → other ≤ scope
behind_first scope scopes pairs other c =
    let h : slice_index_or scopes c.0 other ≤ scope = pairs 0 (suc c.0) other (omega arith) (let inside = c.1 in omega arith) in
    subst (λ s. s ≤ scope) c.2 h

pairs_behind : (scope : ℕ) (scopes : List ℕ) → AllPairs (λ inner outer. outer ≤ inner) (scope ∷ scopes) → AllPairs (λ inner outer. outer ≤ inner) scopes
pairs_behind scope scopes pairs i j d before inside = pairs (suc i) (suc j) d (omega arith) (omega arith)

found_in : (source : Source) (name : List ℕ) (told : ℕ → Option ℕ) → TellsAll source name told → (scopes : List ℕ)
    → AllPairs (λ inner outer. outer ≤ inner) scopes → IsFoundIn source name scopes (found told scopes)
unfolding TellsAll
found_in source name told h [] pairs = IsFoundIn.nowhere (λ scope place c. absurd (none_in scope c))
found_in source name told h (scope ∷ scopes) pairs =
    found_here source name scope scopes (found told scopes) (told scope) (h scope) (behind_first scope scopes pairs)
    (found_in source name told h scopes (pairs_behind scope scopes pairs))

so_found : (source : Source) (place : ℕ) (answer : Option Declared) → IsOccurrence source place
    → IsFoundIn source (name_at source place) (scopes_at source place) answer → IsFound source place answer
so_found source place _ occurs (IsFoundIn.nowhere no_place) = IsFound.free (record {
  occurs = occurs;
  undeclared = λ scope declaration h. no_place scope declaration ((stands_in source place scope).0 h);
})
so_found source place _ occurs (IsFoundIn.somewhere one c first inner) = IsFound.refers one (record {
  occurs = occurs;
  within = (stands_in source place one.scope).1 c;
  declares = first.stands;
  innermost = λ other declaration h d. inner other declaration ((stands_in source place other).0 h) d;
  first = first.least;
})

-- an occurrence refers to what is found among the scopes that it stands in
pub looked_up : (source : Source) (place : ℕ) (told : ℕ → Option ℕ)
    → ((scope : ℕ) → IsFirst source (length source.marks) scope (name_at source place) (told scope))
    → IsOccurrence source place → IsFound source place (found told (scopes_at source place))
unfolding TellsAll
looked_up source place told h occurs =
    so_found source place (found told (scopes_at source place)) occurs (found_in source (name_at source place) told h (scopes_at source place) (descending source place))

-- the same where names have numbers
pub looked_up_by_number : (source : Source) (texts : List (List ℕ)) (place number : ℕ) (told : ℕ → ℕ → Option ℕ)
    → AreFirst source texts (length source.marks) told → place_of texts (name_at source place) ≡ Some number
    → IsOccurrence source place → IsFound source place (found (λ scope. told scope number) (scopes_at source place))
looked_up_by_number source texts place number told h n occurs =
    looked_up source place (λ scope. told scope number) (λ scope. h scope number (name_at source place) n) occurs

-- an occurrence refers to one declaration or is free
refers_one : (source : Source) (place : ℕ) (one other : Declared) → Refers source place one.scope one.place → Refers source place other.scope other.place → one ≡ other
refers_one source place one other h k =
    let above = h.innermost other.scope other.place k.within k.declares in
    let below = k.innermost one.scope one.place h.within h.declares in
    let scope : one.scope ≡ other.scope = omega arith in
    let later = h.first other.place (subst (λ s. Declares source s (name_at source place) other.place) (sym scope) k.declares) in
    let earlier = k.first one.place (subst (λ s. Declares source s (name_at source place) one.place) scope h.declares) in
    let same : one.place ≡ other.place = omega arith in
    ap (λ s. record { scope = s; place = one.place }) scope ∙ ap (λ p. record { scope = other.scope; place = p }) same

bound_not_free : (source : Source) (place : ℕ) (one : Declared) → Refers source place one.scope one.place → ¬ IsFree source place
bound_not_free source place one h free = free.undeclared one.scope one.place h.within h.declares

found_some : (source : Source) (place : ℕ) (one : Declared) (answer : Option Declared) → Refers source place one.scope one.place → IsFound source place answer
    → Some one ≡ answer
found_some source place one _ h (IsFound.refers other k) = ap Some (refers_one source place one other h k)
found_some source place one _ h (IsFound.free free) = absurd (bound_not_free source place one h free)

found_none : (source : Source) (place : ℕ) (answer : Option Declared) → IsFree source place → IsFound source place answer → None ≡ answer
found_none source place _ free (IsFound.refers other k) = absurd (bound_not_free source place other k free)
found_none source place _ free (IsFound.free also) = refl

pub found_one : (source : Source) (place : ℕ) (answer other : Option Declared) → IsFound source place answer → IsFound source place other → answer ≡ other
found_one source place _ other (IsFound.refers one h) k = found_some source place one other h k
found_one source place _ other (IsFound.free free) k = found_none source place other free k

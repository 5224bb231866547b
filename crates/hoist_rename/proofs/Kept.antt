-- What is kept of the names that are taken.
use Rattle.std.proofs.Common.{◌≡◌, ℕ, true, false, true≢false, bytes_eq, refl, ◌+◌, ◌<◌, List, [], ◌∷◌, ◌++◌, length, take, get_or, set, sym, ap, subst, ◌∙◌, arith, ⊎_elim, length-append, append_assoc}
use Rattle.std.specs.List.{Contains, list_any}
use Rattle.std.specs.Cmp.Lexicographic.{bytes_decides}
use Rattle.std.proofs.lemmas.Map.Views.{Contains-from_any}
use Rattle.pk_types.proofs.ListMembers.{any_true}
use Rattle.std.proofs.Math.ListN.{length-set}
use Rattle.std.proofs.Math.Seq.{get_or-append_seam}
use Rattle.std.proofs.lemmas.Bool.{cases_eq, cases_lt, cases_Bool}
use Rattle.std.proofs.lemmas.List.{get_or_append_left, get_or-set_same, get_or-set_other, take_more}
use Rattle.std.proofs.lemmas.List.Elements.{Contains-push, Contains-push_cases, Contains-append_left, Contains-append_right, Contains-append_cases}
use Rattle.pk_types.specs.GivenNames.{numbered_name}
use Rattle.hoist_rename.specs.Kept.{IsKept, IsNext, HaveSame}

at_end : {A : Type 0} (xs : List A) (x d : A) (place : ℕ) → place ≡ length xs → get_or (xs ++ x ∷ []) place d ≡ x
at_end xs x d place here = ap (λ k. get_or (xs ++ x ∷ []) k d) here ∙ get_or-append_seam xs x [] d

-- one name more, of which no number was tried
pub kept_more : (names : List (List ℕ)) (last : List ℕ) (name : List ℕ) → IsKept names last → IsKept (names ++ name ∷ []) (last ++ 0 ∷ [])
kept_more names last name kept = record {
  each = omega (arith, kept.each, length-append names (name ∷ []), length-append last (0 ∷ []));
  tried = λ place number inside above tried. ⊎_elim
      (λ before.
      let old = get_or_append_left last (0 ∷ []) 0 place (omega (arith, kept.each)) in
      subst (λ first. Contains (names ++ name ∷ []) (numbered_name first number)) (sym (get_or_append_left names (name ∷ []) [] place before))
      (Contains-append_left names (name ∷ []) (numbered_name (get_or names place []) number) (kept.tried place number before above (omega arith))))
      (λ after.
      let here : place ≡ length last = omega (arith, kept.each, length-append names (name ∷ [])) in
      let none = at_end last 0 0 place here in
      absurd (omega arith))
      (cases_lt place (length names));
}

-- the number that was found is the last that was tried
pub kept_next : (names : List (List ℕ)) (last : List ℕ) (place : ℕ) (name : List ℕ) (number : ℕ) (text : List ℕ) → IsKept names last → place < length names
    → get_or names place [] ≡ name → IsNext names name number text → IsKept (names ++ text ∷ []) (set (last ++ 0 ∷ []) place number)
kept_next names last place name number text kept inside is next =
    let more = kept_more names last text kept in
    let here : get_or (names ++ text ∷ []) place [] ≡ name = get_or_append_left names (text ∷ []) [] place inside ∙ is in
    record {
      each = length-set (last ++ 0 ∷ []) place number ∙ more.each;
      tried = λ other tried within above most. ⊎_elim
          (λ same.
          let at = ap (λ k. get_or (set (last ++ 0 ∷ []) place number) k 0) same ∙ get_or-set_same (last ++ 0 ∷ []) place number 0 (omega (arith, kept.each, length-append last (0 ∷ []))) in
          subst (λ first. Contains (names ++ text ∷ []) (numbered_name first tried)) (sym (ap (λ k. get_or (names ++ text ∷ []) k []) same ∙ here))
          (⊎_elim
          (λ latest. subst (Contains (names ++ text ∷ [])) (next.text_is ∙ ap (numbered_name name) (sym latest)) (Contains-push names text))
          (λ fewer. Contains-append_left names (text ∷ []) (numbered_name name tried) (next.first tried above (omega arith)))
          (cases_eq tried number)))
          (λ apart.
          let at = get_or-set_other (last ++ 0 ∷ []) place other number 0 apart in
          more.tried other tried within above (omega arith))
          (cases_eq other place);
    }

-- ---- names to avoid

pub same_more : (keys first names : List (List ℕ)) (place : ℕ) (name : List ℕ) (next : List (List ℕ)) → place < length names → name ≡ get_or names place name
    → HaveSame keys (first ++ take place names) → HaveSame next (keys ++ name ∷ []) → HaveSame next (first ++ take (place + 1) names)
same_more keys first names place name next inside is so_far more =
    let all : first ++ take (place + 1) names ≡ (first ++ take place names) ++ name ∷ [] =
    ap (λ l. first ++ l) (take_more names place name inside ∙ ap (λ n. take place names ++ n ∷ []) (sym is)) ∙ sym (append_assoc first (take place names) (name ∷ [])) in
    λ other. (
      λ c. subst (λ l. Contains l other) (sym all) (⊎_elim
          (λ old. Contains-append_left (first ++ take place names) (name ∷ []) other ((so_far other).0 old))
          (λ same. subst (Contains ((first ++ take place names) ++ name ∷ [])) same (Contains-push (first ++ take place names) name))
          (Contains-push_cases keys name other ((more other).0 c))),
      λ c. (more other).1 (⊎_elim
          (λ old. Contains-append_left keys (name ∷ []) other ((so_far other).1 old))
          (λ same. subst (Contains (keys ++ name ∷ [])) same (Contains-push keys name))
          (Contains-push_cases (first ++ take place names) name other (subst (λ l. Contains l other) all c))),
    )

-- a name that is taken already
pub same_still : (keys : List (List ℕ)) (name : List ℕ) → Contains keys name → HaveSame keys (keys ++ name ∷ [])
same_still keys name among = λ other. (
  λ c. Contains-append_left keys (name ∷ []) other c,
  λ c. ⊎_elim (λ old. old) (λ same. subst (Contains keys) same among) (Contains-push_cases keys name other c),
)

-- two lists of names to avoid, one after the other
pub same_both : (keys between next first free inner : List (List ℕ)) → HaveSame keys first → HaveSame between (keys ++ free) → HaveSame next (between ++ inner)
    → HaveSame next (first ++ (free ++ inner))
same_both keys between next first free inner so_far one two = λ name. (
  λ c. ⊎_elim
      (λ l. ⊎_elim
      (λ old. Contains-append_left first (free ++ inner) name ((so_far name).0 old))
      (λ new. Contains-append_right first (free ++ inner) name (Contains-append_left free inner name new))
      (Contains-append_cases keys free name ((one name).0 l)))
      (λ r. Contains-append_right first (free ++ inner) name (Contains-append_right free inner name r))
      (Contains-append_cases between inner name ((two name).0 c)),
  λ c. (two name).1 (⊎_elim
      (λ l. Contains-append_left between inner name ((one name).1 (Contains-append_left keys free name ((so_far name).1 l))))
      (λ r. ⊎_elim
      (λ new. Contains-append_left between inner name ((one name).1 (Contains-append_right keys free name new)))
      (λ last. Contains-append_right between inner name last)
      (Contains-append_cases free inner name r))
      (Contains-append_cases first (free ++ inner) name c)),
)

-- ---- look-ups

pub exact_bytes : (name other : List ℕ) → bytes_eq name other ≡ true → name ≡ other
exact_bytes name other e = (bytes_decides name other).0 e

pub among : (keys : List (List ℕ)) (name : List ℕ) → list_any (bytes_eq name) keys ≡ true → Contains keys name
among keys name e = Contains-from_any exact_bytes name keys e

pub not_among : (keys : List (List ℕ)) (name : List ℕ) → list_any (bytes_eq name) keys ≡ false → ¬ Contains keys name
not_among keys name e c = true≢false (sym (any_true (bytes_eq name) keys name c ((bytes_decides name name).1 refl)) ∙ e)

pub absent_name : (keys : List (List ℕ)) (name : List ℕ) → ¬ Contains keys name → list_any (bytes_eq name) keys ≡ false
absent_name keys name none = ⊎_elim (λ yes. absurd (none (among keys name yes))) (λ no. no) (cases_Bool (list_any (bytes_eq name) keys))

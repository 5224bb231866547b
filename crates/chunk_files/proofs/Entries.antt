-- The files of entries: what they name, that each has one text, and how long it is.
use Rattle.std.proofs.Common.{◌≡◌, ◌≢◌, ◌↔◌, ℕ, zero, suc, ◌<◌, ◌+◌, ◌==◌, not, Bool, true, List, [], ◌∷◌, ◌++◌, length, map, get_or, take, codes, refl, sym, ap, subst, ◌∙◌, ⊎_elim, arith, length-append}
use Rattle.std.proofs.lemmas.Bool.Decides.{nat_tests}
use Rattle.std.proofs.lemmas.List.{take_more}
use Rattle.std.proofs.lemmas.List.Elements.{All-cons, All-head, All-tail, All-contains, All-from_get_or, Contains-get_or, Contains-push, Contains-push_cases, Contains-append_left, Contains-append_right, Contains-append_cases}
use Rattle.std.specs.List.{All, Contains, filter}
use Rattle.pk_types.specs.declared.plan.Plan.{Plan}
use Rattle.pk_types.specs.ChunkGroups.{AreAll}
use Rattle.pk_types.proofs.ListMembers.{filtered, unfiltered}
use Rattle.pk_types.proofs.OneOrder.{same_all}
use Rattle.chunk_groups.proofs.Gathering.{all_same}
use Rattle.edge_search.specs.Reached.{IsReached, LeadWithin}
use Rattle.edge_search.proofs.Growing.{below}
use Rattle.emit_chunk.specs.Entry.{list_of}
use Rattle.emit_chunk.specs.Ranges.{AreBelow}
use Rattle.chunk_files.specs.Entries.{IsWalkedTo, IsNeeded, AreNamed, hash_at, named_text, entry_text, IsEntryText}
use Rattle.chunk_files.specs.Joined.{each_behind, joined}
use Rattle.chunk_files.specs.Materials.{MaterialOf}

-- ---- what is named

abbrev pub is_other : ℕ → ℕ → Bool
is_other number other = not (other == number)

differs : (number other : ℕ) → is_other number other ≡ true → other ≢ number
differs number other = grind (arith, nat_tests)

passes : (number other : ℕ) → other ≢ number → is_other number other ≡ true
passes number other = grind (arith, nat_tests)

-- what is true of all numbers is true of them in their order
pub ordered_below : (count : ℕ) (numbers sorted : List ℕ) → AreAll (Contains numbers) sorted → AreBelow count numbers → AreBelow count sorted
ordered_below count numbers sorted all below =
    All-from_get_or (λ n. n < count) sorted 0 (λ i h. All-contains (λ n. n < count) numbers (get_or sorted i 0) below ((all.each (get_or sorted i 0)).0 (Contains-get_or sorted i 0 h)))

pub walked_all : (plan : Plan) (entry : ℕ) (met sorted : List ℕ) → ((number : ℕ) → Contains met number ↔ IsReached plan.groups.leads entry number)
    → AreAll (Contains (filter (is_other entry) met)) sorted → AreAll (IsWalkedTo plan entry) sorted
walked_all plan entry met sorted reach all = all_same (Contains (filter (is_other entry) met)) (IsWalkedTo plan entry) sorted all (λ number. (
  λ c. let passed = unfiltered (is_other entry) met number c in ((reach number).0 passed.0, differs entry number passed.1),
  λ walked. filtered (is_other entry) met number ((reach number).1 walked.0) (passes entry number walked.1),
))

pub walked_below : (plan : Plan) (entry count : ℕ) (sorted : List ℕ) → AreAll (IsWalkedTo plan entry) sorted → length plan.groups.leads ≡ count → entry < count
    → LeadWithin plan.groups.leads → AreBelow count sorted
walked_below plan entry count sorted all each within leads =
    All-from_get_or (λ n. n < count) sorted 0 (λ i h. subst (λ n. get_or sorted i 0 < n) each
    (below plan.groups.leads entry (subst (λ n. entry < n) (sym each) within) leads (get_or sorted i 0) ((all.each (get_or sorted i 0)).0 (Contains-get_or sorted i 0 h)).0))

-- the chunks of one group more
needed_more : (plan : Plan) (groups : List ℕ) (group : ℕ) (chunks : List ℕ) → ((chunk : ℕ) → Contains chunks chunk ↔ IsNeeded plan groups chunk)
    → (chunk : ℕ) → Contains (chunks ++ list_of plan group) chunk ↔ IsNeeded plan (groups ++ group ∷ []) chunk
needed_more plan groups group chunks so_far chunk = (
  λ c. ⊎_elim
      (λ old. let found = (so_far chunk).0 old in (found.0, Contains-append_left groups (group ∷ []) found.0 found.1, found.2))
      (λ new. (group, Contains-push groups group, new))
      (Contains-append_cases chunks (list_of plan group) chunk c),
  λ found. ⊎_elim
      (λ old. Contains-append_left chunks (list_of plan group) chunk ((so_far chunk).1 (found.0, old, found.2)))
      (λ e. Contains-append_right chunks (list_of plan group) chunk (subst (λ g. Contains (list_of plan g) chunk) (sym e) found.2))
      (Contains-push_cases groups group found.0 found.1),
)

pub needed_next : (plan : Plan) (groups : List ℕ) (place group : ℕ) (chunks list more : List ℕ) → place < length groups → group ≡ get_or groups place 0 → list ≡ list_of plan group
    → more ≡ chunks ++ list → ((chunk : ℕ) → Contains chunks chunk ↔ IsNeeded plan (take place groups) chunk)
    → (chunk : ℕ) → Contains more chunk ↔ IsNeeded plan (take (place + 1) groups) chunk
needed_next plan groups place group chunks list more within at is grown so_far chunk =
    subst (λ l. Contains l chunk ↔ IsNeeded plan (take (place + 1) groups) chunk) (sym (grown ∙ ap (λ l. chunks ++ l) is))
    (subst (λ l. Contains (chunks ++ list_of plan group) chunk ↔ IsNeeded plan l chunk) (sym (take_more groups place 0 within ∙ ap (λ g. take place groups ++ g ∷ []) (sym at)))
    (needed_more plan (take place groups) group chunks so_far chunk))

pub needed_all : (plan : Plan) (groups chunks sorted : List ℕ) (place : ℕ) → take place groups ≡ groups
    → ((chunk : ℕ) → Contains chunks chunk ↔ IsNeeded plan (take place groups) chunk) → AreAll (Contains chunks) sorted → AreAll (IsNeeded plan groups) sorted
needed_all plan groups chunks sorted place whole so_far all =
    all_same (Contains chunks) (IsNeeded plan groups) sorted all (λ chunk. subst (λ l. Contains chunks chunk ↔ IsNeeded plan l chunk) whole (so_far chunk))

pub needed_none : (plan : Plan) (chunks : List ℕ) → chunks ≡ [] → (chunk : ℕ) → Contains chunks chunk ↔ IsNeeded plan [] chunk
needed_none plan chunks empty chunk = subst (λ l. Contains l chunk ↔ IsNeeded plan [] chunk) (sym empty) (λ none. absurd (omega (arith, none.1)), λ found. absurd (omega (arith, found.1.1)))

pub own_first : (first : ℕ) (none one others groups : List ℕ) → none ≡ [] → one ≡ none ++ first ∷ [] → groups ≡ one ++ others → groups ≡ first ∷ others
own_first first none one others groups empty begins goes_on = goes_on ∙ ap (λ l. l ++ others) (begins ∙ ap (λ l. l ++ first ∷ []) empty)

pub own_below : (count first : ℕ) (others groups : List ℕ) → groups ≡ first ∷ others → first < count → AreBelow count others → AreBelow count groups
own_below count first others groups is own below = subst (AreBelow count) (sym is) (All-cons (λ n. n < count) first others own below)

-- ---- one text

same_groups : (plan : Plan) (entry : ℕ) (groups chunks more others : List ℕ) → AreNamed plan entry groups chunks → AreNamed plan entry more others → groups ≡ more
same_groups plan entry groups chunks more others a b =
    a.groups_are ∙ ap (λ l. entry ∷ l) (same_all (IsWalkedTo plan entry) a.others b.others a.walked b.walked) ∙ sym b.groups_are

same_chunks : (plan : Plan) (entry : ℕ) (groups chunks more others : List ℕ) → AreNamed plan entry groups chunks → AreNamed plan entry more others → chunks ≡ others
same_chunks plan entry groups chunks more others a b =
    same_all (IsNeeded plan more) chunks others (subst (λ l. AreAll (IsNeeded plan l) chunks) (same_groups plan entry groups chunks more others a b) a.needed) b.needed

-- an entry's file has one text
pub one_text : (material : MaterialOf) (hashes : List (List ℕ)) (entry : ℕ) (text other : List ℕ)
    → IsEntryText material hashes entry text → IsEntryText material hashes entry other → text ≡ other
one_text material hashes entry text other a b =
    a.3 ∙ ap (λ l. entry_text material hashes entry l a.1) (same_groups material.plan entry a.0 a.1 b.0 b.1 a.2 b.2)
    ∙ ap (entry_text material hashes entry b.0) (same_chunks material.plan entry a.0 a.1 b.0 b.1 a.2 b.2) ∙ sym b.3

-- ---- how long it is

abbrev pub AreShort : List (List ℕ) → Type 0
AreShort hashes = All (λ hash. length hash ≡ 8) hashes

hash_length : (hashes : List (List ℕ)) (chunk : ℕ) → AreShort hashes → length (hash_at hashes chunk) ≡ 8
hash_length [] chunk short = refl
hash_length (hash ∷ hashes) zero short = All-head (λ h. length h ≡ 8) hash hashes short
hash_length (hash ∷ hashes) (suc chunk) short = hash_length hashes chunk (All-tail (λ h. length h ≡ 8) hash hashes short)

named_length : (plan : Plan) (hashes others : List (List ℕ)) → AreShort hashes → AreShort others → (chunk : ℕ)
    → length (named_text plan hashes chunk) ≡ length (named_text plan others chunk)
unfolding named_text
named_length plan hashes others short brief chunk =
    let h = hash_length hashes chunk short in
    let o = hash_length others chunk brief in
    simp length-append (omega arith)

module _ (separator : List ℕ) (text other : ℕ → List ℕ) (same : (number : ℕ) → length (text number) ≡ length (other number)) where
  behind_length : (numbers : List ℕ) → length (each_behind separator (map text numbers)) ≡ length (each_behind separator (map other numbers))
  behind_length [] = refl
  behind_length (number ∷ numbers) = simp length-append (omega (arith, same number, behind_length numbers))

  joined_length : (numbers : List ℕ) → length (joined separator (map text numbers)) ≡ length (joined separator (map other numbers))
  joined_length [] = refl
  joined_length (number ∷ numbers) = simp length-append (omega (arith, same number, behind_length numbers))

within_length : (front text other a b c : List ℕ) → length text ≡ length other → length (front ++ text ++ a ++ b ++ c) ≡ length (front ++ other ++ a ++ b ++ c)
within_length front text other a b c e = simp length-append (omega (arith, e))

entry_length : (material : MaterialOf) (hashes others : List (List ℕ)) (entry : ℕ) (groups chunks : List ℕ) → AreShort hashes → AreShort others
    → length (entry_text material hashes entry groups chunks) ≡ length (entry_text material others entry groups chunks)
unfolding entry_text
entry_length material hashes others entry groups chunks short brief =
    within_length _ _ _ _ _ _ (joined_length (codes ", ") (named_text material.plan hashes) (named_text material.plan others) (named_length material.plan hashes others short brief) chunks)

-- the text has one length for all hashes of eight digits
pub any_hashes : (material : MaterialOf) (hashes others : List (List ℕ)) (entry : ℕ) (text : List ℕ) → AreShort hashes → AreShort others
    → IsEntryText material hashes entry text → (other : List ℕ) × IsEntryText material others entry other × (length other ≡ length text)
any_hashes material hashes others entry text short brief is =
    (entry_text material others entry is.0 is.1, (is.0, is.1, is.2, refl), entry_length material others hashes entry is.0 is.1 brief short ∙ ap length (sym is.3))

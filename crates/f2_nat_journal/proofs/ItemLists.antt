-- The journal of a list of items, where the first item of a nid is known.
use Rattle.std.proofs.Common.{◌≡◌, ℕ, zero, suc, ◌+◌, ◌<◌, Bool, true, false, eqb, Some, None, List, [], ◌∷◌, ◌++◌, length, get_or, set, drop, refl, sym, ap, ◌∙◌, arith, inl, inr}
use Rattle.std.proofs.lemmas.Bool.{cases_Bool, cond-true, cond-false}
use Rattle.std.proofs.lemmas.Iterator.Adapters.{position_from-zero}
use Rattle.std.specs.List.{position, position_from, refill}
use Rattle.std.proofs.lemmas.List.{take_at, length-set}
use Rattle.std.proofs.lemmas.List.Quantifiers.{position-Some}
use Rattle.f2_format.specs.Nat.{NodePlace}
use Rattle.f2_format.specs.Journal.{journal_find, journal_with}
use Rattle.f2_nat_block.specs.NatEntry.{place_of}
use Rattle.f2_nat_journal.specs.declared.Item.{Item}
use Rattle.f2_nat_journal.specs.Item.{pair_of, journal_list}

-- no item before this place is the nid's
abbrev pub NoneBefore : List Item → ℕ → ℕ → Item → Type 0
NoneBefore items nid n d = (k : ℕ) → k < n → eqb (get_or items k d).nid nid ≡ false

-- no item passes a test where no place is found
none_from : (t : Item → Bool) (i : ℕ) (items : List Item) (d : Item) → position_from t i items ≡ None → (k : ℕ) → k < length items → t (get_or items k d) ≡ false
none_from t i [] d none k within = absurd (omega arith)
none_from t i (x ∷ xs) d none zero within = elim (cases_Bool (t x)) [
  | inl passes ↦ let found : Some i ≡ None = sym (cond-true (t x) (Some i) (position_from t (i + 1) xs) passes) ∙ none in cc
  | inr fails ↦ fails
]
none_from t i (x ∷ xs) d none (suc k) within = elim (cases_Bool (t x)) [
  | inl passes ↦ let found : Some i ≡ None = sym (cond-true (t x) (Some i) (position_from t (i + 1) xs) passes) ∙ none in cc
  | inr fails ↦ none_from t (i + 1) xs d (sym (cond-false (t x) (Some i) (position_from t (i + 1) xs) fails) ∙ none) k (omega arith)
]

-- the item that a journal's first entry of a nid is
find_at : (items : List Item) (nid p : ℕ) (d : Item) → p < length items → eqb (get_or items p d).nid nid ≡ true → NoneBefore items nid p d
    → journal_find (journal_list items) nid ≡ Some (place_of (get_or items p d).entry)
find_at [] nid p d within here before = absurd (omega arith)
find_at (x ∷ xs) nid zero d within here before = cond-true (eqb x.nid nid) (Some (place_of x.entry)) (journal_find (journal_list xs) nid) here
find_at (x ∷ xs) nid (suc p) d within here before =
    cond-false (eqb x.nid nid) (Some (place_of x.entry)) (journal_find (journal_list xs) nid) (before 0 (omega arith))
    ∙ find_at xs nid p d (omega arith) here (λ k h. before (suc k) (omega arith))

-- an item in its place
with_at : (items : List Item) (item : Item) (p : ℕ) (d : Item) → p < length items → eqb (get_or items p d).nid item.nid ≡ true → NoneBefore items item.nid p d
    → journal_with (journal_list items) item.nid (place_of item.entry) ≡ journal_list (set items p item)
with_at [] item p d within here before = absurd (omega arith)
with_at (x ∷ xs) item zero d within here before =
    cond-true (eqb x.nid item.nid) (pair_of item ∷ journal_list xs) (pair_of x ∷ journal_with (journal_list xs) item.nid (place_of item.entry)) here
with_at (x ∷ xs) item (suc p) d within here before =
    cond-false (eqb x.nid item.nid) (pair_of item ∷ journal_list xs) (pair_of x ∷ journal_with (journal_list xs) item.nid (place_of item.entry)) (before 0 (omega arith))
    ∙ ap (λ (j : List (ℕ × NodePlace)). pair_of x ∷ j) (with_at xs item p d (omega arith) here (λ k h. before (suc k) (omega arith)))

-- no item is the nid's
find_none : (items : List Item) (nid : ℕ) (d : Item) → NoneBefore items nid (length items) d → journal_find (journal_list items) nid ≡ None
find_none [] nid d before = refl
find_none (x ∷ xs) nid d before =
    cond-false (eqb x.nid nid) (Some (place_of x.entry)) (journal_find (journal_list xs) nid) (before 0 (omega arith))
    ∙ find_none xs nid d (λ k h. before (suc k) (omega arith))

-- an item behind all others
with_none : (items : List Item) (item d : Item) → NoneBefore items item.nid (length items) d
    → journal_with (journal_list items) item.nid (place_of item.entry) ≡ journal_list (items ++ item ∷ [])
with_none [] item d before = refl
with_none (x ∷ xs) item d before =
    cond-false (eqb x.nid item.nid) (pair_of item ∷ journal_list xs) (pair_of x ∷ journal_with (journal_list xs) item.nid (place_of item.entry)) (before 0 (omega arith))
    ∙ ap (λ (j : List (ℕ × NodePlace)). pair_of x ∷ j) (with_none xs item d (λ k h. before (suc k) (omega arith)))

-- the same by what a search for the nid gives
pub find_found : (items : List Item) (nid p : ℕ) (d : Item) → position (λ (i : Item). eqb i.nid nid) items ≡ Some p → journal_find (journal_list items) nid ≡ Some (place_of (get_or items p d).entry)
find_found items nid p d found =
    let facts = position-Some (λ (i : Item). eqb i.nid nid) items p d found in
    find_at items nid p d facts.0 facts.1 facts.2

pub with_found : (items : List Item) (item : Item) (p : ℕ) → position (λ (i : Item). eqb i.nid item.nid) items ≡ Some p
    → journal_with (journal_list items) item.nid (place_of item.entry) ≡ journal_list (set items p item)
with_found items item p found =
    let facts = position-Some (λ (i : Item). eqb i.nid item.nid) items p item found in
    with_at items item p item facts.0 facts.1 facts.2

missing : (items : List Item) (nid : ℕ) (d : Item) → position (λ (i : Item). eqb i.nid nid) items ≡ None → NoneBefore items nid (length items) d
missing items nid d none =
    none_from (λ (i : Item). eqb i.nid nid) 0 items d (sym (position_from-zero (λ (i : Item). eqb i.nid nid) items) ∙ none)

pub find_missing : (items : List Item) (nid : ℕ) (d : Item) → position (λ (i : Item). eqb i.nid nid) items ≡ None → journal_find (journal_list items) nid ≡ None
find_missing items nid d none = find_none items nid d (missing items nid d none)

pub with_missing : (items : List Item) (item : Item) → position (λ (i : Item). eqb i.nid item.nid) items ≡ None
    → journal_with (journal_list items) item.nid (place_of item.entry) ≡ journal_list (items ++ item ∷ [])
with_missing items item none = with_none items item item (missing items item.nid item none)

-- a write of one item through the slice
pub refill-set : (xs ys : List Item) (p : ℕ) (x : Item) → ys ≡ xs → refill (length xs) xs (set ys p x) ≡ set xs p x
refill-set xs ys p x same =
    take_at (set ys p x) (drop (length (set ys p x)) xs) (length xs) (length-set ys p x ∙ ap length same)
    ∙ ap (λ (zs : List Item). set zs p x) same

-- a place that was found is within
pub found-lt : (items : List Item) (nid p : ℕ) (d : Item) → position (λ (i : Item). eqb i.nid nid) items ≡ Some p → p < length items
found-lt items nid p d found =
    let facts = position-Some (λ (i : Item). eqb i.nid nid) items p d found in
    facts.0

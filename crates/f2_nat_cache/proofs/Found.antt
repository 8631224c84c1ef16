-- What is found in a journal.
use Rattle.std.proofs.Common.{◌≡◌, ℕ, ◌+◌, true, false, cond, [], ◌∷◌, ◌++◌, map, Some, None, nat_eq, refl, ap, sym, ◌∙◌, arith}
use Rattle.std.specs.Prelude.{option_map}
use Rattle.std.specs.List.{count_by}
use Rattle.std.proofs.lemmas.List.Sums.{sum_by-cons, sum_by-append}
use Rattle.f2_format.specs.Nat.{NodePlace}
use Rattle.f2_format.specs.Journal.{JournalList, journal_find, journal_with}
use Rattle.f2_nat_cache.specs.Entries.{EachOnce}
use Rattle.f2_nat_cache.proofs.Tables.{eq_same, eq_itself}

-- how often a nid stands in a journal
abbrev pub times : JournalList → ℕ → ℕ
times j nid = count_by (λ e. nat_eq e.0 nid) j

pub times-cons : (e : ℕ × NodePlace) (j : JournalList) (nid : ℕ) → times (e ∷ j) nid ≡ cond (nat_eq e.0 nid) 1 0 + times j nid
times-cons e j nid = sum_by-cons (λ (f : ℕ × NodePlace). cond (nat_eq f.0 nid) 1 0) e j

pub times-append : (a b : JournalList) (nid : ℕ) → times (a ++ b) nid ≡ times a nid + times b nid
times-append a b nid = sum_by-append (λ (f : ℕ × NodePlace). cond (nat_eq f.0 nid) 1 0) a b

-- a nid that isn't there goes last
pub journal_with-absent : (j : JournalList) (nid : ℕ) (p : NodePlace) → journal_find j nid ≡ None → journal_with j nid p ≡ j ++ (nid, p) ∷ []
journal_with-absent [] nid p none = refl
journal_with-absent (e ∷ j) nid p none =
    (elim (nat_eq e.0 nid) as (λ b. cond b (Some e.1) (journal_find j nid) ≡ None → cond b ((nid, p) ∷ j) (e ∷ journal_with j nid p) ≡ e ∷ (j ++ (nid, p) ∷ [])) [
      | true ↦ λ h. cc
      | false ↦ λ h. ap (λ r. e ∷ r) (journal_with-absent j nid p h)
    ]) none

-- what isn't in the front is what is behind it
pub journal_find-behind : (a b : JournalList) (nid : ℕ) → journal_find a nid ≡ None → journal_find (a ++ b) nid ≡ journal_find b nid
journal_find-behind [] b nid none = refl
journal_find-behind (e ∷ a) b nid none =
    (elim (nat_eq e.0 nid) as (λ t. cond t (Some e.1) (journal_find a nid) ≡ None → cond t (Some e.1) (journal_find (a ++ b) nid) ≡ journal_find b nid) [
      | true ↦ λ h. cc
      | false ↦ λ h. journal_find-behind a b nid h
    ]) none

-- what is in the front is found there
pub journal_find-front : (a b : JournalList) (nid : ℕ) (p : NodePlace) → journal_find a nid ≡ Some p → journal_find (a ++ b) nid ≡ Some p
journal_find-front [] b nid p found = cc
journal_find-front (e ∷ a) b nid p found =
    (elim (nat_eq e.0 nid) as (λ t. cond t (Some e.1) (journal_find a nid) ≡ Some p → cond t (Some e.1) (journal_find (a ++ b) nid) ≡ Some p) [
      | true ↦ λ h. h
      | false ↦ λ h. journal_find-front a b nid p h
    ]) found

-- entries whose places were changed are found by the same nids
pub journal_find-map : (f : ℕ × NodePlace → NodePlace) (j : JournalList) (nid : ℕ) → journal_find (map (λ e. (e.0, f e)) j) nid ≡ option_map (λ p. f (nid, p)) (journal_find j nid)
journal_find-map f [] nid = refl
journal_find-map f (e ∷ j) nid =
    (elim (nat_eq e.0 nid) as (λ t. nat_eq e.0 nid ≡ t → cond t (Some (f e)) (journal_find (map (λ e. (e.0, f e)) j) nid) ≡ option_map (λ p. f (nid, p)) (cond t (Some e.1) (journal_find j nid))) [
      | true ↦ λ h. ap (λ n. Some (f (n, e.1))) (eq_same e.0 nid h)
      | false ↦ λ h. journal_find-map f j nid
    ]) refl

pub times-map : (f : ℕ × NodePlace → NodePlace) (j : JournalList) (nid : ℕ) → times (map (λ e. (e.0, f e)) j) nid ≡ times j nid
times-map f [] nid = refl
times-map f (e ∷ j) nid = times-cons (e.0, f e) (map (λ e. (e.0, f e)) j) nid ∙ ap (λ n. cond (nat_eq e.0 nid) 1 0 + n) (times-map f j nid) ∙ sym (times-cons e j nid)

-- what stands nowhere isn't found, and the other way round
pub not_found : (j : JournalList) (nid : ℕ) → times j nid ≡ 0 → journal_find j nid ≡ None
not_found [] nid none = refl
not_found (e ∷ j) nid none =
    (elim (nat_eq e.0 nid) as (λ t. cond t 1 0 + times j nid ≡ 0 → cond t (Some e.1) (journal_find j nid) ≡ None) [
      | true ↦ λ h. absurd (omega (arith, h))
      | false ↦ λ h. not_found j nid (omega (arith, h))
    ]) (sym (times-cons e j nid) ∙ none)

pub nowhere : (j : JournalList) (nid : ℕ) → journal_find j nid ≡ None → times j nid ≡ 0
nowhere [] nid none = refl
nowhere (e ∷ j) nid none =
    times-cons e j nid
    ∙ (elim (nat_eq e.0 nid) as (λ t. cond t (Some e.1) (journal_find j nid) ≡ None → cond t 1 0 + times j nid ≡ 0) [
      | true ↦ λ h. cc
      | false ↦ λ h. let rest = nowhere j nid h in omega (arith, rest)
    ]) none

-- the entry at a place of a journal in which each nid stands once: its nid isn't before it, and it is found
pub stands_once : (a b : JournalList) (e : ℕ × NodePlace) → EachOnce (a ++ e ∷ b) → journal_find a e.0 ≡ None
stands_once a b e once =
    let all = times-append a (e ∷ b) e.0 in
    let here = times-cons e b e.0 ∙ ap (λ t. cond t 1 0 + times b e.0) (eq_itself e.0) in
    not_found a e.0 (omega (arith, all, here, once e.0))

pub found_once : (a b : JournalList) (e : ℕ × NodePlace) → EachOnce (a ++ e ∷ b) → journal_find (a ++ e ∷ b) e.0 ≡ Some e.1
found_once a b e once = journal_find-behind a (e ∷ b) e.0 (stands_once a b e once) ∙ ap (λ t. cond t (Some e.1) (journal_find b e.0)) (eq_itself e.0)

pub rest_once : (e : ℕ × NodePlace) (j : JournalList) → EachOnce (e ∷ j) → EachOnce j
rest_once e j once nid = let all = times-cons e j nid in omega (arith, all, once nid)

pub head_once : (e : ℕ × NodePlace) (j : JournalList) → EachOnce (e ∷ j) → journal_find j e.0 ≡ None
head_once e j once =
    let here = times-cons e j e.0 ∙ ap (λ t. cond t 1 0 + times j e.0) (eq_itself e.0) in
    not_found j e.0 (omega (arith, here, once e.0))

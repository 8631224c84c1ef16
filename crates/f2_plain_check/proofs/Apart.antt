-- Rows that are looked at one after another, each for a row before it that has its name in its directory.
use Rattle.std.proofs.Common.{◌≡◌, ◌≢◌, ◌↔◌, ℕ, Bool, true, false, cond, ◌||◌, List, [], ◌∷◌, refl, sym, ap, subst, ◌∙◌, true≢false}
use Rattle.std.specs.Prelude.{T, Some}
use Rattle.std.specs.List.{list_any}
use Rattle.std.specs.Ordering.{nat_cmp, eq_by_cmp}
use Rattle.std.specs.FinMap as map
use Rattle.std.specs.FinMap.{entries, entries_sorted, find, is_sorted, get-entries}
use Rattle.f2_model.specs.Tree.{Rows, ROOT, stands_at}
use Rattle.f2_model.specs.declared.rows.Row.{Row}
use Rattle.f2_laws.proofs.Missing.{tied-true, tied-same}
use Rattle.f2_laws.proofs.Names.{stands_true}
use Rattle.f2_laws.proofs.Walks.{stands}
use Rattle.f2_reference_calls.specs.Given.{IsKeyed}
use Rattle.f2_plain_check.specs.Parts.{AreApart}
use Rattle.f2_plain_check.proofs.Values.{values_in, sorted_behind, found_first, found_behind, other_key}

-- no row but the root has a name in a directory that one of the rows before it has there
abbrev pub AreNew : List Row → List Row → Type 0
AreNew before [] = Unit {0}
AreNew before (row ∷ rows) = (row.ino ≢ ROOT → list_any (stands_at row.parent row.name) before ≡ false) × AreNew (row ∷ before) rows

-- rows at keys that are apart
abbrev EntriesApart : List (ℕ × Row) → Type 0
EntriesApart es = (i j : ℕ) (a b : Row) → find nat_cmp i es ≡ Some a → find nat_cmp j es ≡ Some b → a.ino ≢ ROOT → b.ino ≢ ROOT → a.parent ≡ b.parent → a.name ≡ b.name → i ≡ j

neither : (a b : Bool) → (a || b) ≡ false → (a ≡ false) × (b ≡ false)
neither true b h = absurd (true≢false h)
neither false b h = (refl, h)

both_false : (a b : Bool) → a ≡ false → b ≡ false → (a || b) ≡ false
both_false true b p q = p
both_false false b p q = q

not_true : (b : Bool) → (b ≡ true → ⊥) → b ≡ false
not_true true no_way = absurd (no_way refl)
not_true false no_way = refl

none_before : (before : List Row) (es : List (ℕ × Row)) → AreNew before (values_in es) → (j : ℕ) (b : Row) → find nat_cmp j es ≡ Some b → b.ino ≢ ROOT → list_any (stands_at b.parent b.name) before ≡ false
none_before before [] new j b there below = absurd (cc)
none_before before (e ∷ es) new j b there below = by_tie (none_before (e.1 ∷ before) es new.1 j b) (eq_by_cmp nat_cmp j e.0) there
  where
    by_tie : (find nat_cmp j es ≡ Some b → b.ino ≢ ROOT → list_any (stands_at b.parent b.name) (e.1 ∷ before) ≡ false) → (t : Bool) → cond t (Some e.1) (find nat_cmp j es) ≡ Some b → list_any (stands_at b.parent b.name) before ≡ false
    by_tie rest true there =
        let same : e.1 ≡ b = cc in
        subst (λ (row : Row). row.ino ≢ ROOT → list_any (stands_at row.parent row.name) before ≡ false) same new.0 below
    by_tie rest false there = (neither (stands_at b.parent b.name e.1) _ (rest there below)).1

apart_of_new : (before : List Row) (es : List (ℕ × Row)) → AreNew before (values_in es) → EntriesApart es
apart_of_new before [] new i j a b at there a_below b_below parent name = absurd (cc)
apart_of_new before (e ∷ es) new i j a b at there a_below b_below parent name = by_ties (apart_of_new (e.1 ∷ before) es new.1 i j a b) (eq_by_cmp nat_cmp i e.0) refl at (eq_by_cmp nat_cmp j e.0) refl there
  where
    -- a row behind the first one has another name
    other : (row : Row) (k : ℕ) → find nat_cmp k es ≡ Some row → row.ino ≢ ROOT → e.1.ino ≢ ROOT → e.1.parent ≡ row.parent → e.1.name ≡ row.name → ⊥
    other row k found below first_below parent name =
        true≢false (sym (stands_true row.parent row.name e.1 first_below parent name) ∙ (neither (stands_at row.parent row.name e.1) _ (none_before (e.1 ∷ before) es new.1 k row found below)).0)

    by_ties : (find nat_cmp i es ≡ Some a → find nat_cmp j es ≡ Some b → a.ino ≢ ROOT → b.ino ≢ ROOT → a.parent ≡ b.parent → a.name ≡ b.name → i ≡ j) →
        (s : Bool) → eq_by_cmp nat_cmp i e.0 ≡ s → cond s (Some e.1) (find nat_cmp i es) ≡ Some a →
        (t : Bool) → eq_by_cmp nat_cmp j e.0 ≡ t → cond t (Some e.1) (find nat_cmp j es) ≡ Some b → i ≡ j
    by_ties rest true i_is at true j_is there = tied-true i e.0 i_is ∙ sym (tied-true j e.0 j_is)
    by_ties rest true i_is at false j_is there =
        let same : a ≡ e.1 = cc in
        absurd (other b j there b_below (subst (λ (row : Row). row.ino ≢ ROOT) same a_below) (ap (λ (row : Row). row.parent) (sym same) ∙ parent) (ap (λ (row : Row). row.name) (sym same) ∙ name))
    by_ties rest false i_is at true j_is there =
        let same : b ≡ e.1 = cc in
        absurd (other a i at a_below (subst (λ (row : Row). row.ino ≢ ROOT) same b_below) (ap (λ (row : Row). row.parent) (sym same) ∙ sym parent) (ap (λ (row : Row). row.name) (sym same) ∙ sym name))
    by_ties rest false i_is at false j_is there = rest at there a_below b_below parent name

new_of_apart : (before : List Row) (es : List (ℕ × Row)) → T (is_sorted nat_cmp es) → EntriesApart es →
    ((j : ℕ) (b : Row) → find nat_cmp j es ≡ Some b → b.ino ≢ ROOT → list_any (stands_at b.parent b.name) before ≡ false) → AreNew before (values_in es)
new_of_apart before [] sorted apart none = tt
new_of_apart before (e ∷ es) sorted apart none = (
  none e.0 e.1 (found_first e es),
  new_of_apart (e.1 ∷ before) es (sorted_behind e es sorted)
      (λ i j a b at there. apart i j a b (found_behind e es sorted i a at) (found_behind e es sorted j b there))
      (λ j b there below. both_false (stands_at b.parent b.name e.1) _ (not_true _ (λ here. shared j b there below here)) (none j b (found_behind e es sorted j b there) below)),
)
  where
    shared : (j : ℕ) (b : Row) → find nat_cmp j es ≡ Some b → b.ino ≢ ROOT → stands_at b.parent b.name e.1 ≡ true → ⊥
    shared j b there below here =
        let at = stands b.parent b.name e.1 here in
        let same : e.0 ≡ j = apart e.0 j e.1 b (found_first e es) (found_behind e es sorted j b there) at.not_root below at.parent at.name_is in
        true≢false (sym (ap (λ k. eq_by_cmp nat_cmp k e.0) (sym same) ∙ tied-same e.0) ∙ other_key e es sorted j b there)

-- rows of which none has the name of one before it are apart, and the other way round
pub apart_if_new : (tree : Rows) → IsKeyed tree → AreNew [] (map.values tree) ↔ AreApart tree
apart_if_new tree keyed = (
  λ new i j a b at there i_below j_below parent name.
      apart_of_new [] (entries tree) new i j a b (sym (get-entries tree i) ∙ at) (sym (get-entries tree j) ∙ there)
      (subst (λ k. k ≢ ROOT) (sym (keyed i a at)) i_below) (subst (λ k. k ≢ ROOT) (sym (keyed j b there)) j_below) parent name,
  λ apart. new_of_apart [] (entries tree) (entries_sorted tree)
      (λ i j a b at there a_below b_below parent name.
      let in_i = get-entries tree i ∙ at in
      let in_j = get-entries tree j ∙ there in
      apart i j a b in_i in_j (subst (λ k. k ≢ ROOT) (keyed i a in_i) a_below) (subst (λ k. k ≢ ROOT) (keyed j b in_j) b_below) parent name)
      (λ j b there below. refl),
)

-- The ends of a range of pages are the pages nearest to its bound.
use Rattle.std.proofs.Common.{◌≡◌, ℕ, ◌≤◌, Bool, true, false, true≢false, not, List, [], ◌∷◌, ◌++◌, refl, sym, ap, subst, ◌∙◌, arith}
use Rattle.std.specs.Prelude.{Option, Some, None, is_some, nat_lt, IfSome}
use Rattle.std.specs.List.{list_any, slice_get}
use Rattle.std.specs.Map.{lookup}
use Rattle.std.specs.BTreeMap.{BTreeMap, is_at}
use Rattle.std.specs.BTreeMap.Range.{IsRangeOf, IsEntryInRange, IsLeBy}
use Rattle.std.specs.Ordering.{nat_cmp, is_lt}
use Rattle.std.specs.declared.ops.Bound.TheVariants.{Included, Unbounded}
use Rattle.std.specs.FinMap as map
use Rattle.std.specs.FinMap.{contains_key-keys}
use Rattle.std.proofs.lemmas.Bool.Decides.{nat_tests}
use Rattle.f2_model.proofs.MapViews.{lookup-seen}
use Rattle.f2_files.specs.Cuts.{Addressed}
use Rattle.f2_files.specs.Near.{IsLastTo, IsFirstFrom, IsMaybeFirstFrom}
use Rattle.f2_files.proofs.NodePages.{passes, passing}

no_less : (a b : ℕ) → is_lt (nat_cmp a b) ≡ false → b ≤ a
no_less a b h = grind (arith, nat_tests)

le_from : (a b : ℕ) → IsLeBy nat_cmp a b → a ≤ b
le_from a b h = grind (arith, nat_tests)

from_le : (a b : ℕ) → a ≤ b → IsLeBy nat_cmp a b
from_le a b h = grind (arith, nat_tests)

none_is : (o : Option ℕ) → o ≡ None → is_some o ≡ false
none_is o h = ap (λ o. is_some o) h

module _ (tree : BTreeMap ℕ ℕ) (pages : Addressed) (seen : map.from_entries tree.entries ≡ pages) where
  has : (q : ℕ) → is_some (lookup (is_at (nat_cmp q)) tree.entries) ≡ map.contains_key pages q
  has q = ap (λ o. is_some o) (lookup-seen tree.entries pages seen q)

  module _ (to : ℕ) (r : List (ℕ × ℕ)) (range : IsRangeOf nat_cmp Unbounded (Included to) tree r) where
    pub last_is : (e : ℕ × ℕ) (t : List (ℕ × ℕ)) → r ≡ t ++ e ∷ [] → IsLastTo pages to e.0
    last_is e t is =
        let entry = range.3 e t is in
        record {
          there = sym (has e.0) ∙ ap (λ o. is_some o) entry.1;
          within = le_from e.0 to entry.0.1;
          last = λ other there within. no_less e.0 other (range.4 e t is other (tt, from_le other to within) (has other ∙ there));
        }

    pub no_last : r ≡ [] → (other : ℕ) → other ≤ to → map.contains_key pages other ≡ false
    no_last is other within = sym (has other) ∙ none_is _ (range.5 is other (tt, from_le other to within))

  module _ (from : ℕ) (r : List (ℕ × ℕ)) (range : IsRangeOf nat_cmp (Included from) Unbounded tree r) where
    pub first_is : (e : ℕ × ℕ) (t : List (ℕ × ℕ)) → r ≡ e ∷ t → IsFirstFrom pages from e.0
    first_is e t is =
        let at : slice_get r 0 ≡ Some e = ap (λ xs. slice_get xs 0) is in
        let entry = subst (λ o. IfSome o (λ (x : ℕ × ℕ). IsEntryInRange nat_cmp (Included from) Unbounded tree x)) at range.1 in
        record {
          there = sym (has e.0) ∙ ap (λ o. is_some o) entry.1;
          within = le_from from e.0 entry.0.0;
          first = λ other there within. le_from e.0 other (subst (λ o. IfSome o (λ e. IsLeBy nat_cmp e.0 other)) at (range.2 other (from_le from other within, tt) (has other ∙ there)));
        }

    pub no_first : r ≡ [] → (other : ℕ) → from ≤ other → map.contains_key pages other ≡ false
    no_first is other within = sym (has other) ∙ none_is _ (range.5 is other (from_le from other within, tt))

at_least : (from page : ℕ) → from ≤ page → not (nat_lt page from) ≡ true
at_least from page h = grind (arith, nat_tests)

from_least : (from page : ℕ) → not (nat_lt page from) ≡ true → from ≤ page
from_least from page h = grind (arith, nat_tests)

-- a first page from a number on is there exactly where one of the pages isn't below it
pub first_any : (pages : Addressed) (from : ℕ) (o : Option ℕ) → IsMaybeFirstFrom pages from o → is_some o ≡ list_any (λ page. not (nat_lt page from)) (map.keys pages)
first_any pages from (Some page) first = sym (passes (λ page. not (nat_lt page from)) (map.keys pages) page (sym (contains_key-keys pages page) ∙ first.there) (at_least from page first.within))
first_any pages from None none = by_any (list_any (λ page. not (nat_lt page from)) (map.keys pages)) refl
  where
    by_any : (b : Bool) → list_any (λ page. not (nat_lt page from)) (map.keys pages) ≡ b → false ≡ b
    by_any false h = refl
    by_any true h =
        let one = passing (λ page. not (nat_lt page from)) (map.keys pages) h in
        absurd (true≢false (sym one.1 ∙ sym (contains_key-keys pages one.0) ∙ none one.0 (from_least from one.0 one.2)))

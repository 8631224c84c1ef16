-- A walk that has one row more, at the end of its queue.
use Rattle.std.proofs.Common.{◌≡◌, ◌≢◌, ◌⊎◌, inl, inr, ℕ, ◌+◌, ◌<◌, ◌≤◌, false, List, [], ◌∷◌, ◌++◌, length, slice_index_or, sym, ap, ◌∙◌, subst, arith, length-append}
use Rattle.std.specs.Prelude.{Contains, Some}
use Rattle.std.specs.FinMap as map
use Rattle.std.proofs.lemmas.List.{get_or_append_left, get_or_push}
use Rattle.std.proofs.lemmas.List.Elements.{Contains-append_left, Contains-push}
use Rattle.f2_format.specs.Geometry.{ImageGeometry, nid_limit}
use Rattle.f2_laws.proofs.Maps.{get_put}
use Rattle.f2_laws.proofs.Places.{same_or_other}
use Rattle.f2_laws.proofs.Walks.{some_none}
use Rattle.f2_model.specs.Tree.{most_depth}
use Rattle.f2_recover.specs.Walking.{BaseRows, HasRow, IsQueue, IsLonger}
use Rattle.f2_recover.specs.declared.rows.BaseRow.{BaseRow}
use Rattle.f2_recover.specs.declared.walk.Walk.{Walk}
use Rattle.f2_recover.proofs.FreshKeys.{free_none, put_cases, put_stays}

one_more : (xs : List ℕ) (x : ℕ) → length (xs ++ x ∷ []) ≡ length xs + 1
one_more xs x = length-append xs (x ∷ [])

-- an index of a list with one element more
last_or_before : (xs : List ℕ) (x k : ℕ) → k < length (xs ++ x ∷ []) → (k < length xs) ⊎ (k ≡ length xs)
last_or_before xs x k small = by_test (same_or_other k (length xs))
  where
    by_test : (k ≡ length xs) ⊎ (k ≢ length xs) → (k < length xs) ⊎ (k ≡ length xs)
    by_test (inl same) = inr same
    by_test (inr other) = inl (omega (arith, small, one_more xs x, other))

before : (xs : List ℕ) (x k : ℕ) → k < length xs → slice_index_or (xs ++ x ∷ []) k 0 ≡ slice_index_or xs k 0
before xs x k small = get_or_append_left xs (x ∷ []) 0 k small

last : (xs : List ℕ) (x k : ℕ) → k ≡ length xs → slice_index_or (xs ++ x ∷ []) k 0 ≡ x
last xs x k same = get_or_push xs x 0 k (sym same)

module _ (rows : BaseRows) (ino : ℕ) (free : map.contains_key rows ino ≡ false) (row : BaseRow) where
  has_row : (q : ℕ) (IsSo : BaseRow → Type 0) → HasRow rows q IsSo → HasRow (map.insert rows ino row) q IsSo
  has_row q IsSo has = record { row = has.row; there = put_stays rows ino row free q has.row has.there; is = has.is }

  module _ (geom : ImageGeometry) (order : List ℕ) (queue : IsQueue geom rows order) (small : ino < nid_limit geom) (high : row.depth ≤ most_depth row.file.kind) where
    abbrev IsHigh : BaseRow → Type 0
    IsHigh one = one.depth ≤ most_depth one.file.kind

    now : (k : ℕ) → (k < length order) ⊎ (k ≡ length order) → HasRow (map.insert rows ino row) (slice_index_or (order ++ ino ∷ []) k 0) IsHigh
    now k (inl old) = subst (λ q. HasRow (map.insert rows ino row) q IsHigh) (sym (before order ino k old)) (has_row (slice_index_or order k 0) IsHigh (queue.there k old))
    now k (inr end) = subst (λ q. HasRow (map.insert rows ino row) q IsHigh) (sym (last order ino k end)) (record { row = row; there = get_put rows ino row; is = high })

    within : (k : ℕ) → (k < length order) ⊎ (k ≡ length order) → slice_index_or (order ++ ino ∷ []) k 0 < nid_limit geom
    within k (inl old) = subst (λ q. q < nid_limit geom) (sym (before order ino k old)) (queue.within k old)
    within k (inr end) = subst (λ q. q < nid_limit geom) (sym (last order ino k end)) small

    fresh : (k : ℕ) → k < length order → slice_index_or order k 0 ≡ ino → ⊥
    fresh k old same = let has = queue.there k old in some_none (sym has.there ∙ ap (λ i. map.get rows i) same ∙ free_none (map.get rows ino) free)

    apart : (j k : ℕ) → (j < length order) ⊎ (j ≡ length order) → (k < length order) ⊎ (k ≡ length order) → slice_index_or (order ++ ino ∷ []) j 0 ≡ slice_index_or (order ++ ino ∷ []) k 0 → j ≡ k
    apart j k (inl a) (inl b) same = queue.apart j k a b (sym (before order ino j a) ∙ same ∙ before order ino k b)
    apart j k (inl a) (inr b) same = absurd (fresh j a (sym (before order ino j a) ∙ same ∙ last order ino k b))
    apart j k (inr a) (inl b) same = absurd (fresh k b (sym (before order ino k b) ∙ sym same ∙ last order ino j a))
    apart j k (inr a) (inr b) same = a ∙ sym b

    found : (q : ℕ) (one : BaseRow) → ((q ≡ ino) × (one ≡ row)) ⊎ (map.get rows q ≡ Some one) → Contains (order ++ ino ∷ []) q
    found q one (inl new) = subst (Contains (order ++ ino ∷ [])) (sym new.0) (Contains-push order ino)
    found q one (inr old) = Contains-append_left order (ino ∷ []) q (queue.all q one old)

    more : IsQueue geom (map.insert rows ino row) (order ++ ino ∷ [])
    more = record {
      there = λ k small. now k (last_or_before order ino k small);
      within = λ k small. within k (last_or_before order ino k small);
      apart = λ j k a b same. apart j k (last_or_before order ino j a) (last_or_before order ino k b) same;
      all = λ q one there. found q one (put_cases rows ino row q one there);
    }

    pub queue_more : (after : BaseRows) (items : List ℕ) → after ≡ map.insert rows ino row → items ≡ order ++ ino ∷ [] → IsQueue geom after items
    queue_more after items rows_are items_are =
        subst (λ (m : BaseRows). IsQueue geom m items) (sym rows_are) (subst (λ (xs : List ℕ). IsQueue geom (map.insert rows ino row) xs) (sym items_are) more)

-- so it is longer
pub longer_more : (old new : Walk) (ino : ℕ) (row : BaseRow) → map.contains_key old.rows ino ≡ false → new.rows ≡ map.insert old.rows ino row → new.order.items ≡ old.order.items ++ ino ∷ [] → IsLonger old new
longer_more old new ino row free rows order = record {
  rows = λ q one there. ap (λ (m : BaseRows). map.get m q) rows ∙ put_stays old.rows ino row free q one there;
  grows = omega (arith, ap (λ (xs : List ℕ). length xs) order, one_more old.order.items ino);
  order = λ k small. ap (λ (xs : List ℕ). slice_index_or xs k 0) order ∙ before old.order.items ino k small;
}

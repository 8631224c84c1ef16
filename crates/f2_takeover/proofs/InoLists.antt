-- The keys of rows are their inos, each once.
use Rattle.std.proofs.Common.{◌≡◌, ◌⊎◌, inl, inr, ℕ, ◌<◌, ◌≤◌, Bool, true, false, T, ◌&&◌, List, [], ◌∷◌, length, refl, sym, ap, ◌∙◌, subst, arith, eqb-true}
use Rattle.std.specs.Prelude.{Some, is_some, slice_index_or}
use Rattle.std.specs.List.{AllByRecursion}
use Rattle.std.specs.List.Sorted.{IsStrictlySortedBy}
use Rattle.std.specs.Ordering.{nat_cmp, is_lt}
use Rattle.std.specs.Cmp.{unsigned_tied}
use Rattle.std.specs.declared.cmp.Ordering.{Ordering}
use Rattle.std.specs.declared.cmp.Ordering.TheVariants.{Less, Equal, Greater}
use Rattle.std.specs.Map.{keys_of}
use Rattle.std.specs.FinMap as map
use Rattle.std.specs.FinMap.Entries.{below_all, is_sorted}
use Rattle.std.proofs.lemmas.Bool.{cases_lt}
use Rattle.std.proofs.lemmas.List.{get_or_default}
use Rattle.std.proofs.lemmas.Map.Keys.{below_from_sorted}
use Rattle.std.proofs.lemmas.Map.Views.{Contains-from_any}
use Rattle.f2_takeover.specs.Orders.{Taken, IsAmongFirst, AreApart, AreInos}
use Rattle.f2_takeover.specs.declared.rows.TakenRow.{TakenRow}

first : (a b : Bool) → T (a && b) → T a
first true b h = tt
first false b h = absurd h

second : (a b : Bool) → T (a && b) → T b
second true b h = h
second false b h = absurd h

less : (o : Ordering) → T (is_lt o) → o ≡ Less
less Less h = refl
less Equal h = absurd h
less Greater h = absurd h

module _ {X : Type 0} where
  keys_below : (x : ℕ) (es : List (ℕ × X)) → T (below_all nat_cmp x es) → AllByRecursion (λ y. nat_cmp x y ≡ Less) (keys_of es)
  keys_below x [] h = tt
  keys_below x (e ∷ es) h = (less _ (first _ _ h), keys_below x es (second _ _ h))

  keys_rise : (es : List (ℕ × X)) → T (is_sorted nat_cmp es) → IsStrictlySortedBy nat_cmp (keys_of es)
  unfolding IsStrictlySortedBy
  keys_rise [] h = tt
  keys_rise (e ∷ es) h = (keys_below e.0 es (first _ _ h), keys_rise es (second _ _ h))

rising_apart : (inos : List ℕ) → IsStrictlySortedBy nat_cmp inos → AreApart inos
rising_apart inos sorted j k low small same = by (cases_lt j k) (cases_lt k j)
  where
    apart : (a b : ℕ) → a < b → b < length inos → slice_index_or inos a 0 ≡ slice_index_or inos b 0 → ⊥
    apart a b up within equal = let rise = below_from_sorted inos a b 0 sorted up within in omega (arith, rise, equal)

    by : (j < k) ⊎ (k ≤ j) → (k < j) ⊎ (j ≤ k) → j ≡ k
    by (inl up) other = absurd (apart j k up small same)
    by (inr high) (inl down) = absurd (apart k j down low (sym same))
    by (inr high) (inr up) = omega (arith, high, up)

pub are_inos : (rows : Taken) (inos : List ℕ) → inos ≡ map.keys rows → AreInos rows inos
are_inos rows inos same = subst (AreInos rows) (sym same) (record { all = all; apart = rising_apart (map.keys rows) (keys_rise (map.entries rows) (map.entries_sorted rows)) })
  where
    all : (ino : ℕ) (row : TakenRow) → map.get rows ino ≡ Some row → IsAmongFirst (map.keys rows) (length (map.keys rows)) ino
    all ino row there =
        let has = Contains-from_any (λ x y e. eqb-true x y (sym (unsigned_tied x y) ∙ e)) ino (map.keys rows) (sym (map.contains_key-keys rows ino) ∙ ap is_some there) in
        (has.0, (has.1, get_or_default (map.keys rows) has.0 0 ino has.1 ∙ has.2))

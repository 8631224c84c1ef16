-- Things that differ in a list have one place, and so have the slots in which the names of a block begin.
use Rattle.std.proofs.Common.{◌≡◌, ◌≢◌, ℕ, zero, suc, ◌+◌, Bool, true, false, cond, List, [], ◌∷◌, filter, refl, ap, arith}
use Rattle.std.specs.Prelude.{Some}
use Rattle.std.specs.List.{range_with_len, slice_get}
use Rattle.f2_format.specs.Packing.{SLOTS_A_BLOCK}
use Rattle.f2_format.specs.Dentry.{begins_name, all_slots}
use Rattle.f2_image.specs.Reached.{AllDiffer}
use Rattle.f2_place_laws.proofs.Lists.{each_in, one_in, in_list, from_filter, from_range}
use Rattle.f2_place_laws.proofs.Slots.{begun}

filter_differ : {X : Type 0} (p : X → Bool) (xs : List X) → AllDiffer xs → AllDiffer (filter p xs)
filter_differ p [] differ = tt
filter_differ p (x ∷ xs) differ = by_test (p x) (filter_differ p xs differ.1)
  where
    by_test : (b : Bool) → AllDiffer (filter p xs) → AllDiffer (cond b (x ∷ filter p xs) (filter p xs))
    by_test true rest = (each_in (λ y. x ≢ y) (filter p xs) (λ y there. one_in (λ y. x ≢ y) xs y differ.0 (from_filter p y xs there).1), rest)
    by_test false rest = rest

range_differ : (a n : ℕ) → AllDiffer (range_with_len a n)
range_differ a zero = tt
range_differ a (suc n) = (each_in (λ k. a ≢ k) (range_with_len (a + 1) n) (λ k there same. let found = from_range (a + 1) n k there in omega (arith, found.0, same)), range_differ (a + 1) n)

pub one_place : {X : Type 0} (xs : List X) (x : X) (i j : ℕ) → AllDiffer xs → slice_get xs i ≡ Some x → slice_get xs j ≡ Some x → i ≡ j
one_place [] x i j differ p q = absurd (cc)
one_place (y ∷ xs) x zero zero differ p q = refl
one_place (y ∷ xs) x zero (suc j) differ p q = let same : y ≡ x = cc in absurd (one_in (λ z. y ≢ z) xs x differ.0 (in_list xs j x q) same)
one_place (y ∷ xs) x (suc i) zero differ p q = let same : y ≡ x = cc in absurd (one_in (λ z. y ≢ z) xs x differ.0 (in_list xs i x p) same)
one_place (y ∷ xs) x (suc i) (suc j) differ p q = ap (λ n. suc n) (one_place xs x i j differ.1 p q)

slots_differ : AllDiffer all_slots
unfolding all_slots
slots_differ = range_differ 0 SLOTS_A_BLOCK

-- a slot has one place among those in which names begin
pub one_slot_place : (block : List ℕ) (slot i j : ℕ) → slice_get (begun block) i ≡ Some slot → slice_get (begun block) j ≡ Some slot → i ≡ j
one_slot_place block slot i j p q = one_place (begun block) slot i j (filter_differ (begins_name block) all_slots slots_differ) p q

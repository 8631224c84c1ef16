-- Members of lists of rows, and of the values of a map.
use Rattle.std.proofs.Common.{◌≡◌, ◌⊎◌, inl, inr, ℕ, Bool, true, false, ◌||◌, List, [], ◌∷◌, ◌++◌, refl, ap, ◌∙◌, true≢false}
use Rattle.std.specs.List.{list_any, filter_map}
use Rattle.std.specs.FinMap as finite
use Rattle.f2_model.specs.State.{InFsync}
use Rattle.f2_model.specs.Fallback.{frozen_ino}
use Rattle.f2_model.specs.declared.rows.Row.{Row}
use Rattle.f2_held.specs.Recovered.{IsOneOf}
use Rattle.f2_laws.specs.Flights.{Flights, IsFrozen}
use Rattle.f2_laws.proofs.Listed.{Has, value_has, mapped_has}

pub one_of-either : (row : Row) (xs ys : List Row) → IsOneOf row (xs ++ ys) → IsOneOf row xs ⊎ IsOneOf row ys
one_of-either row [] ys h = inr h
one_of-either row (x ∷ xs) ys (inl e) = inl (inl e)
one_of-either row (x ∷ xs) ys (inr h) = more (one_of-either row xs ys h)
  where
    more : IsOneOf row xs ⊎ IsOneOf row ys → IsOneOf row (x ∷ xs) ⊎ IsOneOf row ys
    more (inl h) = inl (inr h)
    more (inr h) = inr h

-- a row of a list none of which passes a test doesn't
pub none_passes : (test : Row → Bool) (row : Row) (xs : List Row) → list_any test xs ≡ false → IsOneOf row xs → test row ≡ false
none_passes test row [] none h = absurd h
none_passes test row (x ∷ xs) none h = by_test (none_passes test row xs) (test x) refl none h
  where
    by_test : (list_any test xs ≡ false → IsOneOf row xs → test row ≡ false) → (b : Bool) → test x ≡ b → (b || list_any test xs) ≡ false → (row ≡ x) ⊎ IsOneOf row xs → test row ≡ false
    by_test rest true e none h = absurd (true≢false none)
    by_test rest false e none (inl same) = ap test same ∙ e
    by_test rest false e none (inr h) = rest none h

pub has_row : (row : Row) (xs : List Row) → Has row xs → IsOneOf row xs
has_row row [] h = absurd h
has_row row (x ∷ xs) (inl e) = inl e
has_row row (x ∷ xs) (inr h) = inr (has_row row xs h)

-- the ino of an fsync in flight is one of those that fsyncs hold
pub frozen_has : (flights : Flights) (ino : ℕ) → IsFrozen flights ino → Has ino (filter_map frozen_ino (finite.values flights))
frozen_has flights ino frozen =
    mapped_has frozen_ino (InFsync ino frozen.1.0) ino (finite.values flights) (value_has flights frozen.0 (InFsync ino frozen.1.0) frozen.1.1) refl

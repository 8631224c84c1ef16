-- Which slots are open after a reserve or a submit, for callers that hold several.
use Rattle.std.proofs.Common.{◌≡◌, ◌≢◌, ℕ, zero, suc, List, [], ◌∷◌, ◌++◌, length, set, Some, refl, arith}
use Rattle.std.specs.Prelude.{slice_get}
use Rattle.f2_warm_log.specs.declared.positions.Position.{Position}
use Rattle.f2_warm_log.specs.declared.positions.Slot.{Slot}
use Rattle.f2_warm_log.specs.Log.{NodeLog, IsOpen, with_reserved, with_submitted}

slice_get-pushed : (positions : List Position) (position : Position) (k : ℕ) → k ≡ length positions → slice_get (positions ++ position ∷ []) k ≡ Some position
slice_get-pushed [] position zero here = refl
slice_get-pushed [] position (suc k) here = absurd (omega arith)
slice_get-pushed (first ∷ rest) position zero here = absurd (omega arith)
slice_get-pushed (first ∷ rest) position (suc k) here = slice_get-pushed rest position k (omega arith)

slice_get-push : (positions : List Position) (position was : Position) (k : ℕ) → slice_get positions k ≡ Some was → slice_get (positions ++ position ∷ []) k ≡ Some was
slice_get-push [] position was k found = absurd (cc)
slice_get-push (first ∷ rest) position was zero found = found
slice_get-push (first ∷ rest) position was (suc k) found = slice_get-push rest position was k found

slice_get-set_other : (positions : List Position) (position was : Position) (at k : ℕ) → k ≢ at → slice_get positions k ≡ Some was → slice_get (set positions at position) k ≡ Some was
slice_get-set_other [] position was at k other found = found
slice_get-set_other (first ∷ rest) position was zero zero other found = absurd (other refl)
slice_get-set_other (first ∷ rest) position was zero (suc k) other found = found
slice_get-set_other (first ∷ rest) position was (suc at) zero other found = found
slice_get-set_other (first ∷ rest) position was (suc at) (suc k) other found =
    slice_get-set_other rest position was at k (λ same. other (omega (arith, same))) found

-- a slot that is reserved is open
pub IsOpen-reserved : (log : NodeLog) (slot : Slot) → slot.position ≡ length log.positions → IsOpen (with_reserved log slot) slot
IsOpen-reserved log slot here = slice_get-pushed log.positions _ slot.position here

-- and leaves those open that were
pub IsOpen-reserved_other : (log : NodeLog) (other slot : Slot) → IsOpen log slot → IsOpen (with_reserved log other) slot
IsOpen-reserved_other log other slot found = slice_get-push log.positions _ _ slot.position found

-- one that is submitted leaves those open that are of other positions
pub IsOpen-submitted_other : (log : NodeLog) (other slot : Slot) → slot.position ≢ other.position → IsOpen log slot → IsOpen (with_submitted log other) slot
IsOpen-submitted_other log other slot apart found = slice_get-set_other log.positions _ _ other.position slot.position apart found

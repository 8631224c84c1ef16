-- What one more position, or one that is submitted, does to a chain and to its first gap.
use Rattle.std.proofs.Common.{◌≡◌, ℕ, zero, suc, ◌<◌, true, false, List, [], ◌∷◌, ◌++◌, length, set, Some, refl, ap, sym, ◌∙◌, arith, inl, inr, length-append}
use Rattle.std.specs.Prelude.{slice_get}
use Rattle.std.proofs.lemmas.Bool.{cases_lt}
use Rattle.f2_warm_log.specs.declared.positions.Position.{Position}
use Rattle.f2_warm_log.specs.Log.{start_of, IsChained, submitted_at, IsSubmittedBelow}
use Rattle.f2_warm_log.specs.Gaps.{IsLowestOpen}

-- a position at the address that follows the others is one more of the chain
pub IsChained-push : (positions : List Position) (next : ℕ) (position : Position) → IsChained positions next → position.at ≡ next
    → IsChained (positions ++ position ∷ []) position.next
IsChained-push [] next position chained at = (refl, tt)
IsChained-push (first ∷ []) next position chained at = (chained.0 ∙ sym at, (refl, tt))
IsChained-push (first ∷ (second ∷ rest)) next position chained at = (chained.0, IsChained-push (second ∷ rest) next position chained.1 at)

-- and begins where they began
pub start_of-push : (positions : List Position) (next : ℕ) (position : Position) → position.at ≡ next
    → start_of (positions ++ position ∷ []) position.next ≡ start_of positions next
start_of-push [] next position at = at
start_of-push (first ∷ rest) next position at = refl

-- where positions begin, once one of them has another value and the same address
pub start_of-set : (positions : List Position) (k next : ℕ) (was now : Position) → slice_get positions k ≡ Some was → now.at ≡ was.at
    → start_of (set positions k now) next ≡ start_of positions next
start_of-set [] k next was now found at = refl
start_of-set (first ∷ rest) zero next was now found at = let same : first ≡ was = cc in at ∙ sym (ap (λ (p : Position). p.at) same)
start_of-set (first ∷ rest) (suc k) next was now found at = refl

-- a position with the same addresses keeps the chain
pub IsChained-set : (positions : List Position) (k next : ℕ) (was now : Position) → slice_get positions k ≡ Some was → now.at ≡ was.at → now.next ≡ was.next
    → IsChained positions next → IsChained (set positions k now) next
IsChained-set [] k next was now found at follows chained = tt
IsChained-set (first ∷ rest) zero next was now found at follows chained =
    let same : first ≡ was = cc in (follows ∙ sym (ap (λ (p : Position). p.next) same) ∙ chained.0, chained.1)
IsChained-set (first ∷ rest) (suc k) next was now found at follows chained =
    (chained.0 ∙ sym (start_of-set rest k next was now found at), IsChained-set rest k next was now found at follows chained.1)

-- the positions that were there keep their marks when one is appended
pub submitted_at-push : (positions : List Position) (position : Position) (k : ℕ) → k < length positions
    → submitted_at (positions ++ position ∷ []) k ≡ submitted_at positions k
submitted_at-push [] position k within = absurd (omega arith)
submitted_at-push (first ∷ rest) position zero within = refl
submitted_at-push (first ∷ rest) position (suc k) within = submitted_at-push rest position k (omega arith)

-- the one that is appended has its own
pub submitted_at-pushed : (positions : List Position) (position : Position) (k : ℕ) → k ≡ length positions
    → submitted_at (positions ++ position ∷ []) k ≡ Some position.submitted
submitted_at-pushed [] position zero here = refl
submitted_at-pushed [] position (suc k) here = absurd (omega arith)
submitted_at-pushed (first ∷ rest) position zero here = absurd (omega arith)
submitted_at-pushed (first ∷ rest) position (suc k) here = submitted_at-pushed rest position k (omega arith)

-- a position that is submitted takes no mark from others
pub submitted_at-set : (positions : List Position) (at : ℕ) (position : Position) (k : ℕ) → position.submitted ≡ true → submitted_at positions k ≡ Some true
    → submitted_at (set positions at position) k ≡ Some true
submitted_at-set [] at position k submitted was = was
submitted_at-set (first ∷ rest) zero position zero submitted was = ap Some submitted
submitted_at-set (first ∷ rest) zero position (suc k) submitted was = was
submitted_at-set (first ∷ rest) (suc at) position zero submitted was = was
submitted_at-set (first ∷ rest) (suc at) position (suc k) submitted was = submitted_at-set rest at position k submitted was

-- a position that waits leaves the first gap where it is, or is it
pub IsLowestOpen-push : (positions : List Position) (position : Position) (gap : ℕ) → position.submitted ≡ false → IsLowestOpen positions gap
    → IsLowestOpen (positions ++ position ∷ []) gap
IsLowestOpen-push positions position gap waits lowest = record {
  below = λ k under. let within : k < length positions = omega (arith, lowest.bound) in submitted_at-push positions position k within ∙ lowest.below k under;
  bound = omega (arith, lowest.bound, length-append positions (position ∷ []));
  waits = λ within. elim (cases_lt gap (length positions)) [
    | inl before ↦ submitted_at-push positions position gap before ∙ lowest.waits before
    | inr past ↦ submitted_at-pushed positions position gap (omega (arith, lowest.bound)) ∙ ap Some waits
  ];
}

-- one that is submitted leaves those before the gap as they were
pub IsSubmittedBelow-set : (positions : List Position) (at : ℕ) (position : Position) (gap : ℕ) → position.submitted ≡ true → IsSubmittedBelow positions gap
    → IsSubmittedBelow (set positions at position) gap
IsSubmittedBelow-set positions at position gap submitted below k under = submitted_at-set positions at position k submitted (below k under)

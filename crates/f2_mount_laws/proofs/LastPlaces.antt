-- The last block of a node before a place of a log, where there is one.
use Rattle.std.proofs.Common.{◌≡◌, ℕ, zero, suc, ◌+◌, ◌<◌, Bool, true, false, cond, IsTrue, List, refl, ap, ◌∙◌, arith}
use Rattle.std.specs.Prelude.{Option, Some, None}
use native.Mathlib.Decide.{ℕ_discrete}
use Rattle.f2_image.specs.Chains.{Logged, block_in, is_node_of, last_before}
use Rattle.f2_mount_laws.specs.Taken.{IsLastBlock}

module _ (log : List Logged) (ino offset : ℕ) where
  abbrev test : ℕ → Bool
  test place = is_node_of (block_in log place) ino offset

  data LastBelow (n : ℕ) : Type 0 where
    one : (at : ℕ) → at < n → IsTrue (test at) → ((later : ℕ) → at < later → later < n → test later ≡ false) → LastBelow n
    nowhere : last_before log n ino offset ≡ None → LastBelow n

  abbrev step : ℕ → Bool → Option (List ℕ)
  step n b = cond b (Some (block_in log n)) (last_before log n ino offset)

  one_more : (n : ℕ) → LastBelow n → (b : Bool) → test n ≡ b → LastBelow (suc n)
  one_more n before true e = one n (omega arith) e (λ later past less. absurd (omega (arith, past, less)))
  one_more n (nowhere none) false e = nowhere (ap (step n) e ∙ none)
  one_more n (one at small own last) false e = one at (omega (arith, small)) own (λ later past less. by_place later past less (ℕ_discrete later n))
    where
      by_place : (later : ℕ) → at < later → later < suc n → Dec (later ≡ n) → test later ≡ false
      by_place later past less (yes same) = ap test same ∙ e
      by_place later past less (no other) = last later past (omega (arith, less, other))

  below : (n : ℕ) → LastBelow n
  below zero = nowhere refl
  below (suc n) = one_more n (below n) (test n) refl

-- up to a place
pub data LastBlock (log : List Logged) (place ino offset : ℕ) : Type 0 where
  found : (at : ℕ) → IsLastBlock log place ino offset at → LastBlock log place ino offset
  none : last_before log (place + 1) ino offset ≡ None → LastBlock log place ino offset

from_below : (log : List Logged) (place ino offset : ℕ) → LastBelow log ino offset (place + 1) → LastBlock log place ino offset
from_below log place ino offset (one at small own last) = found at (record { before = omega (arith, small); own = own; last = λ later past less. last later past (omega (arith, less)) })
from_below log place ino offset (nowhere is) = none is

pub last_block : (log : List Logged) (place ino offset : ℕ) → LastBlock log place ino offset
last_block log place ino offset = from_below log place ino offset (below log ino offset (place + 1))

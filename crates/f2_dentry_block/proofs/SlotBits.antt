-- The bits of slots, once some of them were made 1.
use Rattle.std.proofs.Common.{◌≡◌, ◌≢◌, ℕ, zero, suc, max, ◌+◌, ◌*◌, ◌/◌, ◌%◌, ◌^◌, ◌<◌, ◌≤◌, true, eqb, List, length, get_or, refl, ap, ◌∙◌, inl, inr, ◌⊎◌, arith, sym}
use Rattle.std.specs.Prelude.{bit_or}
use Rattle.std.specs.Int.{bit_at}
use Rattle.std.proofs.lemmas.Bool.{cases_eq}
use Rattle.std.proofs.lemmas.List.{get_or-set_same, get_or-set_other, length-set}
use Rattle.std.proofs.lemmas.Nat.Bits.{bit_at_or, bit_at-pow_same, bit_at-pow_other, bit_at-lt}
use Rattle.f2_format.specs.Dentry.{is_slot_used, with_slot_used, with_slots_used}

-- a slot that was made used is used
is_slot_used-marked : (block : List ℕ) (slot : ℕ) → slot / 8 < length block → is_slot_used (with_slot_used block slot) slot ≡ true
is_slot_used-marked block slot within =
    let byte = get_or block (slot / 8) 0 in
    let read = get_or-set_same block (slot / 8) (bit_or byte (2 ^ (slot % 8))) 0 within in
    let bit = bit_at_or byte (2 ^ (slot % 8)) (slot % 8) ∙ ap (λ (b : ℕ). max (bit_at byte (slot % 8)) b) (bit_at-pow_same (slot % 8)) in
    let small = bit_at-lt byte (slot % 8) in
    let one : max (bit_at byte (slot % 8)) 1 ≡ 1 = omega arith in
    ap (λ (x : ℕ). eqb (bit_at x (slot % 8)) 1) read ∙ ap (λ (b : ℕ). eqb b 1) (bit ∙ one)

-- every other slot stays
is_slot_used-unmarked : (block : List ℕ) (slot other : ℕ) → slot / 8 < length block → other ≢ slot → is_slot_used (with_slot_used block slot) other ≡ is_slot_used block other
is_slot_used-unmarked block slot other within apart =
    let byte = get_or block (slot / 8) 0 in
    elim (cases_eq (other / 8) (slot / 8)) [
      | inl same ↦
          let differ : other % 8 ≢ slot % 8 = omega arith in
          let read : get_or (with_slot_used block slot) (other / 8) 0 ≡ bit_or byte (2 ^ (slot % 8)) =
          ap (λ (i : ℕ). get_or (with_slot_used block slot) i 0) same ∙ get_or-set_same block (slot / 8) (bit_or byte (2 ^ (slot % 8))) 0 within in
          let bit = bit_at_or byte (2 ^ (slot % 8)) (other % 8) in
          let none = bit_at-pow_other (slot % 8) (other % 8) differ in
          let stays : bit_at (bit_or byte (2 ^ (slot % 8))) (other % 8) ≡ bit_at byte (other % 8) = omega arith in
          ap (λ (x : ℕ). eqb (bit_at x (other % 8)) 1) read
          ∙ ap (λ (b : ℕ). eqb b 1) stays
          ∙ ap (λ (i : ℕ). eqb (bit_at (get_or block i 0) (other % 8)) 1) (sym same)
      | inr differ ↦
          let elsewhere : other / 8 ≢ slot / 8 = differ in
          ap (λ (x : ℕ). eqb (bit_at x (other % 8)) 1) (get_or-set_other block (slot / 8) (other / 8) (bit_or byte (2 ^ (slot % 8))) 0 elsewhere)
    ]

-- the block keeps its length
pub length-with_slots_used : (block : List ℕ) (slot n : ℕ) → length (with_slots_used block slot n) ≡ length block
length-with_slots_used block slot zero = refl
length-with_slots_used block slot (suc n) =
    length-with_slots_used (with_slot_used block slot) (slot + 1) n
    ∙ length-set block (slot / 8) (bit_or (get_or block (slot / 8) 0) (2 ^ (slot % 8)))

-- slots elsewhere stay
pub is_slot_used-outside : (block : List ℕ) (slot n other : ℕ) → slot + n ≤ 8 * length block → (other < slot) ⊎ (slot + n ≤ other)
    → is_slot_used (with_slots_used block slot n) other ≡ is_slot_used block other
is_slot_used-outside block slot zero other fits apart = refl
is_slot_used-outside block slot (suc n) other fits apart =
    let long = length-set block (slot / 8) (bit_or (get_or block (slot / 8) 0) (2 ^ (slot % 8))) in
    let differ : other ≢ slot = elim apart [ inl before ↦ omega arith | inr past ↦ omega arith ] in
    let still : (other < slot + 1) ⊎ (slot + 1 + n ≤ other) = elim apart [ inl before ↦ inl (omega arith) | inr past ↦ inr (omega arith) ] in
    is_slot_used-outside (with_slot_used block slot) (slot + 1) n other (omega arith) still
    ∙ is_slot_used-unmarked block slot other (omega arith) differ

-- the slots that were made used are used
pub is_slot_used-inside : (block : List ℕ) (slot n k : ℕ) → slot + n ≤ 8 * length block → slot ≤ k → k < slot + n → is_slot_used (with_slots_used block slot n) k ≡ true
is_slot_used-inside block slot zero k fits low high = absurd (omega arith)
is_slot_used-inside block slot (suc n) k fits low high =
    let long = length-set block (slot / 8) (bit_or (get_or block (slot / 8) 0) (2 ^ (slot % 8))) in
    elim (cases_eq k slot) [
      | inl same ↦
          let before : k < slot + 1 = omega arith in
          is_slot_used-outside (with_slot_used block slot) (slot + 1) n k (omega arith) (inl before)
          ∙ ap (is_slot_used (with_slot_used block slot)) same
          ∙ is_slot_used-marked block slot (omega arith)
      | inr differ ↦ is_slot_used-inside (with_slot_used block slot) (slot + 1) n k (omega arith) (omega arith) (omega arith)
    ]

-- bytes that have none of these slots' bits stay
pub get_or-with_slots_used : (block : List ℕ) (slot n k : ℕ) → slot + n ≤ 8 * k → get_or (with_slots_used block slot n) k 0 ≡ get_or block k 0
get_or-with_slots_used block slot zero k past = refl
get_or-with_slots_used block slot (suc n) k past =
    let elsewhere : k ≢ slot / 8 = omega arith in
    get_or-with_slots_used (with_slot_used block slot) (slot + 1) n k (omega arith)
    ∙ get_or-set_other block (slot / 8) k (bit_or (get_or block (slot / 8) 0) (2 ^ (slot % 8))) 0 elsewhere

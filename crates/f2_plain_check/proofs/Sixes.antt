-- Names fill a dentry block by sixes at least.
use Rattle.std.proofs.Common.{◌≡◌, ℕ, ◌+◌, ◌*◌, ◌/◌, ◌<◌, ◌≤◌, Bool, true, false, List, [], ◌∷◌, length, refl, subst, arith}
use Rattle.std.specs.Prelude.{nat_le, if◌then◌else◌, All}
use Rattle.std.proofs.lemmas.Bool.{leb-false, lt-leb}
use Rattle.std.proofs.lemmas.List.Elements.{All-head, All-tail}
use Rattle.f2_format.specs.Packing.{Reach, SLOTS_A_BLOCK, slots_of_name, nothing_packed, place_after, place_after_all}
use Rattle.f2_plain_check.specs.Blocks.{HasNameLength, SixNamesABlock}

-- a directory is filled so far by that many names, and a block is begun
record IsFilled (reach : Reach) (names : ℕ) : Type 0 where
  some : 1 ≤ reach.1
  few : reach.1 + 192 * reach.0 ≤ 32 * names + 192

-- a name takes 1 to 32 slots
record TakesFewSlots (slots : ℕ) : Type 0 where
  some : 1 ≤ slots
  few : slots ≤ 32

few_slots : (bytes : ℕ) → 1 ≤ bytes → bytes ≤ 255 → TakesFewSlots ((bytes + 7) / 8)
few_slots bytes some few = record { some = omega arith; few = omega arith }

-- a name more, by whether it fits
filled_more : (reach : Reach) (slots names : ℕ) → IsFilled reach names → TakesFewSlots slots → IsFilled (if nat_le (reach.1 + slots) SLOTS_A_BLOCK then (reach.0, reach.1 + slots) else (reach.0 + 1, slots)) (names + 1)
filled_more reach slots names filled takes = by_room (nat_le (reach.1 + slots) SLOTS_A_BLOCK) (leb-false (reach.1 + slots) SLOTS_A_BLOCK)
  where
    by_room : (b : Bool) → (b ≡ false → 214 < reach.1 + slots) → IsFilled (if b then (reach.0, reach.1 + slots) else (reach.0 + 1, slots)) (names + 1)
    by_room true full = record { some = omega (arith, filled.some); few = omega (arith, filled.few, takes.few) }
    by_room false full =
        let over : 214 < reach.1 + slots = full refl in
        record { some = takes.some; few = omega (arith, filled.few, takes.few) }

filled_all : (reach : Reach) (done : ℕ) (names : List (List ℕ)) → IsFilled reach done → All HasNameLength names → IsFilled (place_after_all reach names) (done + length names)
filled_all reach done [] filled lengths = subst (IsFilled reach) (let same : done ≡ done + 0 = omega arith in same) filled
filled_all reach done (name ∷ names) filled lengths =
    let first = All-head HasNameLength name names lengths in
    let next = filled_more reach (slots_of_name name) done filled (few_slots (length name) first.0 first.1) in
    let all = filled_all (place_after reach name) (done + 1) names next (All-tail HasNameLength name names lengths) in
    subst (IsFilled (place_after_all reach (name ∷ names))) (let same : (done + 1) + length names ≡ done + length (name ∷ names) = omega arith in same) all

-- the first name begins a block
filled_first : (slots : ℕ) → TakesFewSlots slots → IsFilled (if nat_le (SLOTS_A_BLOCK + slots) SLOTS_A_BLOCK then (0, SLOTS_A_BLOCK + slots) else (0 + 1, slots)) 1
filled_first slots takes = by_room (nat_le (SLOTS_A_BLOCK + slots) SLOTS_A_BLOCK) (lt-leb (SLOTS_A_BLOCK + slots) SLOTS_A_BLOCK (omega (arith, takes.some)))
  where
    by_room : (b : Bool) → b ≡ false → IsFilled (if b then (0, SLOTS_A_BLOCK + slots) else (0 + 1, slots)) 1
    by_room true over = absurd (cc)
    by_room false over = record { some = takes.some; few = omega (arith, takes.few) }

few_of : (blocks slots names : ℕ) → 1 ≤ slots → slots + 192 * blocks ≤ 32 * names + 192 → blocks ≤ (names + 5) / 6
few_of blocks slots names some few = omega arith

pub six_names_a_block : SixNamesABlock
six_names_a_block [] lengths = omega arith
six_names_a_block (name ∷ names) lengths =
    let first = All-head HasNameLength name names lengths in
    let begun = filled_first (slots_of_name name) (few_slots (length name) first.0 first.1) in
    let all = filled_all (place_after nothing_packed name) 1 names begun (All-tail HasNameLength name names lengths) in
    few_of _ _ _ all.some (subst (λ n. (place_after_all (place_after nothing_packed name) names).1 + 192 * (place_after_all (place_after nothing_packed name) names).0 ≤ 32 * n + 192) (let same : 1 + length names ≡ length (name ∷ names) = omega arith in same) all.few)

-- Names fill each dentry block but the last with 183 slots at least.
use Rattle.std.proofs.Common.{◌≡◌, ℕ, ◌+◌, ◌*◌, ◌/◌, ◌<◌, ◌≤◌, Bool, true, false, List, [], ◌∷◌, length, refl, subst, arith}
use Rattle.std.specs.Prelude.{nat_le, if◌then◌else◌, All}
use Rattle.std.specs.List.{sum_by}
use Rattle.std.proofs.lemmas.Bool.{leb-false, lt-leb}
use Rattle.std.proofs.lemmas.List.Elements.{All-head, All-tail}
use Rattle.std.proofs.lemmas.List.Sums.{sum_by-cons}
use Rattle.f2_format.specs.Packing.{Reach, SLOTS_A_BLOCK, slots_of_name, nothing_packed, place_after, place_after_all, blocks_of_names}
use Rattle.f2_plain_check.specs.Blocks.{HasNameLength}

-- a directory is filled so far by names of so many slots, and a block is begun
record IsFilled (reach : Reach) (slots : ℕ) : Type 0 where
  some : 1 ≤ reach.1
  few : reach.1 + 183 * reach.0 ≤ slots + 183

-- a name takes 1 to 32 slots
pub record TakesFewSlots (slots : ℕ) : Type 0 where
  pub some : 1 ≤ slots
  pub few : slots ≤ 32

few_slots : (bytes : ℕ) → 1 ≤ bytes → bytes ≤ 255 → TakesFewSlots ((bytes + 7) / 8)
few_slots bytes some few = record { some = omega arith; few = omega arith }

pub name_slots : (name : List ℕ) → HasNameLength name → TakesFewSlots (slots_of_name name)
name_slots name size = few_slots (length name) size.0 size.1

-- a name more, by whether it fits
filled_more : (reach : Reach) (slots done : ℕ) → IsFilled reach done → TakesFewSlots slots → IsFilled (if nat_le (reach.1 + slots) SLOTS_A_BLOCK then (reach.0, reach.1 + slots) else (reach.0 + 1, slots)) (done + slots)
filled_more reach slots done filled takes = by_room (nat_le (reach.1 + slots) SLOTS_A_BLOCK) (leb-false (reach.1 + slots) SLOTS_A_BLOCK)
  where
    by_room : (b : Bool) → (b ≡ false → 214 < reach.1 + slots) → IsFilled (if b then (reach.0, reach.1 + slots) else (reach.0 + 1, slots)) (done + slots)
    by_room true full = record { some = omega (arith, filled.some); few = omega (arith, filled.few) }
    by_room false full =
        let over : 214 < reach.1 + slots = full refl in
        record { some = takes.some; few = omega (arith, filled.few, takes.few, over) }

filled_all : (reach : Reach) (done : ℕ) (names : List (List ℕ)) → IsFilled reach done → All HasNameLength names → IsFilled (place_after_all reach names) (done + sum_by slots_of_name names)
filled_all reach done [] filled lengths = subst (IsFilled reach) (let same : done ≡ done + 0 = omega arith in same) filled
filled_all reach done (name ∷ names) filled lengths =
    let next = filled_more reach (slots_of_name name) done filled (name_slots name (All-head HasNameLength name names lengths)) in
    let all = filled_all (place_after reach name) (done + slots_of_name name) names next (All-tail HasNameLength name names lengths) in
    let sum = sum_by-cons slots_of_name name names in
    subst (IsFilled (place_after_all reach (name ∷ names))) (let same : (done + slots_of_name name) + sum_by slots_of_name names ≡ done + sum_by slots_of_name (name ∷ names) = omega (arith, sum) in same) all

-- the first name begins a block
filled_first : (slots : ℕ) → TakesFewSlots slots → IsFilled (if nat_le (SLOTS_A_BLOCK + slots) SLOTS_A_BLOCK then (0, SLOTS_A_BLOCK + slots) else (0 + 1, slots)) slots
filled_first slots takes = by_room (nat_le (SLOTS_A_BLOCK + slots) SLOTS_A_BLOCK) (lt-leb (SLOTS_A_BLOCK + slots) SLOTS_A_BLOCK (omega (arith, takes.some)))
  where
    by_room : (b : Bool) → b ≡ false → IsFilled (if b then (0, SLOTS_A_BLOCK + slots) else (0 + 1, slots)) slots
    by_room true over = absurd (cc)
    by_room false over = record { some = takes.some; few = omega arith }

few_of : (blocks last slots : ℕ) → 1 ≤ last → last + 183 * blocks ≤ slots + 183 → blocks ≤ (slots + 182) / 183
few_of blocks last slots some few = omega arith

pub slots_fill_blocks : (names : List (List ℕ)) → All HasNameLength names → blocks_of_names names ≤ (sum_by slots_of_name names + 182) / 183
slots_fill_blocks [] lengths = omega arith
slots_fill_blocks (name ∷ names) lengths =
    let begun = filled_first (slots_of_name name) (name_slots name (All-head HasNameLength name names lengths)) in
    let all = filled_all (place_after nothing_packed name) (slots_of_name name) names begun (All-tail HasNameLength name names lengths) in
    let sum = sum_by-cons slots_of_name name names in
    few_of _ _ _ all.some (let few = all.few in omega (arith, sum, few))

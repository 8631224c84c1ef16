-- The dentries of a block in the order of their slots.
use Rattle.std.proofs.Common.{◌≡◌, ℕ, ◌<◌, true, List, arith}
use Rattle.std.specs.Prelude.{Some}
use Rattle.std.specs.List.{filter, slice_get}
use Rattle.f2_format.specs.Packing.{SLOTS_A_BLOCK}
use Rattle.f2_format.specs.Dentry.{Dentry, dentry_at, begins_name, all_slots, dentries_of}
use Rattle.f2_place_laws.proofs.Lists.{IsIn, in_filter, from_filter, in_range, from_range, in_list, place_in, map_at, from_map_at}

-- the slots of a block in which names begin
abbrev pub begun : List ℕ → List ℕ
begun block = filter (begins_name block) all_slots

in_slots : (slot : ℕ) → slot < SLOTS_A_BLOCK → IsIn slot all_slots
unfolding all_slots
in_slots slot within = in_range 0 SLOTS_A_BLOCK slot (omega arith) (omega (arith, within))

from_slots : (slot : ℕ) → IsIn slot all_slots → slot < SLOTS_A_BLOCK
unfolding all_slots
from_slots slot there = let found = from_range 0 SLOTS_A_BLOCK slot there in omega (arith, found.1)

-- a dentry of a place has a slot
pub record HasSlot (block : List ℕ) (place : ℕ) (dentry : Dentry) : Type 0 where
  pub slot : ℕ
  pub at : slice_get (begun block) place ≡ Some slot
  pub within : slot < SLOTS_A_BLOCK
  pub begins : begins_name block slot ≡ true
  pub is : dentry_at block slot ≡ dentry

pub slot_of : (block : List ℕ) (place : ℕ) (dentry : Dentry) → slice_get (dentries_of block) place ≡ Some dentry → HasSlot block place dentry
slot_of block place dentry there =
    let found = from_map_at (dentry_at block) (begun block) place dentry there in
    let passes = from_filter (begins_name block) found.0 all_slots (in_list (begun block) place found.0 found.1) in
    record { slot = found.0; at = found.1; within = from_slots found.0 passes.1; begins = passes.0; is = found.2 }

-- and a slot in which a name begins has a place
pub place_of : (block : List ℕ) (slot : ℕ) → slot < SLOTS_A_BLOCK → begins_name block slot ≡ true → (place : ℕ) × (slice_get (begun block) place ≡ Some slot)
place_of block slot within begins = place_in (begun block) slot (in_filter (begins_name block) slot all_slots begins (in_slots slot within))

pub dentry_of : (block : List ℕ) (slot place : ℕ) → slice_get (begun block) place ≡ Some slot → slice_get (dentries_of block) place ≡ Some (dentry_at block slot)
dentry_of block slot place there = map_at (dentry_at block) (begun block) place slot there

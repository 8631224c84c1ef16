-- The numbers that a disk shows beside what it holds, and what a run of calls may do to them.
use Rattle.std.specs.Prelude.{◌≡◌, ℕ, ◌+◌, ◌≤◌, Bool, false}
use Rattle.f2_disk.specs.Faults.{Rose}

-- a disk's numbers
pub record Meter : Type 0 where
  -- how many blocks it has
  pub blocks : ℕ
  -- how many of its calls have failed
  pub faults : ℕ
  -- how many failures are planned
  pub left : ℕ
  -- whether a stop is planned or stands
  pub stopped : Bool
  -- for how many writes it has room
  pub spare : ℕ

-- a call of the disk failed in between
abbrev pub HasFailed : Meter → Meter → Type 0
HasFailed old new = Rose old.faults new.faults

-- What calls of a disk may do that make this many writes at most. A product that plans no failure and no stop,
-- and has room for its writes, so meets no fault.
pub record IsWithin (writes : ℕ) (old new : Meter) : Type 0 where
  pub same_blocks : new.blocks ≡ old.blocks
  pub later : old.faults ≤ new.faults
  pub not_stopped : old.stopped ≡ false → new.stopped ≡ false
  pub room : old.spare ≤ new.spare + writes
  pub no_fault : old.stopped ≡ false → writes ≤ old.spare → new.left + new.faults ≤ old.left + old.faults

-- the same numbers, but that there may be room for more writes
pub record HasMoreRoom (old new : Meter) : Type 0 where
  pub same_blocks : new.blocks ≡ old.blocks
  pub same_faults : new.faults ≡ old.faults
  pub same_left : new.left ≡ old.left
  pub same_stopped : new.stopped ≡ old.stopped
  pub room : old.spare ≤ new.spare

-- the numbers after plans and stop were forgotten, on a disk of this many blocks
pub record IsCalm (blocks : ℕ) (old new : Meter) : Type 0 where
  pub size : new.blocks ≡ blocks
  pub same_faults : new.faults ≡ old.faults
  pub none_left : new.left ≡ 0
  pub not_stopped : new.stopped ≡ false
  pub room : old.spare ≤ new.spare

-- the same numbers, but that one more failure may be planned
pub record MayPlanOne (old new : Meter) : Type 0 where
  pub same_blocks : new.blocks ≡ old.blocks
  pub same_faults : new.faults ≡ old.faults
  pub same_stopped : new.stopped ≡ old.stopped
  pub same_room : new.spare ≡ old.spare
  pub one_more : new.left ≤ old.left + 1

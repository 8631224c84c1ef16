-- What calls of a disk do, in words that all layers above it share. `contents` and `meter` are what a disk shows.
use Rattle.std.specs.Prelude.{◌≡◌, ℕ, length, Option, Result, Err}
use Rattle.f2_disk.specs.Contents.{Contents, WhereTold}
use Rattle.f2_disk.specs.Meter.{Meter, HasFailed, IsWithin}

-- Calls that only read: nothing is written, so what the disk holds stays; its count of faults never falls, and a
-- product that plans no stop meets no fault but those planned.
pub record OnlyReads {D : Type 0} (contents : D → Option Contents) (meter : D → Meter) (old new : D) : Type 0 where
  pub kept : contents new ≡ contents old
  pub within : IsWithin 0 (meter old) (meter new)

-- as many blocks as before
abbrev pub HasAsMany : Contents → Contents → Type 0
HasAsMany before after = length after ≡ length before

-- Calls that make this many writes at most: the disk has its blocks still, and a product that has room for the writes
-- and plans no stop meets no fault but those planned.
pub record WritesAtMost {D : Type 0} (writes : ℕ) (contents : D → Option Contents) (meter : D → Meter) (old new : D) : Type 0 where
  pub told : WhereTold (contents old) (contents new) HasAsMany
  pub within : IsWithin writes (meter old) (meter new)

-- Calls that give this fault only where a call of the disk failed.
abbrev pub IsCaused : {T E D : Type 0} → E → Result T E → (D → Meter) → D → D → Type 0
IsCaused fault result meter old new = result ≡ Err fault → HasFailed (meter old) (meter new)

-- An image file as a disk.
use Rattle.std.specs.Prelude.{ℕ, Bool, true, if◌then◌else◌}
use Rattle.f2_disk.specs.Faults.{one_more}
use Rattle.f2_disk.specs.Meter.{Meter}

-- whether its file is open, how many whole blocks that had when it was opened, and how many calls have failed
pub record FileState : Type 0 where
  pub is_open : Bool
  pub blocks : ℕ
  pub faults : ℕ

-- The numbers that it shows. Any of its calls may fail, so it stands as a disk that is stopped.
abbrev pub meter_of : FileState → Meter
meter_of disk = record { blocks = disk.blocks; faults = disk.faults; left = 0; stopped = true; spare = 0 }

-- after a call that failed or not
abbrev pub after_call : Bool → FileState → FileState
after_call failed disk = record disk { faults = if failed then one_more disk.faults else disk.faults }

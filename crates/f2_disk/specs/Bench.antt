-- A bench in memory.
use Rattle.std.specs.Prelude.{ℕ, Bool, ◌||◌, ◌==◌, ◌-◌, ◌++◌, [], ◌∷◌, List, length, is_some, if◌then◌else◌, slice_set}
use Rattle.f2_disk.specs.Contents.{Contents, list_at}
use Rattle.f2_disk.specs.Meter.{Meter}
use Rattle.f2_disk.specs.Plans.{Plans, left_of, is_due, after_call, answered}
use Rattle.f2_disk.specs.declared.bench.CallKind.TheVariants.{Write}

-- what it holds, for how many writes it has room, and what is planned
pub record BenchState : Type 0 where
  pub lists : Contents
  pub spare : ℕ
  pub plans : Plans

-- the numbers that it shows
abbrev pub meter_of : BenchState → Meter
meter_of bench = record {
  blocks = length bench.lists;
  faults = bench.plans.faults;
  left = left_of bench.plans;
  stopped = is_some bench.plans.stop;
  spare = bench.spare;
}

-- a write of it fails where its plan or the stop is due, or where there is no room
abbrev pub write_fails : BenchState → Bool
write_fails bench = is_due Write bench.plans || (bench.spare == 0)

-- after a write: where there was room, the content stands last in its block's list, whether the write failed or not
abbrev pub after_write : ℕ → List ℕ → BenchState → BenchState
after_write at content bench = record {
  lists = if bench.spare == 0 then bench.lists else slice_set bench.lists at (list_at bench.lists at ++ content ∷ []);
  spare = bench.spare - 1;
  plans = answered (write_fails bench) (after_call Write bench.plans);
}

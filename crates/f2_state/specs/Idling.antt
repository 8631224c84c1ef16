-- Events of a seat's call that ask nothing of the disk.
use Rattle.std.specs.Prelude.{◌≡◌, ℕ, false, Option, None, Some}
use Rattle.std.specs.FinMap as map
use Rattle.f2_laws.specs.Flights.{Flights}
use Rattle.f2_model.specs.State.{Part, InPages, InNodes, Marked, Slot, Flight, InFsync, InCheck}
use Rattle.f2_model.specs.Step.{is_shut}
use Rattle.f2_state.specs.Flushing.{gap_among}
use Rattle.f2_state.specs.Seen.{Seen}

-- the position that a call waits for before it goes on: an fsync whose mark is written waits for the least open one below the mark's
abbrev pub waited_for : Flights → Flight → Option ℕ
waited_for flights (InFsync ino progress) = by_part progress.part progress.slot
  where
    by_part : Part → Option Slot → Option ℕ
    by_part Marked None = gap_among flights progress.position
    by_part Marked (Some slot) = None
    by_part InPages slot = None
    by_part InNodes slot = None
waited_for flights (InCheck plan) = None

-- a seat has a call in flight on a volume that isn't closed, and it waits for nothing: its next event draws, writes or flushes
pub record AsksMore {D : Type 0} (volume : Seen D) (seat : ℕ) : Type 0 where
  pub flight : Flight
  pub in_flight : map.get volume.files.flights seat ≡ Some flight
  pub not_shut : is_shut volume.mode ≡ false
  pub waits_for_none : waited_for volume.files.flights flight ≡ None

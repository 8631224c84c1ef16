-- How many marks were written with all that stands before them in the node log.
use Rattle.std.specs.Prelude.{ℕ, min, Bool, true, false, ◌&&◌, ◌||◌, length, is_some, Option, None}
use Rattle.std.specs.Bool.{then_some}
use Rattle.std.specs.List.{fold, filter_map}
use Rattle.std.specs.FinMap as map
use Rattle.f2_model.specs.State.{State, Part, Marked, Flight, InFsync, InCheck}
use Rattle.f2_model.specs.Step.{gap_below}

-- whether an fsync drew its mark
abbrev pub is_marked : Part → Bool
is_marked Marked = true
is_marked _ = false

-- the place of a mark that isn't written, or has to wait for a block before it
abbrev pub lost_place : State → Flight → Option ℕ
lost_place state (InFsync ino progress) =
    then_some (is_marked progress.part && (is_some progress.slot || is_some (gap_below state progress.position))) progress.place
lost_place state (InCheck plan) = None

-- the place up to which each mark was written, with everything before it
abbrev pub written_place : State → ℕ
written_place state = fold min (length state.marks) (filter_map (lost_place state) (map.values state.flights))

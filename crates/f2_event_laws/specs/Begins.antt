-- The beginning of an fsync, and what a running volume keeps whatever else changes of the machine's state.
use Rattle.std.specs.Prelude.{◌≡◌, ℕ, false, Some, None}
use Rattle.std.specs.FinMap as map
use Rattle.std.specs.FinSet as set
use Rattle.f2_disk.specs.Contents.{Contents}
use Rattle.f2_model.specs.State.{State, Progress, InFsync, fresh_progress}
use Rattle.f2_model.specs.Begins.{checking}
use Rattle.f2_model.specs.Goes.{with_progress}
use Rattle.f2_model.specs.declared.rows.Row.{Row}
use Rattle.f2_model.specs.declared.rows.Kind.TheVariants.{Regular}
use Rattle.f2_model.specs.declared.replies.Plan.{Plan}
use Rattle.f2_stored.specs.Places.{Places}
use Rattle.f2_stored.specs.Trees.{Unwritten}
use Rattle.f2_stored.specs.Layout.{Layout}
use Rattle.f2_stored.specs.Kept.{IsKept}
use Rattle.f2_stored.specs.Whole.{IsKeptWhole}

-- an fsync of a file that lost no direct node since the base begins from a seat with no call in flight; two fsyncs of one file at a time would
-- break it
abbrev pub BegunFsyncsKeep : Type 0
BegunFsyncsKeep =
    (lists : Contents) (layout : Layout) (state : State) (places : Places) (unwritten : Unwritten) (seat ino : ℕ) (row : Row) →
    IsKeptWhole lists layout state places unwritten →
    map.get state.flights seat ≡ None →
    ((other : ℕ) (progress : Progress) → ¬ (map.get state.flights other ≡ Some (InFsync ino progress))) →
    map.get state.live ino ≡ Some row →
    row.kind ≡ Regular →
    set.contains state.shrunk ino ≡ false →
    IsKeptWhole lists layout (with_progress state seat ino fresh_progress) places unwritten

-- a state with the flights and the counts of another one: what is kept between two checkpoints doesn't read them, nor which files were moved, the
-- mode, or the format that a checkpoint in flight writes
abbrev pub with_rest : State → State → State
with_rest state rest = record state {
  flights = rest.flights;
  moved = rest.moved;
  mode = rest.mode;
  next_format = rest.next_format;
  data_writes = rest.data_writes;
  entries = rest.entries;
}

-- two states have the same fsyncs in flight
pub record HaveSameFsyncs (state rest : State) : Type 0 where
  pub there : (seat ino : ℕ) (progress : Progress) → map.get state.flights seat ≡ Some (InFsync ino progress) → map.get rest.flights seat ≡ Some (InFsync ino progress)
  pub back : (seat ino : ℕ) (progress : Progress) → map.get rest.flights seat ≡ Some (InFsync ino progress) → map.get state.flights seat ≡ Some (InFsync ino progress)

-- of calls in flight only fsyncs count; a volume that forgot one with a position open would break it
abbrev pub RestCountsForNothing : Type 0
RestCountsForNothing =
    (lists : Contents) (layout : Layout) (state rest : State) (places : Places) (unwritten : Unwritten) →
    HaveSameFsyncs state rest →
    (IsKept lists layout state places unwritten → IsKept lists layout (with_rest state rest) places unwritten)
    × (IsKeptWhole lists layout state places unwritten → IsKeptWhole lists layout (with_rest state rest) places unwritten)

-- so the count of entries of the history counts for nothing, by which refused calls and those that only look change the state; a look that moved
-- what an fsync has open would break it
abbrev pub EntriesCountForNothing : Type 0
EntriesCountForNothing =
    (lists : Contents) (layout : Layout) (state : State) (places : Places) (unwritten : Unwritten) (entries : ℕ) →
    IsKeptWhole lists layout state places unwritten →
    IsKeptWhole lists layout (record state { entries = entries }) places unwritten

-- and a checkpoint that begins; from a seat with an fsync in flight it would break it
abbrev pub BegunChecksCountForNothing : Type 0
BegunChecksCountForNothing =
    (lists : Contents) (layout : Layout) (state : State) (places : Places) (unwritten : Unwritten) (seat : ℕ) (plan : Plan) →
    IsKeptWhole lists layout state places unwritten →
    map.get state.flights seat ≡ None →
    IsKeptWhole lists layout (checking state seat plan) places unwritten

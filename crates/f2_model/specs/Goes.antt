-- One event of a call in flight: an fsync's writes and flushes (f2fs_do_sync_file and f2fs_fsync_node_pages of fs/f2fs/file.c and
-- node.c), and a checkpoint's (do_checkpoint of fs/f2fs/checkpoint.c).
use Rattle.std.specs.Prelude.{◌≡◌, ℕ, ◌+◌, max, Bool, true, false, not, ◌&&◌, nat_lt, if◌then◌else◌, ◌==◌, ◌⊎◌, [], ◌∷◌, ◌++◌, length, is_none}
use Rattle.std.specs.Prelude.{Option, Some, None, MatchOption}
use Rattle.std.specs.Bool.{MatchBool}
use Rattle.std.specs.List.{find, filter, filter_map}
use Rattle.std.specs.FinMap as map
use Rattle.std.specs.FinSet as set
use Rattle.f2_model.specs.Lists.{least_number}
use Rattle.f2_model.specs.Rising.{rising}
use Rattle.f2_model.specs.Tree.{Rows}
use Rattle.f2_model.specs.State.{State, Part, InPages, InNodes, Marked, Drawn, DrawnNode, DrawnMark, Slot, Progress, in_nodes, marked_at, Flight, InFsync, InCheck, Pairs}
use Rattle.f2_model.specs.Turns.{Faults, Turn, MOUNT_SEAT, WhereSome, Writes, Flushes, turn_with, unchanged, without_call, is_up, is_shut, step_failed}
use Rattle.f2_model.specs.declared.modes.Format.{Format}
use Rattle.f2_model.specs.declared.modes.Mode.{Mode}
use Rattle.f2_model.specs.declared.modes.Mode.TheVariants.{Shut, Up}
use Rattle.f2_model.specs.declared.rows.Row.{Row}
use Rattle.f2_model.specs.declared.replies.Plan.{Plan}
use Rattle.f2_model.specs.declared.replies.Plan.TheVariants as plan
use Rattle.f2_model.specs.declared.replies.Step as step_type
use Rattle.f2_model.specs.declared.replies.Step.TheVariants as step
use Rattle.f2_model.specs.declared.replies.Reply.{Reply}
use Rattle.f2_model.specs.declared.replies.Reply.TheVariants as reply
use Rattle.f2_model.specs.declared.events.Answer.TheVariants.{Stepped}
use Rattle.f2_model.specs.declared.histories.Entry.TheVariants as entry

-- the least page, or direct node, of a file that is dirty
abbrev pub second_of : Option (ℕ × ℕ) → Option ℕ
second_of None = None
second_of (Some pair) = Some pair.1

abbrev pub least_of : Pairs → ℕ → Option ℕ
least_of pairs ino = second_of (find (λ pair. pair.0 == ino) (rising pairs))

-- the state after a page was written, and after a direct node got a position of the node log
abbrev pub page_written : State → ℕ → ℕ → State
page_written state ino page = record state { dirty_pages = set.remove state.dirty_pages (ino, page); data_writes = state.data_writes + 1 }

abbrev pub node_logged : State → ℕ → ℕ → State
node_logged state ino offset =
    record state { dirty_nodes = set.remove state.dirty_nodes (ino, offset); node_writes = state.node_writes + 1; logged = set.insert state.logged ino }

-- the state in which a seat's fsync has done so much
abbrev pub with_progress : State → ℕ → ℕ → Progress → State
with_progress state seat ino progress = record state { flights = map.insert state.flights seat (InFsync ino progress) }

-- the next position of the node log, with what is to be written there
abbrev pub next_slot : State → Drawn → Slot
next_slot state drawn = record { position = state.node_writes; drawn = drawn }

-- a direct node is given the next position, and takes its content there
abbrev pub node_drawn : State → ℕ → ℕ → ℕ → Turn
node_drawn state seat ino offset =
    turn_with (Stepped (step.Slot state.node_writes)) (entry.WroteNode ino offset ∷ []) []
    (with_progress (node_logged state ino offset) seat ino (in_nodes (Some (next_slot state (DrawnNode offset)))))

-- the marked inode of a file is given the next position: its row joins the marks
abbrev pub mark_drawn : State → ℕ → ℕ → Row → Turn
mark_drawn state seat ino row =
    turn_with (Stepped (step.Slot state.node_writes)) (entry.Mark seat ino ∷ []) [] (
    let after = with_progress state seat ino (marked_at (length state.marks) state.node_writes (Some (next_slot state DrawnMark))) in
    record after { marks = state.marks ++ record { ino = ino; row = row } ∷ []; node_writes = state.node_writes + 1; logged = set.insert state.logged ino })

-- the step that writes what was drawn
abbrev pub step_of : Drawn → step_type.Step
step_of (DrawnNode offset) = step.Node offset
step_of DrawnMark = step.Mark

-- the block at an open position is written, and the position isn't open any more
abbrev pub Submits : Faults → State → ℕ → ℕ → Progress → Slot → Turn → Type 0
Submits faults state seat ino progress slot turn =
    Writes faults seat step_failed (turn_with (Stepped (step_of slot.drawn)) [] [] (with_progress state seat ino (record progress { slot = None }))) turn

-- the position that a seat's call has open
abbrev pub open_of : Flight → Option Slot
open_of (InFsync ino progress) = progress.slot
open_of (InCheck plan) = None

abbrev pub open_position : Flight → Option ℕ
open_position flight = position_of (open_of flight)
  where
    position_of : Option Slot → Option ℕ
    position_of None = None
    position_of (Some slot) = Some slot.position

-- the least open position below another one
abbrev pub gap_below : State → ℕ → Option ℕ
gap_below state position = least_number (filter (λ open_one. nat_lt open_one position) (filter_map open_position (map.values state.flights)))

-- the last flush of an fsync: every mark up to its own is acknowledged
abbrev pub acknowledges : State → ℕ → ℕ → Progress → Turn
acknowledges state seat ino progress =
    turn_with (Stepped (step.Replied reply.Roll)) (entry.Ack seat ino ∷ []) [] (record (without_call state seat) { acknowledged = max state.acknowledged (progress.place + 1) })

-- one event of an fsync that has no position open: pages and then a flush, nodes and then the mark, and the last flush, which waits
-- for every position below the mark
abbrev pub StepPart : Faults → State → ℕ → ℕ → Progress → Part → Turn → Type 0
StepPart faults state seat ino progress InPages turn =
    WhereSome (least_of state.dirty_pages ino)
    (λ page. Writes faults seat step_failed (turn_with (Stepped (step.Page page)) (entry.WrotePage ino page ∷ []) [] (page_written state ino page)) turn)
    (Flushes faults state seat step_failed (turn_with (Stepped step.Flushed) (entry.Flushed seat ∷ []) [] (with_progress state seat ino (in_nodes None))) turn)
StepPart faults state seat ino progress InNodes turn =
    WhereSome (least_of state.dirty_nodes ino) (λ offset. turn ≡ node_drawn state seat ino offset)
    (WhereSome (map.get state.live ino) (λ row. turn ≡ mark_drawn state seat ino row) ⊥)
StepPart faults state seat ino progress Marked turn =
    WhereSome (gap_below state progress.position) (λ position. turn ≡ unchanged state (Stepped (step.Again position)))
    (Flushes faults state seat step_failed (acknowledges state seat ino progress) turn)

-- one event of an fsync
abbrev pub StepFsync : Faults → State → ℕ → ℕ → Progress → Turn → Type 0
StepFsync faults state seat ino progress turn =
    WhereSome progress.slot (λ slot. Submits faults state seat ino progress slot turn)
    (StepPart faults state seat ino progress progress.part turn)

-- the reply at the end of a checkpoint
abbrev pub reply_of_plan : Plan → Reply
reply_of_plan (plan.Cp reason) = reply.Cp reason
reply_of_plan _ = reply.Synced

-- the state in which a tree is the base, by a checkpoint of a format and a version, and nothing was written since
abbrev pub with_base : State → Rows → Format → ℕ → Mode → State
with_base state tree format version mode = record state {
  live = tree;
  base = tree;
  marks = [];
  acknowledged = 0;
  pending = None;
  format = format;
  version = version;
  next_format = format;
  mode = mode;
  dirty_pages = set.empty;
  dirty_nodes = set.empty;
  moved = set.empty;
  shrunk = set.empty;
  logged = set.empty;
  node_writes = 0;
  data_writes = 0;
}

-- whether a checkpoint is an unmount's or an upgrade's: the mount's seat makes it, and the volume was open
abbrev pub is_unmount : State → ℕ → Bool
is_unmount state seat = is_up state.mode && (seat == MOUNT_SEAT)

-- the last flush of a checkpoint
abbrev pub completes : State → ℕ → Plan → Turn
completes state seat plan =
    turn_with (Stepped (step.Replied (reply_of_plan plan)))
    (if is_unmount state seat then (entry.CpDone seat ∷ entry.Unmounted ∷ []) else (entry.CpDone seat ∷ [])) []
    (without_call (with_base state state.live state.next_format (state.version + 1) (if is_unmount state seat then Shut else Up)) seat)

-- a checkpoint writes a block, or makes its first flush
abbrev pub WritesBlock : Faults → State → ℕ → Turn → Type 0
WritesBlock faults state seat turn =
    let meant = unchanged state (Stepped step.Block) in
    Writes faults seat step_failed meant turn ⊎ Flushes faults state seat step_failed meant turn

-- a checkpoint writes its tail
abbrev pub WritesTail : Faults → State → ℕ → Turn → Type 0
WritesTail faults state seat turn =
    Writes faults seat step_failed (turn_with (Stepped step.Tail) (entry.CpTail seat ∷ []) [] (record state { pending = Some state.live })) turn

-- one event of a checkpoint: before its tail it writes blocks and makes a flush, then its tail; after it the last flush
abbrev pub StepCheck : Faults → State → ℕ → Plan → Turn → Type 0
StepCheck faults state seat plan turn =
    WhereSome state.pending (λ tree. Flushes faults state seat step_failed (completes state seat plan) turn)
    (WritesBlock faults state seat turn ⊎ WritesTail faults state seat turn)

-- one event of a call in flight
abbrev pub StepFlight : Faults → State → ℕ → Flight → Turn → Type 0
StepFlight faults state seat (InFsync ino progress) turn = StepFsync faults state seat ino progress turn
StepFlight faults state seat (InCheck plan) turn = StepCheck faults state seat plan turn

-- one event of a seat's call
abbrev pub StepGo : Faults → State → ℕ → Turn → Type 0
StepGo faults state seat turn =
    MatchOption (map.get state.flights seat)
    (turn ≡ unchanged state (Stepped step.None))
    (λ flight.
    MatchBool (is_shut state.mode)
    (turn ≡ turn_with (Stepped (step.Replied reply.Closed)) [] [] (without_call state seat))
    (StepFlight faults state seat flight turn))

-- whether the next event of a seat's call draws a position of the node log
abbrev pub draws : Progress → Bool
draws progress = in_part progress.part && is_none progress.slot
  where
    in_part : Part → Bool
    in_part InNodes = true
    in_part _ = false

abbrev pub draws_next : State → ℕ → Bool
draws_next state seat = not (is_shut state.mode) && in_flight (map.get state.flights seat)
  where
    in_flight : Option Flight → Bool
    in_flight (Some (InFsync ino progress)) = draws progress
    in_flight _ = false

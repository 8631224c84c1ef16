-- One event of the abstract machine: from which states it may come to what. The tables of the events stand in modules of their own,
-- each row before the next one that it keeps off.
use Rattle.std.specs.Prelude.{◌≡◌, ◌⊎◌}
use Rattle.f2_model.specs.Call.{Limits}
use Rattle.f2_model.specs.State.{State}
use Rattle.f2_model.specs.declared.replies.Reply.TheVariants as reply
use Rattle.f2_model.specs.declared.events.Event.{Event}
use Rattle.f2_model.specs.declared.events.Event.TheVariants.{Begin, Go, Tick, Mount, Unmount, Upgrade, Crash}
pub use Rattle.f2_model.specs.Turns.{Faults, calm, HasRisen, Turn, MOST_ENTRIES, MOUNT_SEAT, NO_SEAT, IsSeat, is_up, is_shut, turn_with, unchanged, without_call, closed_by_fault, Writes, Flushes, outcome_of, replied, step_failed, told_at_once}
pub use Rattle.f2_model.specs.Begins.{first_key, least_in_flight, is_check, freezes, checking_seat, freezing_seat, barring_seat, freezing_walked, freezing, adds_row, called, TakesEffect, ReadFails, checking, BeginsCheck, BeginsFsync, Serves, StepBegin}
pub use Rattle.f2_model.specs.Goes.{second_of, least_of, page_written, node_logged, with_progress, next_slot, node_drawn, mark_drawn, step_of, Submits, open_of, open_position, gap_below, acknowledges, StepPart, StepFsync, reply_of_plan, with_base, is_unmount, completes, WritesBlock, WritesTail, StepCheck, StepFlight, StepGo, draws, draws_next}
pub use Rattle.f2_model.specs.Ticks.{least_thawed, has_data_room, has_node_room, is_clean, TicksPage, TicksNode, StepTick}
pub use Rattle.f2_model.specs.Mounts.{mounting, found, FindsMarks, FindsPending, MountFails, StepMount, closing, StepClose, StepUnmount, StepUpgrade, crashed}

-- one event: from this state it may come to this; where a call, an unmount or an upgrade begins, memory may be refused
abbrev pub Step : Limits → Faults → State → Event → Turn → Type 0
Step limits faults state (Begin seat request) turn =
    IsSeat seat × (StepBegin limits faults state seat request turn ⊎ (turn ≡ unchanged state (replied reply.Memory)))
Step limits faults state (Go seat) turn = StepGo faults state seat turn
Step limits faults state Tick turn = StepTick limits faults state turn
Step limits faults state Mount turn = StepMount faults state turn
Step limits faults state Unmount turn = StepUnmount state turn ⊎ (turn ≡ unchanged state (replied reply.Memory))
Step limits faults state Upgrade turn = StepUpgrade state turn ⊎ (turn ≡ unchanged state (replied reply.Memory))
Step limits faults state Crash turn = turn ≡ crashed state

-- One event of the flusher, which writes what fsyncs in flight don't hold (the writeback of fs/f2fs/data.c and node.c).
use Rattle.std.specs.Prelude.{◌≡◌, ℕ, ◌+◌, Bool, not, ◌&&◌, nat_lt, nat_le, ◌==◌, [], ◌∷◌, is_some, Option}
use Rattle.std.specs.Bool.{MatchBool}
use Rattle.std.specs.List.{list_any, find}
use Rattle.std.specs.FinSet as set
use Rattle.f2_model.specs.Rising.{rising}
use Rattle.f2_model.specs.Call.{Limits}
use Rattle.f2_model.specs.State.{State, Pairs}
use Rattle.f2_model.specs.Fallback.{owed, frozen_inos}
use Rattle.f2_model.specs.Turns.{Faults, Turn, MOST_ENTRIES, NO_SEAT, WhereSome, Writes, turn_with, unchanged, is_up}
use Rattle.f2_model.specs.Begins.{checking_seat}
use Rattle.f2_model.specs.Goes.{page_written, node_logged}
use Rattle.f2_model.specs.declared.replies.Tick.TheVariants as tick
use Rattle.f2_model.specs.declared.events.Answer.TheVariants.{Ticked}
use Rattle.f2_model.specs.declared.histories.Entry.TheVariants as entry

-- the least dirty page, or direct node, of a file that isn't in fsync
abbrev pub least_thawed : State → Pairs → Option (ℕ × ℕ)
least_thawed state pairs = find (λ pair. not (list_any (λ ino. ino == pair.0) (frozen_inos state))) (rising pairs)

-- whether a zone has room for one block more of the flusher
abbrev pub has_data_room : Limits → State → Bool
has_data_room limits state = nat_lt (state.data_writes + (owed state).pages) limits.data_blocks

abbrev pub has_node_room : Limits → State → Bool
has_node_room limits state = nat_lt (state.node_writes + (owed state).nodes) limits.nodes

abbrev pub is_clean : State → Bool
is_clean state = set.len state.dirty_pages == 0 && set.len state.dirty_nodes == 0

-- the flusher writes a page, where its zone has room
abbrev pub TicksPage : Limits → Faults → State → ℕ × ℕ → Turn → Type 0
TicksPage limits faults state page turn =
    MatchBool (has_data_room limits state)
    (Writes faults NO_SEAT (Ticked tick.WriteFault) (turn_with (Ticked tick.Data) (entry.WrotePage page.0 page.1 ∷ []) [] (page_written state page.0 page.1)) turn)
    (turn ≡ unchanged state (Ticked tick.Room))

-- the flusher draws the next position of the node log for a direct node and writes it there, in one event
abbrev pub TicksNode : Limits → Faults → State → ℕ × ℕ → Turn → Type 0
TicksNode limits faults state node turn =
    MatchBool (has_node_room limits state)
    (Writes faults NO_SEAT (Ticked tick.WriteFault) (turn_with (Ticked tick.Node) (entry.WroteNode node.0 node.1 ∷ []) [] (node_logged state node.0 node.1)) turn)
    (turn ≡ unchanged state (Ticked tick.Room))

-- one event of the flusher
abbrev pub StepTick : Limits → Faults → State → Turn → Type 0
StepTick limits faults state turn =
    MatchBool (not (is_up state.mode)) (turn ≡ unchanged state (Ticked tick.Closed)) (
    MatchBool (nat_le MOST_ENTRIES state.entries) (turn ≡ unchanged state (Ticked tick.Spent)) (
    MatchBool (is_some (checking_seat state)) (turn ≡ unchanged state (Ticked tick.Busy)) (
    MatchBool (is_clean state) (turn ≡ unchanged state (Ticked tick.Idle)) (
    WhereSome (least_thawed state state.dirty_pages) (λ page. TicksPage limits faults state page turn) (
    WhereSome (least_thawed state state.dirty_nodes) (λ node. TicksNode limits faults state node turn)
    (turn ≡ unchanged state (Ticked tick.Busy)))))))

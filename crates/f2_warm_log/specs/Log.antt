-- The node log in memory: the positions of the chain, and what a reserve and a submit make of them and of the zone.
use Rattle.std.specs.Prelude.{◌≡◌, ℕ, ◌+◌, ◌-◌, ◌^◌, ◌<◌, ◌≤◌, Bool, true, false, if◌then◌else◌, List, [], ◌∷◌, ◌++◌, length, Option, Some, option_map, slice_get, slice_set, ⊤}
use Rattle.std.specs.FinSet as set
use Rattle.f2_space.specs.Space.{Space, IsLeastFree}
use Rattle.f2_warm_log.specs.declared.positions.Position.{Position}
use Rattle.f2_warm_log.specs.declared.positions.Slot.{Slot}

-- The node log since the last checkpoint. Its blocks carry `version`. `positions` are those that were reserved, in the
-- order of the chain. `next` is the address of the next position, which is drawn ahead; it is 0 where the last position
-- of the zone's third is reserved. There is memory for `room` positions.
pub record NodeLog : Type 0 where
  pub version : ℕ
  pub positions : List Position
  pub next : ℕ
  pub room : ℕ

-- a log that begins at an address
abbrev pub empty_log : ℕ → ℕ → ℕ → NodeLog
empty_log version start room = record { version = version; positions = []; next = start; room = room }

-- where positions begin that an address follows
abbrev pub start_of : List Position → ℕ → ℕ
start_of [] next = next
start_of (position ∷ rest) next = position.at

-- A chain without a hole: each position's next address is the following position's, and the last one's is the one that
-- follows them all (NEXT_FREE_BLKADDR of fs/f2fs/segment.h, which f2fs_allocate_data_block puts into a footer).
abbrev pub IsChained : List Position → ℕ → Type 0
IsChained [] next = ⊤
IsChained (position ∷ rest) next = (position.next ≡ start_of rest next) × IsChained rest next

-- what each log keeps: its positions are a chain, and there is memory for them, whose number is one of 32 bits
pub record IsNodeLog (log : NodeLog) : Type 0 where
  pub chained : IsChained log.positions log.next
  pub within : length log.positions ≤ log.room
  pub fits : log.room < 2 ^ 32

-- whether the position of this number is submitted, where it is reserved
abbrev pub submitted_at : List Position → ℕ → Option Bool
submitted_at positions k = option_map (λ position. position.submitted) (slice_get positions k)

-- every position below this one is reserved and submitted
abbrev pub IsSubmittedBelow : List Position → ℕ → Type 0
IsSubmittedBelow positions gap = (k : ℕ) → k < gap → submitted_at positions k ≡ Some true

-- the least position that is reserved and not submitted
pub record IsFirstGap (positions : List Position) (gap : ℕ) : Type 0 where
  pub waits : submitted_at positions gap ≡ Some false
  pub before : IsSubmittedBelow positions gap

-- the slot's position is reserved, with these addresses, and not submitted
abbrev pub IsOpen : NodeLog → Slot → Type 0
IsOpen log slot = slice_get log.positions slot.position ≡ Some (record { at = slot.at; next = slot.next; submitted = false })

-- the log with the slot's position after all others, not submitted
abbrev pub with_reserved : NodeLog → Slot → NodeLog
with_reserved log slot =
    record log { positions = log.positions ++ (record { at = slot.at; next = slot.next; submitted = false }) ∷ []; next = slot.next }

-- the log in which the slot's position is submitted
abbrev pub with_submitted : NodeLog → Slot → NodeLog
with_submitted log slot =
    record log { positions = slice_set log.positions slot.position (record { at = slot.at; next = slot.next; submitted = true }) }

-- The log and its zone agree: the zone counts the positions, and as long as they don't fill its third it has drawn the
-- next one's address and no other.
pub record IsInStep (zone : Space) (log : NodeLog) : Type 0 where
  pub counted : zone.log ≡ length log.positions
  pub ahead : length log.positions < zone.c → zone.drawn ≡ set.insert set.empty log.next

-- the zone once the log's block at a drawn address is being written
abbrev pub after_write : Space → ℕ → Bool → Space
after_write zone at promised =
    record zone { live = set.insert zone.live at; drawn = set.remove zone.drawn at; log = zone.log + 1; promised = zone.promised - (if promised then 1 else 0) }

-- the zone once an address is drawn
abbrev pub after_draw : Space → ℕ → Space
after_draw zone at = record zone { used = set.insert zone.used at; drawn = set.insert zone.drawn at }

-- the zone's least free address is drawn as long as the log has a position left, and 0 stands for none
pub record DrawsAhead (old new : Space) (next : ℕ) : Type 0 where
  pub least : old.log < old.c → IsLeastFree old next
  pub drawn : old.log < old.c → new ≡ after_draw old next
  pub none : old.c ≤ old.log → next ≡ 0
  pub unchanged : old.c ≤ old.log → new ≡ old

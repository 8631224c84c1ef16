-- What the beginning of a call comes to, part by part.
use Rattle.std.specs.Prelude.{◌≡◌, ℕ, Bool, true, not, ◌&&◌, is_none, List, [], ◌∷◌, Option, Some, None, Result, Ok, Err, MatchOption}
use Rattle.std.specs.Bool.{MatchBool}
use Rattle.std.specs.List.{All}
use Rattle.std.specs.FinMap as map
use Rattle.std.specs.FinSet as set
use Rattle.f2_model.specs.Tree.{Rows}
use Rattle.f2_model.specs.Call.{effect, space_refusal}
use Rattle.f2_model.specs.State.{State, from_both_rows, dirtied, touched, removed}
use Rattle.f2_model.specs.Fallback.{fallback}
use Rattle.f2_model.specs.Step.{Turn, adds_row, called, told_at_once, TakesEffect}
use Rattle.f2_model.specs.declared.bounds.Limits.{Limits}
use Rattle.f2_model.specs.declared.events.Answer.TheVariants.{Began}
use Rattle.f2_model.specs.declared.rows.Row.{Row}
use Rattle.f2_model.specs.declared.requests.Request.{Request}
use Rattle.f2_model.specs.declared.replies.Begun.{Begun}
use Rattle.f2_model.specs.declared.replies.Reason.{Reason}
use Rattle.f2_model.specs.declared.replies.Reply.{Reply}
use Rattle.f2_model.specs.declared.histories.Entry.TheVariants as entry
use Rattle.f2_laws.specs.Choice.{IsFaultless}
use Rattle.f2_laws.specs.Room.{IsLeastFreeIno}
use Rattle.f2_reference_state.specs.Seen.{Seen, told, after_turn}
use Rattle.f2_reference_state.specs.declared.calls.Call.{Call}
use Rattle.f2_reference.specs.Choosing.{blocks_after}
use Rattle.f2_reference.specs.declared.choices.Choices.{Choices}

-- a call that begins came to one of some turns, in which nothing failed, with this answer, chosen as told
pub record BeginsBy (choices : Choices) (old new : Seen) (request : Request) (begun : Begun) (Is : Turn → Type 0) : Type 0 where
  pub turn : Turn
  pub is : Is turn
  pub faultless : IsFaultless turn
  pub chosen : adds_row request ≡ true → All (IsLeastFreeIno old.limits old.state) turn.choices
  pub told : turn.answer ≡ Began begun
  pub after : new ≡ record (after_turn old turn) { blocks = blocks_after choices old (Began begun) }

-- a call of one event that neither its paths nor an fsync refuse: want of space refuses it, or else it takes effect
abbrev pub ServesAtOnce : Limits → State → ℕ → Request → Turn → Type 0
ServesAtOnce limits state seat request turn =
    MatchOption (space_refusal limits (effect state.live request limits.nids))
    (TakesEffect limits state seat request turn)
    (λ refused. turn ≡ told_at_once state seat request refused [] state)

-- a call was told and took effect, and a new row has the least free ino
abbrev pub TookEffect : Seen → Seen → Call → Type 0
TookEffect old new call =
    MatchBool (adds_row call.request)
    ((ino : ℕ) × IsLeastFreeIno old.limits old.state ino × (new ≡ told old (entry.Did call.seat call.request call.outcome ∷ []) (ino ∷ []) (called old.state call.request ino)))
    (new ≡ told old (entry.Did call.seat call.request call.outcome ∷ []) [] (called old.state call.request 0))

-- a state after a call changed the pages of the row at the end of two walks, before it and after it
abbrev pub pages_changed : State → Request → Result Row Reply → Result Row Reply → State
pages_changed state request before after = from_both_rows state before after (λ old new. dirtied state old new (touched old request) (removed old request))

-- the same, where the rows are given
abbrev pub rows_changed : State → Request → Option (Row × Row) → State
rows_changed state request None = state
rows_changed state request (Some rows) = dirtied state rows.0 rows.1 (touched rows.0 request) (removed rows.0 request)

-- the ino of the row at the end of a walk
abbrev pub ino_of : Result Row Reply → Option ℕ
ino_of (Ok row) = Some row.ino
ino_of (Err refused) = None

-- the rows at the end of two walks, where both are there
abbrev pub both_rows : Result Row Reply → Result Row Reply → Option (Row × Row)
both_rows (Ok before) (Ok after) = Some (before, after)
both_rows (Ok before) (Err refused) = None
both_rows (Err refused) after = None

-- whether neither a row of the tree or the base has an ino, nor a node of the node log
abbrev pub is_unused : State → ℕ → Bool
is_unused state ino = is_none (map.get state.live ino) && is_none (map.get state.base ino) && not (set.contains state.logged ino)

-- the ino of the file at the end of a walk, and the reason for which an fsync of it makes a checkpoint
abbrev pub file_to_sync : Limits → State → Result Row Reply → Result (ℕ × Option Reason) Reply
file_to_sync limits state (Ok row) = Ok (row.ino, fallback limits state row)
file_to_sync limits state (Err refused) = Err refused

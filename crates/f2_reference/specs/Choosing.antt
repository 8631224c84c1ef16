-- What a plain machine does where the abstract machine may choose, and what one event comes to.
use Rattle.std.specs.Prelude.{◌≡◌, ℕ, ◌-◌, ◌<◌, min, max, true, if◌then◌else◌, length, Option, Some, None}
use Rattle.std.specs.List.{All}
use Rattle.f2_model.specs.Tree.{Rows}
use Rattle.f2_model.specs.State.{State, base_up_to, pending_with}
use Rattle.f2_model.specs.Step.{Turn, Step, calm, is_shut, adds_row, found}
use Rattle.f2_model.specs.declared.events.Event.{Event}
use Rattle.f2_model.specs.declared.events.Event.TheVariants.{Begin, Go, Mount}
use Rattle.f2_model.specs.declared.events.Answer.{Answer}
use Rattle.f2_model.specs.declared.events.Answer.TheVariants.{Began, Stepped, Found}
use Rattle.f2_model.specs.declared.replies.Step.TheVariants as step
use Rattle.f2_model.specs.declared.replies.Begun.TheVariants.{Going}
use Rattle.f2_model.specs.declared.replies.Plan.TheVariants.{Roll}
use Rattle.f2_laws.specs.Choice.{IsFaultless}
use Rattle.f2_laws.specs.Room.{IsLeastFreeIno}
use Rattle.f2_reference_state.specs.Seen.{Seen, after_turn}
use Rattle.f2_reference.specs.declared.choices.MarksKept.{MarksKept}
use Rattle.f2_reference.specs.declared.choices.MarksKept.TheVariants.{Fewest, UpTo}
use Rattle.f2_reference.specs.declared.choices.Choices.{Choices}

-- the place up to which marks remain
abbrev pub place_left : MarksKept → State → ℕ
place_left Fewest state = state.acknowledged
place_left (UpTo place) state = max state.acknowledged (min place (length state.marks))

-- what a mount finds: the pending tree, where there is one and it counts, or else the base with its marks
abbrev pub found_by : Choices → State → Turn
found_by choices state = found_in (if choices.pending then state.pending else None)
  where
    found_in : Option Rows → Turn
    found_in (Some tree) = found state (pending_with state tree) 1
    found_in None = found state (base_up_to state (place_left choices.marks state)) 0

-- a checkpoint writes a block as long as one is left to be written, and else its tail
abbrev pub AsLeft : ℕ → Answer → Type 0
AsLeft blocks (Stepped step.Block) = 0 < blocks
AsLeft blocks (Stepped step.Tail) = blocks ≡ 0
AsLeft blocks _ = Unit {0}

-- where the machine may choose it chose so: a new row has the least free ino, a mount finds what it was told to, and a checkpoint writes the blocks that are left and then its tail
abbrev pub Chooses : Choices → Seen → Event → Turn → Type 0
Chooses choices old (Begin seat request) turn = adds_row request ≡ true → All (IsLeastFreeIno old.limits old.state) turn.choices
Chooses choices old Mount turn = is_shut old.state.mode ≡ true → turn ≡ found_by choices old.state
Chooses choices old (Go seat) turn = AsLeft old.blocks turn.answer
Chooses choices old _ turn = Unit {0}

-- the blocks that are left to be written before a tail: a checkpoint that begins is told how many it writes
abbrev pub blocks_after : Choices → Seen → Answer → ℕ
blocks_after choices old (Began (Going Roll)) = old.blocks
blocks_after choices old (Began (Going plan)) = choices.blocks
blocks_after choices old (Found rows) = choices.blocks
blocks_after choices old (Stepped step.Block) = old.blocks - 1
blocks_after choices old _ = old.blocks

-- one event was a step of the abstract machine in which nothing failed, with this answer, chosen so
pub record ComesTo (choices : Choices) (old new : Seen) (event : Event) (answer : Answer) : Type 0 where
  pub turn : Turn
  pub step : Step old.limits calm old.state event turn
  pub faultless : IsFaultless turn
  pub chosen : Chooses choices old event turn
  pub told : turn.answer ≡ answer
  pub after : new ≡ record (after_turn old turn) { blocks = blocks_after choices old answer }

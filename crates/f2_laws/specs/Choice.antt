-- What an event leaves open, and what decides it.
use Rattle.std.specs.Prelude.{◌≡◌, ℕ, Bool, true, false, Option, Some, None}
use Rattle.f2_model.specs.declared.bounds.Limits.{Limits}
use Rattle.f2_model.specs.State.{State}
use Rattle.f2_model.specs.Step.{Faults, Turn, Step}
use Rattle.f2_model.specs.declared.events.Event.{Event}
use Rattle.f2_model.specs.declared.events.Answer.{Answer}
use Rattle.f2_model.specs.declared.events.Answer.TheVariants.{Began, Stepped, Ticked, Found, NotMounted}
use Rattle.f2_model.specs.declared.replies.Begun.TheVariants.{Replied}
use Rattle.f2_model.specs.declared.replies.Step.TheVariants as step
use Rattle.f2_model.specs.declared.replies.Tick.TheVariants as tick
use Rattle.f2_model.specs.declared.replies.Reply.TheVariants as reply

-- whether an answer tells want of memory, a failed call of the disk, or a mount that finds no tree
abbrev pub tells_failure : Answer → Bool
tells_failure (Began (Replied reply.Memory)) = true
tells_failure (Began (Replied reply.ReadFault)) = true
tells_failure (Stepped (step.Replied reply.WriteFault)) = true
tells_failure (Ticked tick.WriteFault) = true
tells_failure (NotMounted refused) = true
tells_failure _ = false

-- what an answer tells of a choice: that a checkpoint wrote its tail in place of a block more, or how many marks a mount found
abbrev pub choice_told : Answer → Option ℕ
choice_told (Stepped step.Tail) = Some 0
choice_told (Found marks) = Some marks
choice_told _ = None

-- an event came to something without want of memory and without a failure
abbrev pub IsFaultless : Turn → Type 0
IsFaultless turn = tells_failure turn.answer ≡ false

-- two turns left the same choices, and their answers tell of the same choice
pub record ChoseAlike (one other : Turn) : Type 0 where
  pub choices : one.choices ≡ other.choices
  pub told : choice_told one.answer ≡ choice_told other.answer

-- what an event comes to without a failure is decided by the state and the choices: a new row's ino, a checkpoint's format and its tail, and what a mount finds
abbrev pub ChoicesDecide : Type 0
ChoicesDecide =
    (limits : Limits) (faults later : Faults) (state : State) (event : Event) (one other : Turn) →
    Step limits faults state event one →
    Step limits later state event other →
    IsFaultless one →
    IsFaultless other →
    ChoseAlike one other →
    one ≡ other

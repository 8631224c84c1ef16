-- What contracts see of a plain machine, and how it goes on.
use Rattle.std.specs.Prelude.{ℕ, ◌+◌, List, ◌++◌, length}
use Rattle.f2_model.specs.State.{State}
use Rattle.f2_model.specs.Step.{Turn}
use Rattle.f2_model.specs.declared.bounds.Limits.{Limits}
use Rattle.f2_model.specs.declared.histories.Entry.{Entry}

-- what an image grants, the state, and the history with its choices
pub record Seen : Type 0 where
  pub limits : Limits
  pub state : State
  pub entries : List Entry
  pub choices : List ℕ
  -- how many blocks the checkpoint in flight still writes before its tail
  pub blocks : ℕ

-- a machine that left entries and choices, and came to a state
abbrev pub told : Seen → List Entry → List ℕ → State → Seen
told old entries choices after = record old {
  state = record after { entries = after.entries + length entries };
  entries = old.entries ++ entries;
  choices = old.choices ++ choices;
}

-- a machine after a turn
abbrev pub after_turn : Seen → Turn → Seen
after_turn old turn = record old { state = turn.after; entries = old.entries ++ turn.entries; choices = old.choices ++ turn.choices }

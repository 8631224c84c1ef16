-- What holds of every plain machine.
use Rattle.std.specs.Prelude.{◌≡◌, ◌≤◌, [], ◌∷◌, length, Some}
use Rattle.std.specs.List.{All}
use Rattle.f2_model.specs.Tree.{Rows, root_alone}
use Rattle.f2_model.specs.State.{Mark, Meaning, initial}
use Rattle.f2_model.specs.Step.{MOUNT_SEAT, calm}
use Rattle.f2_model.specs.Run.{IsRun}
use Rattle.f2_model.specs.declared.bounds.Limits.{Limits}
use Rattle.f2_model.specs.declared.histories.Entry.TheVariants as entry
use Rattle.f2_model.specs.declared.replies.Plan.TheVariants as plans
use Rattle.f2_model.specs.declared.modes.Format.TheVariants.{Two}
use Rattle.f2_model.specs.declared.modes.Mode.TheVariants.{Up}
use Rattle.f2_reference_calls.specs.Given.{IsFitting}
use Rattle.f2_spans.specs.Spans.{MOST_SIZE}
use Rattle.f2_reference_state.specs.Seen.{Seen}

-- a marked row stands under its own ino, and is no longer than its pages have room for
abbrev pub IsFittingMark : Mark → Type 0
IsFittingMark mark = (mark.row.ino ≡ mark.ino) × (mark.row.size ≤ MOST_SIZE)

-- the trees that a machine holds, and may find again, are such as calls can be made on
pub record IsSound (seen : Seen) : Type 0 where
  pub size : seen.limits.size ≤ MOST_SIZE
  pub live : IsFitting seen.state.live
  pub base : IsFitting seen.state.base
  pub pending : (tree : Rows) → seen.state.pending ≡ Some tree → IsFitting tree
  pub marks : All IsFittingMark seen.state.marks
  -- each acknowledged mark is there
  pub acknowledged : seen.state.acknowledged ≤ length seen.state.marks

-- what a machine starts from: the tree of the root alone, of the newer format and the first version
abbrev pub first_meaning : Meaning
first_meaning = record { base = root_alone; marks = []; format = Two; version = 1 }

-- a machine that was just made: its tree is the root alone, and its first mount is done
abbrev pub made_by : Limits → Seen
made_by limits = record {
  limits = limits;
  state = record (initial first_meaning) { version = 2; mode = Up; entries = 4 };
  entries = entry.Mounted 0 ∷ entry.CpBegin MOUNT_SEAT plans.Sync ∷ entry.CpTail MOUNT_SEAT ∷ entry.CpDone MOUNT_SEAT ∷ [];
  choices = 0 ∷ 2 ∷ [];
  blocks = 0;
}

-- the history is a run of the abstract machine from the tree of the root alone, and leaves this state
pub record IsPlain (seen : Seen) : Type 0 where
  pub sound : IsSound seen
  pub run : IsRun seen.limits calm (initial first_meaning) seen.entries seen.choices seen.state

-- What calls see after a loss of power and a mount.
use Rattle.std.specs.Prelude.{◌≡◌, ℕ, ◌≤◌, ◌⊎◌, IsTrue, List, take, length, Some}
use Rattle.std.specs.List.{list_any}
use Rattle.f2_model.specs.Tree.{Rows}
use Rattle.f2_model.specs.declared.bounds.Limits.{Limits}
use Rattle.f2_model.specs.State.{State, Meaning, initial, rolled}
use Rattle.f2_model.specs.Step.{Faults, Turn, Step, crashed}
use Rattle.f2_model.specs.Run.{IsRun}
use Rattle.f2_model.specs.declared.events.Event.TheVariants.{Mount}
use Rattle.f2_model.specs.declared.histories.Entry.{Entry}
use Rattle.f2_laws.specs.Survival.{is_mounted}

-- a tree is the base with a prefix of the marks rolled over it, among them each acknowledged one; or the tree of a checkpoint whose tail was written
abbrev pub IsSurvivor : State → Rows → Type 0
IsSurvivor state tree =
    ((place : ℕ) × (state.acknowledged ≤ place) × (place ≤ length state.marks) × (tree ≡ rolled state.base (take place state.marks)))
    ⊎ (state.pending ≡ Some tree)

-- wherever a run leads, a loss of power and then a mount that finds a tree bring calls back to such a tree, and there is one, since no more
-- marks are acknowledged than there are; a mount that rolled the acknowledged marks without the last of them would break it
abbrev pub MountsBringBack : Type 0
MountsBringBack =
    (limits : Limits) (faults later : Faults) (meaning : Meaning) (entries : List Entry) (choices : List ℕ) (state : State) (turn : Turn) →
    IsRun limits faults (initial meaning) entries choices state →
    Step limits later (crashed state).after Mount turn →
    IsTrue (list_any is_mounted turn.entries) →
    (state.acknowledged ≤ length state.marks) × IsSurvivor state turn.after.live

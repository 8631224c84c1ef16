-- What an fsync finds when it marks its file.
use Rattle.std.specs.Prelude.{◌≡◌, ℕ, false, Bool, IsTrue, ◌==◌, List, [], ◌∷◌, ◌++◌, Some}
use Rattle.std.specs.List.{list_any}
use Rattle.std.specs.FinMap as map
use Rattle.std.specs.FinSet as set
use Rattle.f2_model.specs.declared.bounds.Limits.{Limits}
use Rattle.f2_model.specs.State.{State, Meaning, Pairs, initial}
use Rattle.f2_model.specs.Step.{Faults, Turn, Step}
use Rattle.f2_model.specs.Run.{IsRun}
use Rattle.f2_model.specs.declared.rows.Row.{Row}
use Rattle.f2_model.specs.declared.events.Event.{Event}
use Rattle.f2_model.specs.declared.histories.Entry.{Entry}
use Rattle.f2_model.specs.declared.histories.Entry.TheVariants.{Mark}

-- no page, or no direct node, of a file is dirty
abbrev pub IsClean : Pairs → ℕ → Type 0
IsClean pairs ino = (number : ℕ) → set.contains pairs (ino, number) ≡ false

-- whether an entry marks a file
abbrev pub is_mark_of : ℕ → Entry → Bool
is_mark_of ino (Mark seat file) = file == ino
is_mark_of ino _ = false

-- the live row of a file joins the marks, and nothing of the file is dirty
pub record IsMarkedClean (before after : State) (ino : ℕ) : Type 0 where
  pub row : Row
  pub there : map.get before.live ino ≡ Some row
  pub marks : after.marks ≡ before.marks ++ record { ino = ino; row = row } ∷ []
  pub pages : IsClean after.dirty_pages ino
  pub nodes : IsClean after.dirty_nodes ino

-- in every run an event that marks a file marks its live row, when no page and no direct node of it is dirty; an fsync that flushed before
-- its last page, and a write to a file in fsync, would break it
abbrev pub MarksAreClean : Type 0
MarksAreClean =
    (limits : Limits) (faults later : Faults) (meaning : Meaning) (entries : List Entry) (choices : List ℕ) (state : State) (event : Event) (turn : Turn) (ino : ℕ) →
    IsRun limits faults (initial meaning) entries choices state →
    Step limits later state event turn →
    IsTrue (list_any (is_mark_of ino) turn.entries) →
    IsMarkedClean state turn.after ino

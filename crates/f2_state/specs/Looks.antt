-- Calls that change nothing.
use Rattle.std.specs.Prelude.{◌≡◌, ◌⊎◌, ℕ, true, List, [], ◌∷◌, ◌++◌, Option, Some}
use Rattle.std.specs.FinMap as map
use Rattle.f2_disk.specs.Contents.{Contents}
use Rattle.f2_disk.specs.Meter.{Meter}
use Rattle.f2_disk.specs.Using.{OnlyReads}
use Rattle.f2_model.specs.State.{State}
use Rattle.f2_model.specs.Step.{Faults, HasRisen, outcome_of}
use Rattle.f2_model.specs.declared.histories.CallKind.TheVariants as kind
use Rattle.f2_model.specs.declared.histories.Entry.{Entry}
use Rattle.f2_model.specs.declared.histories.Entry.TheVariants as entry
use Rattle.f2_model.specs.declared.replies.Outcome.TheVariants as outcome
use Rattle.f2_model.specs.declared.replies.Reply.{Reply}
use Rattle.f2_model.specs.declared.replies.Reply.TheVariants.{ReadFault}
use Rattle.f2_model.specs.declared.rows.Kind.TheVariants.{Regular}
use Rattle.f2_model.specs.declared.rows.Row.{Row}
use Rattle.f2_model.specs.declared.requests.Request.{Request}
use Rattle.f2_model.specs.declared.requests.Request.TheVariants.{Read, List as ListNames}
use Rattle.f2_state.specs.Seen.{Seen}
use Rattle.f2_state.specs.Standing.{StandsIn, StandsStill, is_between}

-- the calls that change neither files nor what is dirty
abbrev pub IsLook : Request → Type 0
IsLook (Read path off len) = Unit {0}
IsLook (ListNames path) = Unit {0}
IsLook _ = ⊥

-- a volume read from its disk, and may keep other clean pages in memory; it stands where it stood
pub record OnlyLooks {D : Type 0} (contents : D → Option Contents) (meter : D → Meter) (old new : Seen D) : Type 0 where
  pub rest : new ≡ record old { disk = new.disk; pages = record old.pages { clean = new.pages.clean } }
  pub reads : OnlyReads contents meter old.disk new.disk
  pub stands : StandsStill (contents old.disk) (contents new.disk) old new

-- this holds of a file's row, in each state in which a volume stands between two checkpoints
abbrev pub HasOfFile : {D : Type 0} → Option Contents → Seen D → ℕ → (Row → Type 0) → Type 0
HasOfFile told volume ino Holds = (from : State) (row : Row) → StandsIn told volume from → is_between from ≡ true → map.get from.live ino ≡ Some row → row.kind ≡ Regular → Holds row

-- a volume is what it was, but for its disk's counts, its clean pages, and its history
abbrev pub IsKeptBut : {D : Type 0} → Seen D → Seen D → Type 0
IsKeptBut old new = new ≡ record old { disk = new.disk; pages = record old.pages { clean = new.pages.clean }; history = new.history }

-- what a look with this reply leaves in the history: nothing, the entry of its reply, or that with the fault of a read that failed
abbrev pub MayLeave : ℕ → Request → Reply → Faults → List Entry → List Entry → Type 0
MayLeave seat request told faults old new =
    (new ≡ old) ⊎ ((new ≡ old ++ entry.Did seat request (outcome_of told) ∷ [])
    ⊎ (HasRisen faults × (told ≡ ReadFault) × (new ≡ old ++ entry.Did seat request outcome.ReadFault ∷ entry.Fault seat kind.Read faults.after ∷ [])))

-- The flushes of an fsync: one after the pages of its file, and one after its mark.
use Rattle.std.specs.Prelude.{◌≡◌, ℕ, ◌+◌, [], ◌∷◌, ◌++◌, nat_lt, Option, None, Some, Result, Ok, Err, OnOk, OnErr, option_map}
use Rattle.std.specs.List.{filter, filter_map}
use Rattle.std.specs.FinMap as map
use Rattle.f2_disk.specs.Contents.{Contents, flushed}
use Rattle.f2_disk.specs.Meter.{Meter, HasFailed, IsWithin}
use Rattle.f2_files.specs.Known.{Known}
use Rattle.f2_laws.specs.Flights.{Flights}
use Rattle.f2_model.specs.History.{History}
use Rattle.f2_model.specs.Lists.{least_number}
use Rattle.f2_model.specs.State.{Part, InPages, Marked, Progress, InFsync}
use Rattle.f2_model.specs.Step.{open_position, least_of, step_failed}
use Rattle.f2_model.specs.declared.events.Answer.{Answer}
use Rattle.f2_model.specs.declared.events.Answer.TheVariants.{Stepped}
use Rattle.f2_model.specs.declared.histories.CallKind.TheVariants as kind
use Rattle.f2_model.specs.declared.histories.Entry.{Entry}
use Rattle.f2_model.specs.declared.histories.Entry.TheVariants as entry
use Rattle.f2_model.specs.declared.modes.Mode.{Mode}
use Rattle.f2_model.specs.declared.modes.Mode.TheVariants.{Shut, Up}
use Rattle.f2_model.specs.declared.replies.Step.{Step}
use Rattle.f2_state.specs.Seen.{Seen}

-- an fsync of a seat has come to a part, on an open volume, and has no position open
pub record HasComeTo {D : Type 0} (volume : Seen D) (seat ino : ℕ) (part : Part) (progress : Progress) : Type 0 where
  pub up : volume.mode ≡ Up
  pub in_flight : map.get volume.files.flights seat ≡ Some (InFsync ino progress)
  pub part_is : progress.part ≡ part
  pub none_open : progress.slot ≡ None

-- no page of its file is dirty any more
pub record HasWrittenPages {D : Type 0} (volume : Seen D) (seat ino : ℕ) : Type 0 where
  pub progress : Progress
  pub come : HasComeTo volume seat ino InPages progress
  pub written : least_of volume.files.dirty_pages ino ≡ None

-- the least open position below another one
abbrev pub gap_among : Flights → ℕ → Option ℕ
gap_among flights position = least_number (filter (λ open_one. nat_lt open_one position) (filter_map open_position (map.values flights)))

-- its mark is written, and so is each position below the mark's
pub record HasWrittenMark {D : Type 0} (volume : Seen D) (seat ino : ℕ) : Type 0 where
  pub progress : Progress
  pub come : HasComeTo volume seat ino Marked progress
  pub written : gap_among volume.files.flights progress.position ≡ None

-- a disk was flushed once, and nothing else was done with it
pub record FlushesOnce {D E : Type 0} (contents : D → Option Contents) (meter : D → Meter) (old new : D) (result : Result (Unit {0}) E) : Type 0 where
  pub made : OnOk result (contents new ≡ option_map flushed (contents old))
  pub failed : OnErr result (contents new ≡ contents old)
  pub cause : OnErr result (HasFailed (meter old) (meter new))
  pub within : IsWithin 0 (meter old) (meter new)

-- a volume whose flush failed in an event of a seat is closed: the seat leaves, and one entry more tells the disk's count of faults
pub record Closes (seat count : ℕ) (mode : Mode) (files now : Known) (before after : History) : Type 0 where
  pub closed : mode ≡ Shut
  pub leaves : now ≡ record files { flights = map.remove files.flights seat }
  pub entries : after.entries ≡ before.entries ++ entry.Fault seat kind.Flush count ∷ []
  pub choices : after.choices ≡ before.choices
  pub spare : after.spare + 1 ≡ before.spare

-- a volume comes to a mode and to these calls in flight, with one entry more, and nothing else of it changes but its disk
pub record ComesTo {D : Type 0} (old new : Seen D) (mode : Mode) (flights : Flights) (added : Entry) : Type 0 where
  pub rest : new ≡ record old { disk = new.disk; mode = mode; files = record old.files { flights = flights }; history = new.history }
  pub entries : new.history.entries ≡ old.history.entries ++ added ∷ []
  pub choices : new.history.choices ≡ old.history.choices
  pub spare : new.history.spare + 1 ≡ old.history.spare

-- the answer of an event that makes one flush
abbrev pub answer_of : {E : Type 0} → Step → Result (Unit {0}) E → Answer
answer_of step (Ok done) = Stepped step
answer_of step (Err fault) = step_failed

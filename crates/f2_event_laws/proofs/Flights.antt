-- The slots of fsyncs after an event of one seat.
use Rattle.std.proofs.Common.{◌≡◌, ◌≢◌, ◌⊎◌, inl, inr, ℕ, false, sym, ap, ◌∙◌}
use Rattle.std.specs.Prelude.{Some, None}
use Rattle.std.specs.FinMap as map
use Rattle.std.specs.FinSet as set
use Rattle.f2_model.specs.State.{State, Slot, Progress, InFsync}
use Rattle.f2_stored.specs.Kept.{IsSomeSlot}
use Rattle.f2_event_laws.proofs.Maps.{found_put}

-- one flight is that of one file with one progress
pub same_progress : (ino other : ℕ) (progress next : Progress) → Some (InFsync ino progress) ≡ Some (InFsync other next) → progress ≡ next
same_progress ino other progress next is = cc

pub same_file : (ino other : ℕ) (progress next : Progress) → Some (InFsync ino progress) ≡ Some (InFsync other next) → ino ≡ other
same_file ino other progress next is = cc

pub fsync_file : (ino other : ℕ) (progress next : Progress) → InFsync ino progress ≡ InFsync other next → ino ≡ other
fsync_file ino other progress next is = cc

pub fsync_progress : (ino other : ℕ) (progress next : Progress) → InFsync ino progress ≡ InFsync other next → progress ≡ next
fsync_progress ino other progress next is = cc

pub some_slot_not_none : (slot : Slot) → ¬ (Some slot ≡ None)
some_slot_not_none slot is = cc

-- the calls of other seats are in flight as before
abbrev pub OthersStay : State → State → ℕ → Type 0
OthersStay state after seat = (other : ℕ) → other ≢ seat → map.get after.flights other ≡ map.get state.flights other

module _ (state after : State) (seat : ℕ) (others : OthersStay state after seat) where
  abbrev pub slot_stays : (place : ℕ) (one : IsSomeSlot state place) → one.seat ≢ seat → IsSomeSlot after place
  slot_stays place one other = record { seat = one.seat; ino = one.ino; progress = one.progress; slot = one.slot; in_flight = others one.seat other ∙ one.in_flight; is_open = one.is_open; at_place = one.at_place }

  abbrev pub slot_was : (place : ℕ) (one : IsSomeSlot after place) → one.seat ≢ seat → IsSomeSlot state place
  slot_was place one other = record { seat = one.seat; ino = one.ino; progress = one.progress; slot = one.slot; in_flight = sym (others one.seat other) ∙ one.in_flight; is_open = one.is_open; at_place = one.at_place }

-- what a seat has in flight is its slot's fsync
pub own_progress : (state : State) (seat ino : ℕ) (progress : Progress) → map.get state.flights seat ≡ Some (InFsync ino progress) → (place : ℕ) (one : IsSomeSlot state place) → one.seat ≡ seat → one.progress ≡ progress
own_progress state seat ino progress there place one same = same_progress one.ino ino one.progress progress (sym one.in_flight ∙ ap (map.get state.flights) same ∙ there)

-- a seat whose fsync has no slot has none
pub no_slot : (state : State) (seat ino : ℕ) (progress : Progress) → map.get state.flights seat ≡ Some (InFsync ino progress) → progress.slot ≡ None → (place : ℕ) (one : IsSomeSlot state place) → one.seat ≢ seat
no_slot state seat ino progress there none place one same =
    some_slot_not_none one.slot (sym one.is_open ∙ ap (λ (p : Progress). p.slot) (own_progress state seat ino progress there place one same) ∙ none)

-- and the place of its slot is that slot's
pub own_place : (state : State) (seat ino : ℕ) (progress : Progress) (slot : Slot) → map.get state.flights seat ≡ Some (InFsync ino progress) → progress.slot ≡ Some slot → (place : ℕ) (one : IsSomeSlot state place) → one.seat ≡ seat → slot.position ≡ place
own_place state seat ino progress slot there is place one same =
    let slots : Some slot ≡ Some one.slot = sym is ∙ sym (ap (λ (p : Progress). p.slot) (own_progress state seat ino progress there place one same)) ∙ one.is_open in
    ap (λ (s : Slot). s.position) (the_same slot one.slot slots) ∙ one.at_place
  where
    the_same : (a b : Slot) → Some a ≡ Some b → a ≡ b
    the_same a b e = cc

-- where a seat's fsync goes on, each fsync was one of the same seat and file
pub was_in_flight : (state after : State) (seat ino : ℕ) (progress now : Progress) → map.get state.flights seat ≡ Some (InFsync ino progress) → after.flights ≡ map.insert state.flights seat (InFsync ino now)
    → (other file : ℕ) (next : Progress) → map.get after.flights other ≡ Some (InFsync file next) → (before : Progress) × (map.get state.flights other ≡ Some (InFsync file before))
was_in_flight state after seat ino progress now there flights other file next found = by_case (found_put state.flights seat (InFsync ino now) other (InFsync file next) (sym (ap (λ f. map.get f other) flights) ∙ found))
  where
    by_case : ((other ≡ seat) × (InFsync file next ≡ InFsync ino now)) ⊎ ((other ≢ seat) × (map.get state.flights other ≡ Some (InFsync file next))) → (before : Progress) × (map.get state.flights other ≡ Some (InFsync file before))
    by_case (inl own) = (progress, ap (map.get state.flights) own.0 ∙ there ∙ ap (λ i. Some (InFsync i progress)) (sym (fsync_file file ino next now own.1)))
    by_case (inr elder) = (next, elder.1)

-- where a seat's fsync goes on, the files in fsync are those that were
pub unshrunk_still : (state after : State) (seat ino : ℕ) (progress now : Progress) → map.get state.flights seat ≡ Some (InFsync ino progress) → after.flights ≡ map.insert state.flights seat (InFsync ino now)
    → ((one file : ℕ) (next : Progress) → map.get state.flights one ≡ Some (InFsync file next) → set.contains state.shrunk file ≡ false)
    → (other file : ℕ) (next : Progress) → map.get after.flights other ≡ Some (InFsync file next) → set.contains state.shrunk file ≡ false
unshrunk_still state after seat ino progress now there flights unshrunk other file next found =
    let was = was_in_flight state after seat ino progress now there flights other file next found in
    unshrunk other file was.0 was.1

-- An fsync stands as far as before, where what it stands on stays.
use Rattle.std.proofs.Common.{◌≡◌, ℕ, Option, refl, ap, ◌∙◌, subst}
use Rattle.std.specs.Prelude.{Some, None, MatchOption}
use Rattle.std.specs.FinMap as map
use Rattle.f2_disk.specs.Contents.{Contents}
use Rattle.f2_model.specs.State.{State, Part, InPages, InNodes, Marked, Slot, Progress}
use Rattle.f2_stored.specs.Places.{Places}
use Rattle.f2_stored.specs.Layout.{Layout}
use Rattle.f2_stored.specs.Kept.{IsSlotOf, AreFlushed, HasMarkAt, PartStands, FsyncStands}

-- what it stands on: the live tree, its slot, its file's pages and its mark
pub record StaysFor (lists new : Contents) (layout now : Layout) (state after : State) (places there : Places) (ino : ℕ) (progress : Progress) : Type 0 where
  pub live : after.live ≡ state.live
  pub slot : (slot : Slot) → progress.slot ≡ Some slot → IsSlotOf layout state places ino slot → IsSlotOf now after there ino slot
  pub flushed : AreFlushed lists state places ino → AreFlushed new after there ino
  pub mark : HasMarkAt layout progress → HasMarkAt now progress

module _ (lists new : Contents) (layout now : Layout) (state after : State) (places there : Places) (ino : ℕ) (progress : Progress) (stays : StaysFor lists new layout now state after places there ino progress) where
  slot_stands : (slot : Option Slot) → progress.slot ≡ slot → MatchOption slot (Unit {0}) (IsSlotOf layout state places ino) → MatchOption slot (Unit {0}) (IsSlotOf now after there ino)
  slot_stands None is stands = tt
  slot_stands (Some slot) is stands = stays.slot slot is stands

  part_stands : (part : Part) → PartStands lists layout state places ino progress part → PartStands new now after there ino progress part
  part_stands InPages stands = stands
  part_stands InNodes stands = stays.flushed stands
  part_stands Marked stands = (stays.flushed stands.0, stays.mark stands.1)

  pub still_stands : FsyncStands lists layout state places ino progress → FsyncStands new now after there ino progress
  still_stands stands = record {
    file = (stands.file.0, ap (λ tree. map.get tree ino) stays.live ∙ stands.file.1, stands.file.2);
    slot = slot_stands progress.slot refl stands.slot;
    part = part_stands progress.part stands.part;
  }

pub same_slot : (a b : Slot) → Some a ≡ Some b → a ≡ b
same_slot a b is = cc

-- the slot of an fsync that has one
pub slot_of : (lists : Contents) (layout : Layout) (state : State) (places : Places) (ino : ℕ) (progress : Progress) (slot : Slot) → progress.slot ≡ Some slot → FsyncStands lists layout state places ino progress → IsSlotOf layout state places ino slot
slot_of lists layout state places ino progress slot is stands = by_slot progress.slot is stands.slot
  where
    by_slot : (found : Option Slot) → found ≡ Some slot → MatchOption found (Unit {0}) (IsSlotOf layout state places ino) → IsSlotOf layout state places ino slot
    by_slot None none stands = absurd (cc)
    by_slot (Some one) same stands = subst (IsSlotOf layout state places ino) (same_slot one slot same) stands

-- what is known of its part
pub part_of : (lists : Contents) (layout : Layout) (state : State) (places : Places) (ino : ℕ) (progress : Progress) (part : Part) → progress.part ≡ part → FsyncStands lists layout state places ino progress → PartStands lists layout state places ino progress part
part_of lists layout state places ino progress part is stands = subst (PartStands lists layout state places ino progress) is stands.part

-- an fsync with a slot has its file's pages flushed
pub flushed_with_slot : (lists : Contents) (layout : Layout) (state : State) (places : Places) (ino : ℕ) (progress : Progress) (slot : Slot) → progress.slot ≡ Some slot → FsyncStands lists layout state places ino progress → AreFlushed lists state places ino
flushed_with_slot lists layout state places ino progress slot is stands = by_part progress.part stands.part
  where
    by_part : (part : Part) → PartStands lists layout state places ino progress part → AreFlushed lists state places ino
    by_part InPages none = absurd (cc)
    by_part InNodes flushed = flushed
    by_part Marked flushed = flushed.0

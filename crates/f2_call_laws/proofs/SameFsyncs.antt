-- A call leaves each fsync as far as it has come.
use Rattle.std.proofs.Common.{◌≡◌, ℕ, false, List, refl, sym, ap, ◌∙◌, subst}
use Rattle.std.specs.Prelude.{Option, Some, None, MatchOption}
use Rattle.std.specs.FinMap as map
use Rattle.std.specs.FinSet as set
use Rattle.f2_disk.specs.Contents.{Contents}
use Rattle.f2_model.specs.State.{State, Part, InPages, InNodes, Marked, Drawn, DrawnNode, DrawnMark, Slot, Progress, InFsync}
use Rattle.f2_model.specs.declared.bounds.Limits.{Limits}
use Rattle.f2_model.specs.declared.rows.Row.{Row}
use Rattle.f2_laws.specs.Flights.{IsFrozen}
use Rattle.f2_stored.specs.Places.{Places, nid_of, page_at, IsInodeOf}
use Rattle.f2_stored.specs.Trees.{Unwritten}
use Rattle.f2_stored.specs.Layout.{Layout}
use Rattle.f2_stored.specs.Kept.{IsBlockFor, IsDrawnFor, IsSlotOf, AreFlushed, PartStands, FsyncStands, position_at}
use Rattle.f2_event_laws.proofs.Standing.{flushed_with_slot}
use Rattle.f2_stored.specs.Whole.{IsKeptWhole}
use Rattle.f2_call_laws.specs.Calls.{ArePlacesAfter}
use Rattle.f2_call_laws.proofs.Dirtied.{DirtiesRight}
use Rattle.f2_call_laws.proofs.SamePages.{page_stood, same_page}

module _ (limits : Limits) (lists : Contents) (layout : Layout) (state after : State) (places now : Places) (unwritten left : Unwritten) (whole : IsKeptWhole lists layout state places unwritten)
    (follows : ArePlacesAfter layout state after places now unwritten left) (right : DirtiesRight limits state after) where
  module _ (seat ino : ℕ) (progress : Progress) (in_flight : map.get state.flights seat ≡ Some (InFsync ino progress)) where
    stands : FsyncStands lists layout state places ino progress
    stands = whole.kept.fsyncs seat ino progress in_flight

    frozen : IsFrozen state.flights ino
    frozen = (seat, (progress, in_flight))

    abbrev row : Row
    row = stands.file.0

    there_now : map.get after.live ino ≡ Some row
    there_now = right.frozen_rows ino frozen ∙ stands.file.1

    flushed_now : AreFlushed lists state places ino → AreFlushed lists after now ino
    flushed_now flushed =
        let clean : (page : ℕ) → set.contains after.dirty_pages (ino, page) ≡ false = λ page. (right.frozen ino frozen).pages page ∙ flushed.clean page in
        record {
          clean = clean;
          flushed = λ page at placed. flushed.flushed page at (page_stood lists layout state after places now unwritten left whole follows ino page at row there_now stands.file.2 (clean page) placed);
        }

    module _ (flushed : AreFlushed lists state places ino) where
      address : (page : ℕ) → page_at now ino page ≡ page_at places ino page
      address page = same_page lists layout state after places now unwritten left whole follows ino page row row stands.file.1 stands.file.2 there_now stands.file.2
          (whole.kept.proper.good.keyed ino row stands.file.1) (λ has. has) ((right.frozen ino frozen).pages page ∙ flushed.clean page)

      inode_now : (block : List ℕ) (one : Row) → map.get state.live ino ≡ Some one → IsInodeOf places one block → IsInodeOf now one block
      inode_now block one found told = record {
        kind = told.kind;
        own = told.own;
        size = told.size;
        addresses = λ page small. told.addresses page small ∙ sym (subst (λ i. page_at now i page ≡ page_at places i page) (sym (whole.kept.proper.good.keyed ino one found)) (address page));
      }

      block_now : (offset : ℕ) (block : List ℕ) → IsBlockFor state places ino offset block → IsBlockFor after now ino offset block
      block_now offset block is = record {
        node = is.node;
        there = follows.stay ino row stands.file.1 there_now stands.file.2 offset ∙ is.there;
        own = record {
          footer_nid = is.own.footer_nid;
          footer_ino = is.own.footer_ino;
          footer_offset = is.own.footer_offset;
          lower = λ slot low small below. is.own.lower slot low small below ∙ sym (ap nid_of (follows.stay ino row stands.file.1 there_now stands.file.2 low));
          pages = λ page direct. is.own.pages page direct ∙ sym (address page);
        };
        inode = λ first one found. (let was = sym (right.frozen_rows ino frozen) ∙ found in inode_now block one was (is.inode first one was));
      }

      drawn_now : (drawn : Drawn) (block : List ℕ) → IsDrawnFor state places ino drawn block → IsDrawnFor after now ino drawn block
      drawn_now (DrawnNode offset) block is = (is.0, (right.frozen ino frozen).nodes offset ∙ is.1, block_now offset block is.2)
      drawn_now DrawnMark block is = block_now 0 block is

      slot_of_now : (slot : Slot) → IsSlotOf layout state places ino slot → IsSlotOf layout after now ino slot
      slot_of_now slot of = record { small = of.small; is_open = of.is_open; drawn = drawn_now slot.drawn (position_at layout slot.position).logged.block of.drawn }

    slot_now : (slot : Option Slot) → progress.slot ≡ slot → MatchOption slot (Unit {0}) (IsSlotOf layout state places ino) → MatchOption slot (Unit {0}) (IsSlotOf layout after now ino)
    slot_now None is of = tt
    slot_now (Some slot) is of = slot_of_now (flushed_with_slot lists layout state places ino progress slot is stands) slot of

    part_now : (part : Part) → PartStands lists layout state places ino progress part → PartStands lists layout after now ino progress part
    part_now InPages none = none
    part_now InNodes flushed = flushed_now flushed
    part_now Marked part = (flushed_now part.0, part.1)

    stands_now : FsyncStands lists layout after now ino progress
    stands_now = record { file = (row, there_now, stands.file.2); slot = slot_now progress.slot refl stands.slot; part = part_now progress.part stands.part }

  pub fsyncs_now : (seat ino : ℕ) (progress : Progress) → map.get after.flights seat ≡ Some (InFsync ino progress) → FsyncStands lists layout after now ino progress
  fsyncs_now seat ino progress found = stands_now seat ino progress (sym (ap (λ f. map.get f seat) right.rest.flights) ∙ found)

-- All that a running volume keeps, once a direct node was drawn or a slot written.
use Rattle.std.proofs.Common.{◌≡◌, inr, ℕ, ◌<◌, true, List, length, slice_index_or, refl, sym, subst}
use Rattle.std.specs.Prelude.{Some, None}
use Rattle.std.specs.FinSet as set
use Rattle.f2_format.specs.Footer.{footer_ino}
use Rattle.f2_disk.specs.Contents.{Contents}
use Rattle.f2_model.specs.Tree.{ROOT}
use Rattle.f2_model.specs.State.{State, DrawnNode, in_nodes}
use Rattle.f2_model.specs.Goes.{next_slot, node_drawn, with_progress}
use Rattle.f2_image.specs.Chains.{Logged, no_block, block_in}
use Rattle.f2_image.specs.Reached.{IsDirect}
use Rattle.f2_stored.specs.Places.{Places, nid_at}
use Rattle.f2_stored.specs.Trees.{Unwritten}
use Rattle.f2_stored.specs.Layout.{Fate, Written, Layout, chained}
use Rattle.f2_stored.specs.Numbers.{IsNumbered, MayCount}
use Rattle.f2_stored.specs.Changes.{with_fate}
use Rattle.f2_stored.specs.Kept.{IsBlockFor, IsSlotOf, position_at}
use Rattle.f2_stored.specs.Whole.{IsOwnNid, IsKeptWhole}
use Rattle.f2_change_laws.specs.Drawing.{MayBeDrawn}
use Rattle.f2_place_laws.proofs.Pairs.{still_there}
use Rattle.f2_event_laws.specs.Nodes.{offset_of}
use Rattle.f2_event_laws.specs.WholeNodes.{MayComeNext, DrawnNodesKeepWhole, SubmittedSlotsKeepWhole}
use Rattle.f2_event_laws.proofs.Ahead.{next_elsewhere, may_be_drawn}
use Rattle.f2_event_laws.proofs.Drawn.{no_direct_inode, block_of_drawn}
use Rattle.f2_event_laws.proofs.DrawnNodes.{drawn_nodes}
use Rattle.f2_event_laws.proofs.Flights.{unshrunk_still}
use Rattle.f2_event_laws.proofs.LogPlaces.{is_address, same_chain}
use Rattle.f2_event_laws.proofs.MovedNodes.{moved_nids}
use Rattle.f2_event_laws.proofs.Reach.{node_on_disk}
use Rattle.f2_event_laws.proofs.Sets.{was_in}
use Rattle.f2_event_laws.proofs.Standing.{slot_of}
use Rattle.f2_event_laws.proofs.SubmittedSlots.{submitted_slots}
use Rattle.f2_event_laws.proofs.WholeDrawn.{drawn_nids, drawn_logged, drawn_counts}

-- a direct node may be drawn
pub node_may_be_drawn : (lists : Contents) (layout : Layout) (state : State) (places : Places) (unwritten : Unwritten) (block : List ℕ) → IsKeptWhole lists layout state places unwritten → MayComeNext layout state places block
    → (ino offset : ℕ) → IsBlockFor state places ino offset block → IsDirect offset → MayBeDrawn layout block
node_may_be_drawn lists layout state places unwritten block whole may ino offset is direct = may_be_drawn lists layout state places unwritten block whole may ino offset is not_root (inr direct)
  where
    not_root : (ino ≡ ROOT) × (offset ≡ 0) → ⊥
    not_root root = no_direct_inode (subst IsDirect root.1 direct)

pub drawn_nodes_whole : DrawnNodesKeepWhole
drawn_nodes_whole lists layout state places unwritten seat ino offset progress block whole there part none dirty may unmarked is =
    let direct = whole.kept.tied.direct ino offset dirty in
    let drawn = node_may_be_drawn lists layout state places unwritten block whole may ino offset is direct in
    record {
      kept = drawn_nodes lists layout state places unwritten seat ino offset progress block whole.kept there part none dirty direct drawn (next_elsewhere lists layout state places unwritten block whole may) unmarked is;
      dirty = whole.dirty;
      nodes = whole.nodes;
      pages = whole.pages;
      nids = drawn_nids lists layout state places unwritten block layout.owners whole may drawn ino offset is;
      owners = whole.owners;
      unshrunk = unshrunk_still state (node_drawn state seat ino offset).after seat ino progress (in_nodes (Some (next_slot state (DrawnNode offset)))) there refl whole.unshrunk;
      logged = drawn_logged lists layout state places unwritten block layout.owners whole may drawn ino offset is;
      counts = λ file row of_tree. drawn_counts lists layout state places unwritten block layout.owners whole may drawn ino offset is file (whole.counts file row of_tree);
    }

-- what the log tells of its blocks, however the write of one stands
module _ (layout : Layout) (place : ℕ) (fate : Fate) (small : place < length layout.log) where
  abbrev layout_now : Layout
  layout_now = with_fate layout place fate

  pub fated_counts : (file : ℕ) → MayCount layout file → MayCount (with_fate layout place fate) file
  fated_counts file counts =
      subst (λ (c : List Logged). (k : ℕ) → k < length c → footer_ino (block_in c k) ≡ file → IsNumbered layout_now (slice_index_or c k no_block)) (sym (same_chain layout place fate small))
      (λ k less same. numbered (slice_index_or (chained layout) k no_block) (counts k less same))
    where
      numbered : (l : Logged) → IsNumbered layout l → IsNumbered layout_now l
      numbered l was = record { nid = was.nid; least = was.least; most = was.most; inode = was.inode; shape = was.shape }

  pub fated_logged : (state : State) → ((k : ℕ) → k < length (chained layout) → set.contains state.logged (footer_ino (block_in (chained layout) k)) ≡ true)
      → (k : ℕ) → k < length (chained (with_fate layout place fate)) → set.contains state.logged (footer_ino (block_in (chained (with_fate layout place fate)) k)) ≡ true
  fated_logged state logged =
      subst (λ (c : List Logged). (k : ℕ) → k < length c → set.contains state.logged (footer_ino (block_in c k)) ≡ true) (sym (same_chain layout place fate small)) logged

  pub fated_nid : (file low nid : ℕ) → IsOwnNid layout file low nid → IsOwnNid (with_fate layout place fate) file low nid
  fated_nid file low nid own = record { known = own.known; own = own.own }

pub submitted_slots_whole : SubmittedSlotsKeepWhole
submitted_slots_whole lists new layout state places unwritten seat ino progress slot whole there has block written =
    let own : IsSlotOf layout state places ino slot = slot_of lists layout state places ino progress slot has (whole.kept.fsyncs seat ino progress there) in
    let is = block_of_drawn state places ino slot.drawn (position_at layout slot.position).logged.block own.drawn in
    let in_zone = (is_address lists layout whole.kept.log.log slot.position own.small).0 in
    record {
      kept = submitted_slots lists new layout state places unwritten seat ino progress slot whole.kept there has (node_on_disk lists layout state whole.kept.log (position_at layout slot.position).logged.at in_zone) block written;
      dirty = whole.dirty;
      nodes = λ file low left.
          still_there places.nodes (ino, offset_of slot.drawn) (record { nid = nid_at places ino (offset_of slot.drawn); at = (position_at layout slot.position).logged.at }) (file, low)
          (whole.nodes file low (was_in unwritten.nodes (ino, offset_of slot.drawn) (file, low) left));
      pages = whole.pages;
      nids = λ file low n found.
          fated_nid layout slot.position Written own.small file low n.nid (moved_nids places ino (offset_of slot.drawn) (position_at layout slot.position).logged.at layout whole.nids is.node is.there file low n found);
      owners = whole.owners;
      unshrunk = unshrunk_still state (with_progress state seat ino (record progress { slot = None })) seat ino progress (record progress { slot = None }) there refl whole.unshrunk;
      logged = fated_logged layout slot.position Written own.small state whole.logged;
      counts = λ file row of_tree. fated_counts layout slot.position Written own.small file (whole.counts file row of_tree);
    }

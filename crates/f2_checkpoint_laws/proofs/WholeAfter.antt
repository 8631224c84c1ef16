-- All that a running volume keeps, from the last flush of a checkpoint on.
use Rattle.std.proofs.Common.{◌≡◌, ◌≢◌, ℕ, sym, ap, ◌∙◌, subst, arith}
use Rattle.std.specs.Prelude.{Some}
use Rattle.std.specs.FinMap as map
use Rattle.f2_disk.specs.Contents.{Contents, flushed}
use Rattle.f2_model.specs.State.{State, Flight, InFsync}
use Rattle.f2_model.specs.Goes.{completes}
use Rattle.f2_model.specs.declared.replies.Plan.{Plan}
use Rattle.f2_image.specs.Nodes.{node_address}
use Rattle.f2_image.specs.Reached.{IsNode, IsBasePage}
use Rattle.f2_stored.specs.Places.{NodeAt, Places}
use Rattle.f2_stored.specs.Trees.{Unwritten}
use Rattle.f2_stored.specs.Layout.{Reference, Layout}
use Rattle.f2_stored.specs.Bases.{HoldsPending, HoldsSome}
use Rattle.f2_stored.specs.Numbers.{HasNids, HasOwners}
use Rattle.f2_stored.specs.Kept.{IsElsewhere}
use Rattle.f2_stored.specs.Whole.{IsOwnNid, IsKeptWhole}
use Rattle.f2_change_laws.proofs.Zones.{start_in_zone}
use Rattle.f2_place_laws.proofs.Stood.{IsStood, node_is_there, address_is}
use Rattle.f2_place_laws.proofs.Nodes.{placed, page_placed}
use Rattle.f2_checkpoint_laws.specs.Done.{all_written, IsBeforeLastFlush, IsReadyForLog}
use Rattle.f2_checkpoint_laws.specs.Ended.{nids_of, owners_of, layout_after, LastFlushesKeepWhole, LayoutsAfterTellNumbers}
use Rattle.f2_checkpoint_laws.proofs.Finished.{last_flushes_keep, none_dirty, none_there}
use Rattle.f2_checkpoint_laws.proofs.Nobody.{nobody}
use Rattle.f2_checkpoint_laws.proofs.Numbered.{its_nid, nid_is, nid_from, few_owners, page_owned, owner_from}
use Rattle.f2_checkpoint_laws.proofs.Pendings.{packs_of}

module _ (lists : Contents) (layout : Layout) (state : State) (places : Places) (unwritten : Unwritten) (seat : ℕ) (plan : Plan) (pending : Reference)
    (is : IsBeforeLastFlush lists layout state places unwritten seat plan pending) (apart : IsElsewhere places pending.ckpt.head.log_start) where
  abbrev after : State
  after = (completes state seat plan).after

  -- the disk holds the pending tree but for its tail
  holds : HoldsPending lists layout.base pending state.live
  holds = subst (HoldsSome lists layout.base (Some pending)) is.tree (subst (λ held. HoldsSome lists layout.base held state.pending) is.there (packs_of lists layout state is.stored).pending)

  stood : IsStood pending.image pending.ckpt state.live places
  stood = record { none = holds.no_log; proper = is.proper; stands = is.stands }

  -- a node of the base has the nid that is known
  base_nid : (ino offset nid : ℕ) → IsNode pending.image pending.ckpt ino offset nid → map.get (nids_of places) (ino, offset) ≡ Some nid
  base_nid ino offset nid is_node =
      let own = placed pending.image pending.ckpt state.live places stood ino offset nid is_node in
      nid_is places (ino, offset) ∙ ap its_nid own.1 ∙ ap Some own.2

  one_node : (one other : ℕ × ℕ) (nid : ℕ) → map.get (nids_of places) one ≡ Some nid → map.get (nids_of places) other ≡ Some nid → one ≡ other
  one_node one other nid a b =
      let first = nid_from places one nid a in
      let second = nid_from places other nid b in
      is.live.laid.nids_apart one other first.0 second.0 first.1 second.1 (first.2 ∙ sym second.2)

  numbered : HasNids (layout_after pending places)
  numbered = record {
    base = base_nid;
    log = λ place small counts. absurd (none_there place small);
    differ = one_node;
  }

  base_owner : (ino page at : ℕ) → IsBasePage pending.image pending.ckpt ino page at → map.get (owners_of places) at ≡ Some (ino, page)
  base_owner ino page at base = page_owned places is.live.laid.pages_apart (ino, page) at (page_placed pending.image pending.ckpt state.live places stood ino page at base) base.there

  owned : HasOwners (layout_after pending places)
  owned = record {
    base = base_owner;
    few = omega (arith, few_owners places, is.stands.laid.few_pages);
  }

  -- no node of the base stands where the new log starts
  no_node : (ino offset nid : ℕ) → IsNode pending.image pending.ckpt ino offset nid → node_address pending.image pending.ckpt nid ≢ pending.ckpt.head.log_start
  no_node ino offset nid is_node same =
      let own = placed pending.image pending.ckpt state.live places stood ino offset nid is_node in
      let there = node_is_there pending.image pending.ckpt state.live places stood ino offset own.0 own.1 in
      apart.nodes ino offset own.0 own.1 (sym (address_is pending.image pending.ckpt state.live places ino offset own.0 there) ∙ ap (node_address pending.image pending.ckpt) own.2 ∙ same)

  ready : IsReadyForLog (layout_after pending places) places
  ready = record {
    address = (start_in_zone pending.image pending.ckpt holds.holds.means.checkpoint, no_node);
    apart = apart;
    nids = numbered;
    owners = owned;
  }

  own_nid : (ino offset : ℕ) (node : NodeAt) → map.get places.nodes (ino, offset) ≡ Some node → IsOwnNid (layout_after pending places) ino offset node.nid
  own_nid ino offset node there =
      let own : map.get (nids_of places) (ino, offset) ≡ Some node.nid = nid_is places (ino, offset) ∙ ap its_nid there in
      record {
        known = λ other found. (let same : Some node.nid ≡ Some other = sym own ∙ found in cc);
        own = λ other found. one_node other (ino, offset) node.nid found own;
      }

  one_owner : (ino page at : ℕ) (owner : ℕ × ℕ) → map.get places.pages (ino, page) ≡ Some at → at ≢ 0 → map.get (owners_of places) at ≡ Some owner → owner ≡ (ino, page)
  one_owner ino page at owner there some found =
      is.live.laid.pages_apart owner (ino, page) at (owner_from places.pages (map.keys places.pages) at owner found) there some

  idle : (other : ℕ) (flight : Flight) → ¬ (map.get after.flights other ≡ Some flight)
  idle = nobody state.flights seat is.alone

  whole : IsKeptWhole (flushed lists) (layout_after pending places) after places all_written
  whole = record {
    kept = last_flushes_keep lists layout state places unwritten seat plan pending (nids_of places) (owners_of places) is ready;
    dirty = λ ino page dirty. absurd (none_dirty (ino, page) dirty);
    nodes = λ ino offset left. absurd (none_dirty (ino, offset) left);
    pages = λ ino page left. absurd (none_dirty (ino, page) left);
    nids = own_nid;
    owners = one_owner;
    unshrunk = λ other ino progress found. absurd (idle other (InFsync ino progress) found);
    logged = λ place small. absurd (none_there place small);
    counts = λ ino row there place small same. absurd (none_there place small);
  }

pub last_flushes_keep_whole : LastFlushesKeepWhole
last_flushes_keep_whole lists layout state places unwritten seat plan pending is apart = whole lists layout state places unwritten seat plan pending is apart

pub layouts_after_tell_numbers : LayoutsAfterTellNumbers
layouts_after_tell_numbers geom tree places pending laid = record {
  nids = λ ino offset node there. nid_is places (ino, offset) ∙ ap its_nid there;
  only_nids = nid_from places;
  owners = λ ino page at there some. page_owned places laid.pages_apart (ino, page) at there some;
  only_owners = owner_from places.pages (map.keys places.pages);
}

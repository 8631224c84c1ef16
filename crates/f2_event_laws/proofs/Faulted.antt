-- What a disk keeps once a write or a flush failed and the volume is closed.
use Rattle.std.proofs.Common.{inr, ◌≤◌, length, refl, sym, subst₂}
use Rattle.f2_disk.specs.Contents.{Contents}
use Rattle.f2_model.specs.State.{State}
use Rattle.f2_stored.specs.Layout.{Layout}
use Rattle.f2_stored.specs.Bases.{HoldsImage}
use Rattle.f2_stored.specs.Changes.{LeaveTheSame}
use Rattle.f2_stored.specs.Stored.{IsStored, running, mounting}
use Rattle.f2_stored.specs.Kept.{IsSlotOf, position_at}
use Rattle.f2_change_laws.proofs.FreeWrites.{free_writes_keep}
use Rattle.f2_change_laws.proofs.Submits.{submits_keep}
use Rattle.f2_event_laws.specs.Faults.{FailedPagesLeave, FailedSlotsLeave, FailedFlushedNodesLeave, FailedFlushesLeave}
use Rattle.f2_event_laws.proofs.FlushedNodes.{submitted}
use Rattle.f2_event_laws.proofs.InMemory.{packs_stay, log_stays}
use Rattle.f2_event_laws.proofs.LogPlaces.{is_address}
use Rattle.f2_event_laws.proofs.PageDisks.{may_be_page}
use Rattle.f2_event_laws.proofs.Reach.{node_on_disk, page_on_disk}
use Rattle.f2_event_laws.proofs.Standing.{slot_of}

-- what is stored reads what a crash leaves of a state, and nothing else
stored_stays : (lists : Contents) (layout : Layout) (one other : State) → LeaveTheSame one other → IsStored lists layout one → IsStored lists layout other
stored_stays lists layout one other same (running packs log) = running (packs_stay lists layout one other same packs) (log_stays lists layout one other same log)
stored_stays lists layout one other same (mounting packs image) = mounting (packs_stay lists layout one other same packs) record {
  base = subst₂ (HoldsImage lists layout.base) (sym same.base) (sym same.marks) image.base;
  log = image.log;
  ends = image.ends;
  acknowledged = subst₂ (λ least marks. least ≤ length marks) (sym same.acknowledged) (sym same.marks) image.acknowledged;
}

pub failed_pages : FailedPagesLeave
failed_pages lists new layout state places unwritten ino page at content faults seat failed meant entries whole free in_zone block wrote =
    stored_stays new layout state _ (record { base = refl; marks = refl; acknowledged = refl; pending = refl; format = refl; version = refl; next_format = refl })
    (free_writes_keep lists new layout state at content (running whole.kept.packs whole.kept.log) (page_on_disk lists layout state whole.kept.log at in_zone) free (may_be_page layout at content in_zone block) (inr wrote))

pub failed_slots : FailedSlotsLeave
failed_slots lists new layout state places unwritten seat ino progress slot faults whole there has block wrote =
    let own : IsSlotOf layout state places ino slot = slot_of lists layout state places ino progress slot has (whole.kept.fsyncs seat ino progress there) in
    let in_zone = (is_address lists layout whole.kept.log.log slot.position own.small).0 in
    let disk =
    (submits_keep lists new layout state slot.position whole.kept.packs whole.kept.log whole.kept.none_pending own.small own.is_open
    (node_on_disk lists layout state whole.kept.log (position_at layout slot.position).logged.at in_zone) block).1 wrote in
    stored_stays new _ state _ (record { base = refl; marks = refl; acknowledged = refl; pending = refl; format = refl; version = refl; next_format = refl }) (running disk.0 disk.1)

pub failed_nodes : FailedFlushedNodesLeave
failed_nodes lists new layout state places unwritten ino offset block faults whole dirty may unmarked is bytes wrote =
    let disk = (submitted lists new layout state places unwritten ino offset block whole dirty may is unmarked bytes).failed wrote in
    stored_stays new _ state _ (record { base = refl; marks = refl; acknowledged = refl; pending = refl; format = refl; version = refl; next_format = refl }) (running disk.0 disk.1)

pub failed_flushes : FailedFlushesLeave
failed_flushes lists layout state faults seat failed stored =
    stored_stays lists layout state _ (record { base = refl; marks = refl; acknowledged = refl; pending = refl; format = refl; version = refl; next_format = refl }) stored

-- What a disk keeps once a write or a flush of a checkpoint failed and the volume is closed.
use Rattle.std.proofs.Common.{inr, refl}
use Rattle.f2_change_laws.proofs.FreeWrites.{free_writes_keep}
use Rattle.f2_stored_laws.proofs.InMemory.{memory_keeps}
use Rattle.f2_checkpoint_laws.specs.Faults.{FailedBlocksLeave, FailedFirstFlushesLeave, FailedTailsLeave, FailedLastFlushesLeave}
use Rattle.f2_checkpoint_laws.proofs.Pendings.{tails_make_pending}

pub failed_blocks : FailedBlocksLeave
failed_blocks lists new layout state places unwritten at content faults seat is free within may failed =
    memory_keeps new layout state _ (free_writes_keep lists new layout state at content is.stored within free may (inr failed))
    (record { base = refl; marks = refl; acknowledged = refl; pending = refl; format = refl; version = refl; next_format = refl })

pub failed_first_flushes : FailedFirstFlushesLeave
failed_first_flushes lists layout state places unwritten faults seat is =
    memory_keeps lists layout state _ is.stored (record { base = refl; marks = refl; acknowledged = refl; pending = refl; format = refl; version = refl; next_format = refl })

pub failed_tails : FailedTailsLeave
failed_tails lists new layout state places unwritten ckpt tail faults seat is out ready failed =
    memory_keeps new _ _ _ (tails_make_pending lists new layout state places unwritten ckpt tail is out ready (inr failed))
    (record { base = refl; marks = refl; acknowledged = refl; pending = refl; format = refl; version = refl; next_format = refl })

pub failed_last_flushes : FailedLastFlushesLeave
failed_last_flushes lists layout state places unwritten seat plan pending faults is =
    (memory_keeps lists layout state _ is.stored (record { base = refl; marks = refl; acknowledged = refl; pending = refl; format = refl; version = refl; next_format = refl }), is.tree)

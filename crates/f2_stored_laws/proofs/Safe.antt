-- A disk on which a state is kept is safe.
use Rattle.std.proofs.Common.{[]}
use Rattle.f2_disk.specs.Contents.{Contents, IsImage, latest}
use Rattle.f2_model.specs.State.{State}
use Rattle.f2_image.specs.Images.{Image, block_at}
use Rattle.f2_image.specs.Packs.{other_side, tail_address}
use Rattle.f2_image.specs.Meanings.{IsLeft, IsSafe}
use Rattle.f2_stored.specs.Layout.{Layout}
use Rattle.f2_stored.specs.Bases.{IsPendingTail}
use Rattle.f2_stored.specs.Stored.{KeepsPacks, IsStored}
use Rattle.f2_stored.specs.Stored as stored
use Rattle.f2_stored_laws.proofs.Images.{latest_is_image}
use Rattle.f2_stored_laws.proofs.Packs.{is_pending_tail}
use Rattle.f2_stored_laws.proofs.Pending.{pending_left}
use Rattle.f2_stored_laws.proofs.FoundImages.{found_left}
use Rattle.f2_stored_laws.proofs.LogLeft.{log_left}

pub stored_is_safe : (lists : Contents) (layout : Layout) (state : State) → IsStored lists layout state → IsSafe lists state
stored_is_safe lists layout state (stored.running packs log) = ((latest lists, latest_is_image lists packs.whole.held), λ image is. by_tail image is (is_pending_tail layout.pending (block_at image (tail_address (other_side layout.base.ckpt.side)))))
  where
    by_tail : (image : Image) → IsImage lists image → Dec (IsPendingTail layout.pending (block_at image (tail_address (other_side layout.base.ckpt.side)))) → IsLeft state image
    by_tail image is (yes tail) = pending_left lists layout state packs state.base [] log.base image is tail
    by_tail image is (no none) = log_left lists layout state packs log image is none
stored_is_safe lists layout state (stored.mounting packs keeps) = ((latest lists, latest_is_image lists packs.whole.held), λ image is. by_tail image is (is_pending_tail layout.pending (block_at image (tail_address (other_side layout.base.ckpt.side)))))
  where
    by_tail : (image : Image) → IsImage lists image → Dec (IsPendingTail layout.pending (block_at image (tail_address (other_side layout.base.ckpt.side)))) → IsLeft state image
    by_tail image is (yes tail) = pending_left lists layout state packs state.base state.marks keeps.base image is tail
    by_tail image is (no none) = found_left lists layout state packs keeps image is none

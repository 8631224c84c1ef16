-- An image of a disk with a node log stands for the base and the marks in its part of the log.
use Rattle.std.proofs.Common.{◌≢◌, inl, [], refl}
use Rattle.f2_disk.specs.Contents.{Contents, IsImage}
use Rattle.f2_model.specs.State.{State, base_up_to}
use Rattle.f2_image.specs.Images.{Image, block_at}
use Rattle.f2_image.specs.Packs.{other_side, tail_address}
use Rattle.f2_image.specs.Faults.{Which, BadSuper, NoCheckpoint, VersionEnd, Journal, BadNat, BadInode, DentFault, ChainLong, OutOfZone, Shared, Conflict, NoParent, BadTree, TooFull, StandsAt, IsSound}
use Rattle.f2_image.specs.Meanings.{IsLeft}
use Rattle.f2_stored.specs.Layout.{Layout}
use Rattle.f2_stored.specs.Bases.{IsPendingTail}
use Rattle.f2_stored.specs.Stored.{KeepsPacks, KeepsLog}
use Rattle.f2_stored_laws.proofs.Packs.{base_counts}
use Rattle.f2_stored_laws.proofs.Clean.{base_clean}
use Rattle.f2_stored_laws.proofs.LogImages.{HasPart, has_part, kept, kept_marks, acknowledged_kept}
use Rattle.f2_stored_laws.proofs.Meant.{base_meant, marks_meant}
use Rattle.f2_stored_laws.proofs.NodeFaults.{no_bad_nat, no_bad_inode, no_dentry_fault}
use Rattle.f2_stored_laws.proofs.BlockFaults.{no_long_chain, none_out_of_zone, none_shared}
use Rattle.f2_stored_laws.proofs.NameFaults.{no_conflict, no_lost_parent}
use Rattle.f2_stored_laws.proofs.TreeFaults.{no_bad_tree}
use Rattle.f2_stored_laws.proofs.FullFaults.{not_too_full}

sound_part : (lists : Contents) (layout : Layout) (state : State) (image : Image) → HasPart lists layout state image → IsSound image layout.base.ckpt
sound_part lists layout state image part which at no_end stands = by_which which no_end stands
  where
    by_which : (which : Which) → which ≢ VersionEnd → StandsAt which image layout.base.ckpt at → ⊥
    by_which BadSuper no_end stands = stands
    by_which NoCheckpoint no_end stands = stands
    by_which VersionEnd no_end stands = no_end refl
    by_which Journal no_end stands = part.keeps.base.means.sound Journal at no_end stands
    by_which BadNat no_end stands = no_bad_nat lists layout state image part at stands.0 stands.1
    by_which BadInode no_end stands = no_bad_inode lists layout state image part at stands
    by_which DentFault no_end stands = no_dentry_fault lists layout state image part at stands.0 stands.1
    by_which ChainLong no_end stands = no_long_chain lists layout state image part at stands
    by_which OutOfZone no_end stands = none_out_of_zone lists layout state image part at stands
    by_which Shared no_end stands = none_shared lists layout state image part at stands.0 stands.1
    by_which Conflict no_end stands = no_conflict lists layout state image part at stands.0 stands.1
    by_which NoParent no_end stands = no_lost_parent lists layout state image part at stands.1
    by_which BadTree no_end stands = no_bad_tree lists layout state image part at stands.0 stands.1
    by_which TooFull no_end stands = not_too_full lists layout state image part at stands.0 stands.1

pub log_left : (lists : Contents) (layout : Layout) (state : State) → KeepsPacks lists layout state → KeepsLog lists layout state → (image : Image) → IsImage lists image
    → ¬ (IsPendingTail layout.pending (block_at image (tail_address (other_side layout.base.ckpt.side)))) → IsLeft state image
log_left lists layout state packs keeps image is none =
    let part = has_part lists layout state image keeps is in
    let place = kept lists layout state image part in
    record {
      ckpt = layout.base.ckpt;
      meaning = base_up_to state place;
      remains = inl (place, acknowledged_kept lists layout state image part, (kept_marks lists layout state image part).1, refl);
      means = record {
        checkpoint = base_counts lists image is layout.base state.base [] keeps.base layout.pending packs.packs none;
        sound = sound_part lists layout state image part;
        is_base = base_meant lists layout state image part;
        are_marks = marks_meant lists layout state image part;
      };
      version = packs.version;
      format = packs.format;
      clean = base_clean lists image is layout.base state.base [] keeps.base.means layout.pending packs.packs packs.no_later none;
    }

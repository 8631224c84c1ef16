-- What a scan tells of an image with a checkpoint: where it gives a chain, that is the chain of the image, and the conditions
-- that stand for its node log don't stand; where it gives a fault, the condition of that name stands with its number.
use Rattle.std.specs.Prelude.{◌≡◌, ◌≢◌, ℕ, ◌<◌, false, List, length, slice_index_or}
use Rattle.f2_format.specs.Footer.{footer_next}
use Rattle.f2_format.specs.Geometry.{is_in_node}
use Rattle.f2_image.specs.Images.{Image}
use Rattle.f2_image.specs.Packs.{Checkpoint, recovery_version}
use Rattle.f2_image.specs.Chains.{Logged, chain, no_block}
use Rattle.f2_image.specs.Reached.{IsMarkedAt}
use Rattle.f2_image.specs.Faults.{IsBadInode, IsChainLong, IsForeign, IsOutOfZone}
use Rattle.f2_node_block.specs.declared.inodes.InodeFault.{InodeFault}
use Rattle.f2_scan.specs.declared.faults.ScanFault.TheVariants.{ChainLong, BadInode, OutOfZone}
use Rattle.f2_scan.specs.Logs.{IsFault, IsRightLog, log_from}

-- the log that a scan is about, from where and with which version the checkpoint says
abbrev pub log_of : Image → Checkpoint → List Logged
log_of image ckpt = log_from ckpt.geom image (recovery_version ckpt) ckpt.head.log_start

-- it is the chain of the image
abbrev pub LogsAreChains : Type 0
LogsAreChains = (image : Image) (ckpt : Checkpoint) → log_of image ckpt ≡ chain image ckpt

-- no condition that stands for the node log stands in an image
pub record HasNoLogFault (image : Image) (ckpt : Checkpoint) : Type 0 where
  pub no_chain_long : (at : ℕ) → ¬ (IsChainLong image ckpt at)
  pub no_bad_inode : (place : ℕ) (block : List ℕ) → IsMarkedAt image ckpt place block → ¬ (IsForeign block)
  pub no_out_of_zone : (place at : ℕ) → place < length (chain image ckpt) → footer_next (slice_index_or (chain image ckpt) place no_block).block ≡ at
      → at ≢ 0 → ¬ (is_in_node ckpt.geom at ≡ false)

abbrev pub RightLogsHaveNoFault : Type 0
RightLogsHaveNoFault = (image : Image) (ckpt : Checkpoint) → IsRightLog ckpt.geom (log_of image ckpt) → HasNoLogFault image ckpt

-- each fault is the condition of its name, with its number
abbrev pub LongChainsAreLong : Type 0
LongChainsAreLong = (image : Image) (ckpt : Checkpoint) (at : ℕ) → IsFault ckpt.geom (log_of image ckpt) (ChainLong at) → IsChainLong image ckpt at

abbrev pub BadInodesAreBad : Type 0
BadInodesAreBad = (image : Image) (ckpt : Checkpoint) (at : ℕ) (why : InodeFault) → IsFault ckpt.geom (log_of image ckpt) (BadInode at why) → IsBadInode image ckpt at

abbrev pub OutOfZonesAreOut : Type 0
OutOfZonesAreOut = (image : Image) (ckpt : Checkpoint) (at : ℕ) → IsFault ckpt.geom (log_of image ckpt) (OutOfZone at) → IsOutOfZone image ckpt at

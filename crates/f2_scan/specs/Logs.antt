-- The node log of an image from an address on, and the conditions under which recovery takes nothing of it
-- (find_fsync_dnodes of recovery.c).
use Rattle.std.specs.Prelude.{◌≡◌, ◌≢◌, ℕ, ◌+◌, ◌<◌, ◌≤◌, ◌==◌, false, if◌then◌else◌, List, length, Option, Some, None, Err, All, IsTrue, ⊤, slice_index_or}
use Rattle.f2_format.specs.Footer.{footer_version, footer_next}
use Rattle.f2_format.specs.Geometry.{ImageGeometry, is_in_node, node_third}
use Rattle.f2_format.specs.Inode.{inode_of}
use Rattle.f2_image.specs.Images.{Image, block_at}
use Rattle.f2_image.specs.Chains.{Logged, chain_from, is_marked, no_block}
use Rattle.f2_image.specs.Faults.{IsForeign}
use Rattle.f2_node_block.specs.Inodes.{checked_inode}
use Rattle.f2_scan.specs.declared.faults.ScanFault.{ScanFault}
use Rattle.f2_scan.specs.declared.faults.ScanFault.TheVariants.{Read, ChainLong, BadInode, OutOfZone, Memory}

-- the block of the log at an address: none for 0, and none where the block carries another version
abbrev pub logged_at : Image → ℕ → ℕ → Option Logged
logged_at image version at =
    if at == 0 then None
    else if footer_version (block_at image at) == version
    then Some (record { at = at; block = block_at image at })
    else None

-- the log from an address on; where it goes on after a third of the node zone, one block more is told
abbrev pub log_from : ImageGeometry → Image → ℕ → ℕ → List Logged
log_from geom image version start = chain_from image version (node_third geom + 1) start

-- recovery may take a block of the log: no mark of it is on a wrong inode, and it names 0 or an address in the node zone as the
-- next
pub record IsRight (geom : ImageGeometry) (logged : Logged) : Type 0 where
  pub inode : IsTrue (is_marked logged.block) → ¬ (IsForeign logged.block)
  pub next : footer_next logged.block ≢ 0 → IsTrue (is_in_node geom (footer_next logged.block))

-- recovery may take a log: it has no more blocks than a third of the node zone, each in the node zone and right
pub record IsRightLog (geom : ImageGeometry) (log : List Logged) : Type 0 where
  pub size : length log ≤ node_third geom
  pub within : All (λ logged. IsTrue (is_in_node geom logged.at)) log
  pub right : All (IsRight geom) log

-- what is wrong with one block of a log
abbrev pub IsBlockFault : ImageGeometry → Logged → ScanFault → Type 0
IsBlockFault geom logged Read = ⊥
IsBlockFault geom logged (ChainLong at) = ⊥
IsBlockFault geom logged (BadInode at why) = IsTrue (is_marked logged.block) × (at ≡ logged.at) × (checked_inode (inode_of logged.block) ≡ Err why)
IsBlockFault geom logged (OutOfZone at) = (at ≡ footer_next logged.block) × (at ≢ 0) × (is_in_node geom at ≡ false)
IsBlockFault geom logged Memory = ⊥

-- a block of a log is wrong in this way
pub record HasBlockFault (geom : ImageGeometry) (log : List Logged) (fault : ScanFault) : Type 0 where
  pub place : ℕ
  pub within : place < length log
  pub wrong : IsBlockFault geom (slice_index_or log place no_block) fault

-- a fault that comes from outside of the log: of a read, or of memory
abbrev pub IsOutside : ScanFault → Type 0
IsOutside Read = ⊤
IsOutside (ChainLong at) = ⊥
IsOutside (BadInode at why) = ⊥
IsOutside (OutOfZone at) = ⊥
IsOutside Memory = ⊤

-- a fault stands in a log, or comes from outside of it
abbrev pub IsFault : ImageGeometry → List Logged → ScanFault → Type 0
IsFault geom log Read = ⊤
IsFault geom log (ChainLong at) = (node_third geom < length log) × (at ≡ (slice_index_or log (node_third geom) no_block).at)
IsFault geom log (BadInode at why) = HasBlockFault geom log (BadInode at why)
IsFault geom log (OutOfZone at) = HasBlockFault geom log (OutOfZone at)
IsFault geom log Memory = ⊤

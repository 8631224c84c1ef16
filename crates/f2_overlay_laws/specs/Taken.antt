-- The nodes that rolls tell: those of the blocks that recovery takes of a node log.
use Rattle.std.specs.Prelude.{◌≡◌, ℕ, ◌≤◌, List, Some}
use Rattle.std.specs.Ordering.{nat_cmp}
use Rattle.std.specs.FinMap as map
use Rattle.f2_format.specs.Footer.{footer_ino, footer_offset}
use Rattle.f2_image.specs.Images.{Image}
use Rattle.f2_image.specs.Packs.{Checkpoint}
use Rattle.f2_image.specs.Chains.{chain, block_in}
use Rattle.f2_image.specs.Reached.{IsTaken}
use Rattle.f2_overlay.specs.Nodes.{IsRightNid, HasRightNids}
use Rattle.f2_overlay.specs.Rolls.{AreRolls}
use Rattle.f2_overlay.specs.Taking.{node_in}
use Rattle.f2_overlay.specs.declared.rolls.Roll.{Roll}
use Rattle.f2_overlay.specs.declared.taking.NodeAt.{NodeAt}
use Rattle.f2_recover.specs.declared.walk.Walk.{Walk}

-- a node of a file is that of a block that recovery takes, and its nid is right
pub record IsOfTaken (image : Image) (ckpt : Checkpoint) (ino offset : ℕ) (told : NodeAt) : Type 0 where
  pub place : ℕ
  pub taken : IsTaken image ckpt place (block_in (chain image ckpt) place)
  pub own : footer_ino (block_in (chain image ckpt) place) ≡ ino
  pub offset_is : footer_offset (block_in (chain image ckpt) place) ≡ offset
  pub node_is : told ≡ node_in (chain image ckpt) place
  pub right : IsRightNid image ckpt (block_in (chain image ckpt) place)

-- a block is the last one of its node that recovery takes
pub record IsLastTaken (image : Image) (ckpt : Checkpoint) (place : ℕ) (block : List ℕ) : Type 0 where
  pub taken : IsTaken image ckpt place block
  pub last : (later : ℕ) (other : List ℕ) → IsTaken image ckpt later other → footer_ino other ≡ footer_ino block → footer_offset other ≡ footer_offset block → later ≤ place

-- the roll of a file tells a node of it
pub record TellsNode (rolls : map.FinMap nat_cmp Roll) (ino offset : ℕ) (told : NodeAt) : Type 0 where
  pub roll : Roll
  pub there : map.get rolls ino ≡ Some roll
  pub tells : map.get roll.nodes offset ≡ Some told

-- each node that a roll tells is that of a block that recovery takes, and the last block that it takes of a node is told
pub record AreTakenNodes (image : Image) (ckpt : Checkpoint) (rolls : map.FinMap nat_cmp Roll) : Type 0 where
  pub only : (ino offset : ℕ) (told : NodeAt) → TellsNode rolls ino offset told → IsOfTaken image ckpt ino offset told
  pub all : (place : ℕ) (block : List ℕ) → IsLastTaken image ckpt place block → TellsNode rolls (footer_ino block) (footer_offset block) (node_in (chain image ckpt) place)

abbrev pub RolledNodesAreTaken : Type 0
RolledNodesAreTaken =
    (image : Image) (ckpt : Checkpoint) (walk : Walk) (rolls : map.FinMap nat_cmp Roll) → HasRightNids image ckpt → AreRolls image ckpt walk rolls → AreTakenNodes image ckpt rolls

-- The files that were marked since the checkpoint, as their last marks have them.
use Rattle.std.specs.Prelude.{◌≡◌, ◌≢◌, ℕ, ◌*◌, ◌<◌, IsTrue, List, length, take, Option, Some, None}
use Rattle.std.specs.Option.{unwrap_or}
use Rattle.std.specs.Ordering.{nat_cmp}
use Rattle.std.specs.FinMap as map
use Rattle.f2_format.specs.Geometry.{data_third, is_in_data}
use Rattle.f2_format.specs.Inode.{inode_of}
use Rattle.f2_format.specs.Offsets.{page_limit}
use Rattle.f2_image.specs.Images.{Image}
use Rattle.f2_image.specs.Packs.{Checkpoint}
use Rattle.f2_image.specs.Chains.{chain, block_in, marked_address}
use Rattle.f2_image.specs.Reached.{IsPage, IsMarkedAt, IsMarkedPage, HasMore}
use Rattle.f2_image.specs.Faults.{IsPastSize, IsSomeBlock}
use Rattle.f2_overlay.specs.Lasts.{last_mark_before}
use Rattle.f2_overlay.specs.Taking.{AreNodesAt}
use Rattle.f2_overlay.specs.declared.rolls.Roll.{Roll}
use Rattle.f2_recover.specs.declared.rows.BaseRow.{BaseRow}
use Rattle.f2_recover.specs.declared.walk.Walk.{Walk}

-- a file's directory and name: the base's, or those that its mark brings
abbrev pub IsRollNamed : List ℕ → Roll → Option BaseRow → Type 0
IsRollNamed block roll (Some row) = (roll.parent ≡ row.parent) × (roll.name ≡ row.name)
IsRollNamed block roll None = (roll.parent ≡ (inode_of block).parent) × (roll.name ≡ take (inode_of block).name_length (inode_of block).name)

-- a file is as its mark at a place has it: its size, the addresses of its pages that aren't 0, and its nodes in the node log
pub record IsRollAt (image : Image) (ckpt : Checkpoint) (walk : Walk) (place ino : ℕ) (roll : Roll) : Type 0 where
  pub size : roll.size ≡ (inode_of (block_in (chain image ckpt) place)).size
  pub named : IsRollNamed (block_in (chain image ckpt) place) roll (map.get walk.rows ino)
  pub pages : (page : ℕ) → page < page_limit → unwrap_or (map.get roll.pages page) 0 ≡ marked_address image ckpt (chain image ckpt) place page
  pub there : (page at : ℕ) → map.get roll.pages page ≡ Some at → at ≢ 0
  pub within : (page at : ℕ) → map.get roll.pages page ≡ Some at → page < page_limit
  pub nodes : AreNodesAt image ckpt place ino roll.nodes

-- a file that was marked is as its last mark has it
abbrev pub IsRoll : Image → Checkpoint → Walk → ℕ → Option ℕ → Option Roll → Type 0
IsRoll image ckpt walk ino None None = Unit {0}
IsRoll image ckpt walk ino (Some place) (Some roll) = IsRollAt image ckpt walk place ino roll
IsRoll image ckpt walk ino one other = ⊥

abbrev pub AreRollsTo : Image → Checkpoint → Walk → ℕ → map.FinMap nat_cmp Roll → Type 0
AreRollsTo image ckpt walk place rolls = (ino : ℕ) → IsRoll image ckpt walk ino (last_mark_before (chain image ckpt) place ino) (map.get rolls ino)

abbrev pub AreRolls : Image → Checkpoint → Walk → map.FinMap nat_cmp Roll → Type 0
AreRolls image ckpt walk rolls = AreRollsTo image ckpt walk (length (chain image ckpt)) rolls

-- the pages of marks are right: in their zone, no two pages of base and marks at one address, none past its mark's size, and not more than two
-- thirds of their zone
pub record HasRightPages (image : Image) (ckpt : Checkpoint) : Type 0 where
  pub zones : (ino page at : ℕ) → IsMarkedPage image ckpt ino page at → IsTrue (is_in_data ckpt.geom at)
  pub apart : (ino page other more at : ℕ) → IsPage image ckpt ino page at → IsPage image ckpt other more at → (ino ≡ other) × (page ≡ more)
  pub ends : (place page : ℕ) (block : List ℕ) → IsMarkedAt image ckpt place block → page < page_limit → marked_address image ckpt (chain image ckpt) place page ≢ 0
      → ¬ (IsPastSize image (inode_of block).size page (marked_address image ckpt (chain image ckpt) place page))
  pub few : ¬ (HasMore ℕ (IsSomeBlock image ckpt) (2 * data_third ckpt.geom))

-- The files that were marked, as far as a node log was walked.
use Rattle.std.specs.Prelude.{◌≡◌, ◌≢◌, ℕ, ◌<◌, List, take, Option, Some, None}
use Rattle.std.specs.FinMap as map
use Rattle.f2_disk.specs.Contents.{Contents}
use Rattle.f2_format.specs.Footer.{footer_ino}
use Rattle.f2_format.specs.Geometry.{ImageGeometry}
use Rattle.f2_format.specs.Inode.{inode_of}
use Rattle.f2_format.specs.Offsets.{page_limit}
use Rattle.f2_image.specs.Images.{Image}
use Rattle.f2_image.specs.Packs.{Checkpoint}
use Rattle.f2_image.specs.Chains.{Logged, chain, marked_address}
use Rattle.f2_image.specs.Reached.{IsBasePage, IsMarkedAt}
use Rattle.f2_image.specs.Faults.{IsPastSize}
use Rattle.f2_overlay.specs.Rolls.{AreRollsTo}
use Rattle.f2_overlay.specs.Pending.{ArePending}
use Rattle.f2_overlay.specs.Owning.{Owned, Pages, AreRight}
use Rattle.f2_overlay.specs.Taking.{Nodes}
use Rattle.f2_overlay.specs.Putting.{address_of}
use Rattle.f2_overlay.specs.declared.rolls.Roll.{Roll}
use Rattle.f2_overlay.specs.declared.marks.Rolling.{Rolling}
use Rattle.f2_node_block.specs.declared.inodes.Inode.{Inode}
use Rattle.f2_recover.specs.Told.{Tells}
use Rattle.f2_recover.specs.Walking.{IsBaseRead}
use Rattle.f2_recover.specs.Seeing.{IsList}
use Rattle.f2_recover.specs.declared.rows.BaseRow.{BaseRow}
use Rattle.f2_recover.specs.declared.walk.Walk.{Walk}

-- a log is walked over the base of its image, which was read
pub record IsGround (held : Option Contents) (geom : ImageGeometry) (image : Image) (ckpt : Checkpoint) (walk : Walk) (log : List Logged) : Type 0 where
  pub tells : Tells held image
  pub geom_is : ckpt.geom ≡ geom
  pub base : IsBaseRead image ckpt walk
  pub chain_is : log ≡ chain image ckpt

-- the pages with which a mark of a file begins: those of its mark before, else those of the base
abbrev pub StartAs : Option Roll → Option BaseRow → Pages → Type 0
StartAs (Some roll) row pages = pages ≡ roll.pages
StartAs None (Some row) pages = (limit : ℕ) → IsList limit row.file.nodes.pages.pages row.file.nodes.list.items → (page : ℕ) → map.get pages page ≡ map.get row.file.nodes.pages.pages page
StartAs None None pages = pages ≡ map.empty

-- the nodes of the log with which a mark of a file begins: those of its mark before, else none
abbrev pub StartNodesAs : Option Roll → Nodes → Type 0
StartNodesAs (Some roll) nodes = nodes ≡ roll.nodes
StartNodesAs None nodes = nodes ≡ map.empty

-- the pages of a mark
pub record AreMarked (image : Image) (ckpt : Checkpoint) (place : ℕ) (pages : Pages) : Type 0 where
  pub addresses : (page : ℕ) → page < page_limit → address_of pages page ≡ marked_address image ckpt (chain image ckpt) place page
  pub some : (page at : ℕ) → map.get pages page ≡ Some at → at ≢ 0
  pub within : (page at : ℕ) → map.get pages page ≡ Some at → page < page_limit

-- the pages of base and marks before a place have their addresses
pub record AreOwnersTo (image : Image) (ckpt : Checkpoint) (place : ℕ) (owned : Owned) : Type 0 where
  pub right : AreRight image ckpt owned
  pub base : (ino page at : ℕ) → IsBasePage image ckpt ino page at → map.get owned at ≡ Some (record { ino = ino; page = page })
  pub marks : (mark page : ℕ) (block : List ℕ) → mark < place → IsMarkedAt image ckpt mark block → page < page_limit → marked_address image ckpt (chain image ckpt) mark page ≢ 0
      → map.get owned (marked_address image ckpt (chain image ckpt) mark page) ≡ Some (record { ino = footer_ino block; page = page })

-- no mark before a place has a page past its size
abbrev pub EndsWell : Image → Checkpoint → ℕ → Type 0
EndsWell image ckpt mark = (page : ℕ) (block : List ℕ) → IsMarkedAt image ckpt mark block → page < page_limit → marked_address image ckpt (chain image ckpt) mark page ≢ 0
    → ¬ (IsPastSize image (inode_of block).size page (marked_address image ckpt (chain image ckpt) mark page))

-- a log was walked up to a place
pub record IsRolledTo (image : Image) (ckpt : Checkpoint) (walk : Walk) (place : ℕ) (rolling : Rolling) : Type 0 where
  pub rolls : AreRollsTo image ckpt walk place rolling.rolls
  pub pending : ArePending (chain image ckpt) place rolling.pending
  pub owners : AreOwnersTo image ckpt place rolling.owners
  pub ends : (mark : ℕ) → mark < place → EndsWell image ckpt mark

-- a file's directory and name are those of the base, or those that its inode tells
abbrev pub IsNamedAs : Inode → Option BaseRow → ℕ → List ℕ → Type 0
IsNamedAs inode (Some row) parent name = (parent ≡ row.parent) × (name ≡ row.name)
IsNamedAs inode None parent name = (parent ≡ inode.pino) × (name ≡ take inode.name_len inode.name)

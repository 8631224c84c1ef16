-- Files as their inodes and their pages tell them.
use Rattle.std.specs.Prelude.{◌≡◌, ◌≢◌, ℕ, ◌<◌, ◌≤◌, List, length, slice_get, None}
use Rattle.std.specs.FinMap as map
use Rattle.f2_format.specs.Offsets.{inode_pages}
use Rattle.f2_format.specs.Footer.{footer_nid, footer_ino, footer_offset}
use Rattle.f2_format.specs.Inode.{inode_of}
use Rattle.f2_image.specs.Images.{Image}
use Rattle.f2_model.specs.Content.{PageMap}
use Rattle.f2_model.specs.declared.rows.Row.{Row}
use Rattle.f2_model.specs.declared.rows.Kind.{Kind}
use Rattle.f2_model.specs.declared.rows.Kind.TheVariants.{Regular, Directory}
use Rattle.f2_laid.specs.Laid.{page_at, page_in}
use Rattle.f2_laid.specs.declared.places.Place.{Place}
use Rattle.f2_plain_read.specs.declared.files.File.{File}

-- the size that an inode tells of a file of a kind: a directory has none
abbrev pub size_in : Kind → List ℕ → ℕ
size_in Regular block = (inode_of block).size
size_in Directory block = 0

-- a file as its inode tells it
pub record IsFileIn (block : List ℕ) (row : Row) (at_place : Place) (file : File) : Type 0 where
  pub kind : file.kind ≡ row.kind
  pub size : file.size ≡ size_in row.kind block
  pub place : file.place ≡ at_place

-- a block is the first node of the file of an ino, by its footer
pub record IsFirstNode (block : List ℕ) (ino : ℕ) : Type 0 where
  pub nid : footer_nid block ≡ ino
  pub own : footer_ino block ≡ ino
  pub offset : footer_offset block ≡ 0

-- the pages that an image has at the addresses of a place
pub record ArePagesAt (image : Image) (place : Place) (pages : PageMap) : Type 0 where
  pub within : (page : ℕ) → page < inode_pages → map.get pages page ≡ page_in image place page
  pub past : (page : ℕ) → inode_pages ≤ page → map.get pages page ≡ None

-- an address of a place is past the end of an image
abbrev pub ReachesPast : Image → Place → Type 0
ReachesPast image place = (page : ℕ) × ((page_at place page ≢ 0) × (length image ≤ page_at place page))

-- pages are these blocks, one after another
pub record AreBlocks (pages : PageMap) (blocks : List (List ℕ)) : Type 0 where
  pub each : (page : ℕ) → page < inode_pages → map.get pages page ≡ slice_get blocks page
  pub few : length blocks ≤ inode_pages

-- A file of the base that was read.
use Rattle.std.specs.Prelude.{◌≡◌, ℕ, List, slice_index, slice_index_or}
use Rattle.std.specs.Ordering.{nat_cmp}
use Rattle.std.specs.FinSet as set
use Rattle.f2_format.specs.Inode.{inode_of}
use Rattle.f2_format.specs.Offsets.{page_limit}
use Rattle.f2_image.specs.Images.{Image}
use Rattle.f2_image.specs.Packs.{Checkpoint}
use Rattle.f2_image.specs.Bases.{IsInode, IsReached}
use Rattle.f2_image.specs.Faults.{IsForeign}
use Rattle.f2_recover.specs.Taking.{Taken}
use Rattle.f2_recover.specs.Seeing.{IsSeen, node_limit}
use Rattle.f2_recover.specs.declared.files.File.{File}

-- a file has this kind and this size, and what is kept of it are all its nodes and pages
pub record IsFileRead (image : Image) (ckpt : Checkpoint) (inos : set.FinSet nat_cmp) (ino : ℕ) (taken : Taken) (file : File) : Type 0 where
  pub reached : IsReached image ckpt ino
  pub inode : List ℕ
  pub is : IsInode image ckpt ino file.kind inode
  pub own : ¬ (IsForeign inode)
  pub size : file.size ≡ (inode_of inode).size
  pub seen : IsSeen image ckpt inos ino node_limit page_limit taken file.nodes

-- the nids of an inode behind those of its two direct nodes
pub record AreLast (nids inode : List ℕ) : Type 0 where
  pub first : slice_index nids 0 ≡ slice_index_or (inode_of inode).nids 2 0
  pub second : slice_index nids 1 ≡ slice_index_or (inode_of inode).nids 3 0
  pub double : slice_index nids 2 ≡ slice_index_or (inode_of inode).nids 4 0

use Rattle.std.proofs.Common.{◌≡◌, ℕ, List}
use Rattle.std.specs.Ordering.{nat_cmp}
use Rattle.std.specs.FinSet as set
use Rattle.f2_format.specs.Inode.{inode_of}
use Rattle.f2_image.specs.Images.{Image}
use Rattle.f2_image.specs.Packs.{Checkpoint}
use Rattle.f2_recover.specs.Reading.{IsFile}
use Rattle.f2_recover.specs.Seeing.{IsSeen}
use Rattle.f2_recover.proofs.files.add_first_pages.Given as goal

abbrev pub invariant-loop-page : goal.invariant-loop-page
invariant-loop-page l = record {
  geom : l.zones.geom ≡ l.fn.zones.geom;
  seen : (image : Image) (ckpt : Checkpoint) (inos : set.FinSet nat_cmp) (ino offset : ℕ) (inode : List ℕ) → ckpt.geom ≡ l.fn.zones.geom → IsFile image ckpt ino inode
      → l.fn.addresses ≡ (inode_of inode).addresses → IsSeen image ckpt inos ino offset 0 l.fn.zones l.fn.file → IsSeen image ckpt inos ino offset l.page l.zones l.file;
}

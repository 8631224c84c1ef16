-- What a running volume knows of the places on its disk.
use Rattle.std.specs.Prelude.{ℕ, List, map as map_list, Option}
use Rattle.std.specs.Ordering.{nat_cmp}
use Rattle.std.specs.FinMap as map
use Rattle.f2_model.specs.State.{pair_cmp}
use Rattle.f2_image.specs.Images.{Image}
use Rattle.f2_image.specs.Packs.{Checkpoint, recovery_version}
use Rattle.f2_image.specs.Chains.{Logged}

-- how it stands with the write of a position's block: it wasn't made, it was made, or it failed, after which the block may be there
pub data Fate : Type 0 where
  Open : Fate
  Written : Fate
  Failed : Fate

-- a position of the node log: its address with the block that stands there or will
pub record Position : Type 0 where
  pub logged : Logged
  pub fate : Fate

-- an image that stands for a tree, and its checkpoint
pub record Reference : Type 0 where
  pub image : Image
  pub ckpt : Checkpoint

-- the nids of nodes, by ino and offset
abbrev pub Nids : Type 0
Nids = map.FinMap pair_cmp ℕ

-- the ino and the page that a data block is of, by its address
abbrev pub Owners : Type 0
Owners = map.FinMap nat_cmp (ℕ × ℕ)

-- where things stand
pub record Layout : Type 0 where
  -- the base by an image, and a pending tree by another one, which has the tail that the disk may have
  pub base : Reference
  pub pending : Option Reference
  -- the positions of the node log since the base's checkpoint, how many of the first ones a crash leaves as they are, and the address
  -- of the next one, which is drawn ahead; 0 where the log takes no more
  pub log : List Position
  pub settled : ℕ
  pub next : ℕ
  -- the nids of the nodes of the base and of the log, and the owners of the data blocks of base and marks
  pub nids : Nids
  pub owners : Owners

-- the blocks of the log in order
abbrev pub chained : Layout → List Logged
chained layout = map_list (λ position. position.logged) layout.log

-- the version that they carry
abbrev pub log_version : Layout → ℕ
log_version layout = recovery_version layout.base.ckpt

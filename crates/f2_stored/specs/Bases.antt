-- An image on a disk: each block that what it stands for is read from has that image's content alone.
use Rattle.std.specs.Prelude.{◌≡◌, ◌⊎◌, ℕ, ◌+◌, ◌%◌, ◌^◌, ◌<◌, ◌≤◌, IsTrue, List, [], ◌∷◌, length, All, Contains, Option, Some, None}
use Rattle.f2_format.specs.Geometry.{is_in_node}
use Rattle.f2_format.specs.Footer.{footer_version}
use Rattle.f2_format.specs.Pack.{head_of, IsPack}
use Rattle.f2_disk.specs.Contents.{Contents}
use Rattle.f2_model.specs.Tree.{Rows}
use Rattle.f2_model.specs.State.{Mark}
use Rattle.f2_model.specs.declared.modes.Format.{Format}
use Rattle.f2_image.specs.Images.{Image, block_at}
use Rattle.f2_image.specs.Packs.{Side, A, B, other_side, head_address, summary_address, tail_address, Checkpoint, format_of, recovery_version}
use Rattle.f2_image.specs.Chains.{chain}
use Rattle.f2_image.specs.Meanings.{MeansAt}
use Rattle.f2_image_laws.specs.Chained.{contents_at, HoldsNone}
use Rattle.f2_image_laws.specs.Depending.{DependsOn}
use Rattle.f2_stored.specs.Layout.{Reference}

-- a block has one content, that of an image
abbrev pub HasOne : Contents → Image → ℕ → Type 0
HasOne lists image at = contents_at lists at ≡ block_at image at ∷ []

-- the blocks that tell the sizes of an image and the checkpoint of a pack, but for the pack's tail
pub data TellsCheckpoint (ckpt : Checkpoint) : ℕ → Type 0 where
  first_superblock : TellsCheckpoint ckpt 0
  second_superblock : TellsCheckpoint ckpt 1
  head : TellsCheckpoint ckpt (head_address ckpt.side)
  summary : TellsCheckpoint ckpt (summary_address ckpt.side)

-- a disk holds what an image stands for, but for the tail of its pack and its node log
pub record HoldsImage (lists : Contents) (held : Reference) (base : Rows) (marks : List Mark) : Type 0 where
  pub size : length held.image ≡ length lists
  pub means : MeansAt held.image held.ckpt base marks
  pub tells : (at : ℕ) → TellsCheckpoint held.ckpt at → HasOne lists held.image at
  pub read : (at : ℕ) → DependsOn held.image held.ckpt at → HasOne lists held.image at

-- the tail of the pack of an image
abbrev pub tail_of : Reference → List ℕ
tail_of held = block_at held.image (tail_address held.ckpt.side)

-- a pack of one version doesn't go before the pack of a side that has another one
abbrev pub IsBehind : Side → ℕ → ℕ → Type 0
IsBehind A version newest = version ≤ newest
IsBehind B version newest = version < newest

-- a content is the tail of a pending tree
abbrev pub IsPendingTail : Option Reference → List ℕ → Type 0
IsPendingTail None content = ⊥
IsPendingTail (Some pending) content = content ≡ tail_of pending

-- the packs of a disk: the tail of the one that counts, alone; and for the other one no tail of a later version and no head and tail
-- that let it count before this one, but for the tail of a pending tree
pub record HasPacks (lists : Contents) (held : Reference) (pending : Option Reference) : Type 0 where
  pub own : contents_at lists (tail_address held.ckpt.side) ≡ tail_of held ∷ []
  pub not_later : All (λ tail. ((head_of tail).version ≤ held.ckpt.head.version) ⊎ IsPendingTail pending tail) (contents_at lists (tail_address (other_side held.ckpt.side)))
  pub behind : (head tail : List ℕ) → Contains (contents_at lists (head_address (other_side held.ckpt.side))) head → Contains (contents_at lists (tail_address (other_side held.ckpt.side))) tail
      → IsPack held.ckpt.geom head tail → IsBehind held.ckpt.side (head_of head).version held.ckpt.head.version ⊎ IsPendingTail pending tail

-- no block of the node zone of a disk is of a later version than the checkpoint's
abbrev pub HasNoLater : Contents → Checkpoint → Type 0
HasNoLater lists ckpt = (at : ℕ) → IsTrue (is_in_node ckpt.geom at) → All (λ content. footer_version content % 2 ^ 32 ≤ ckpt.head.version) (contents_at lists at)

-- a disk holds a pending tree but for its tail, in the other pack and with the next version, and has no node log of it
pub record HoldsPending (lists : Contents) (held pending : Reference) (tree : Rows) : Type 0 where
  pub holds : HoldsImage lists pending tree []
  pub no_log : chain pending.image pending.ckpt ≡ []
  pub starts : HoldsNone lists (recovery_version pending.ckpt) pending.ckpt.head.log_start
  pub geom : pending.ckpt.geom ≡ held.ckpt.geom
  pub side : pending.ckpt.side ≡ other_side held.ckpt.side
  pub version : pending.ckpt.head.version ≡ held.ckpt.head.version + 1

-- the same of a pending tree where there is one
abbrev pub HoldsSome : Contents → Reference → Option Reference → Option Rows → Type 0
HoldsSome lists held (Some pending) (Some tree) = HoldsPending lists held pending tree
HoldsSome lists held None None = Unit {0}
HoldsSome lists held pending tree = ⊥

-- the format of a pending tree, where there is one
abbrev pub HasFormat : Option Reference → Format → Type 0
HasFormat None format = Unit {0}
HasFormat (Some pending) format = format_of pending.ckpt ≡ format

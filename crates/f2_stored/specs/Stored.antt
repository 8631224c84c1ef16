-- What a volume keeps on its disk.
use Rattle.std.specs.Prelude.{◌≡◌, ◌≢◌, ℕ, ◌^◌, ◌<◌, ◌≤◌, [], length, All}
use Rattle.f2_disk.specs.Contents.{Contents, IsWhole}
use Rattle.f2_model.specs.State.{State}
use Rattle.f2_image.specs.Packs.{format_of}
use Rattle.f2_image.specs.Chains.{chain}
use Rattle.f2_image_laws.specs.Chained.{Follow}
use Rattle.f2_stored.specs.Layout.{Layout}
use Rattle.f2_stored.specs.Bases.{HasOne, HoldsImage, HasPacks, HasNoLater, HoldsSome, HasFormat}
use Rattle.f2_stored.specs.Logs.{HoldsLog}
use Rattle.f2_stored.specs.Numbers.{HasNids, HasOwners}
use Rattle.f2_stored.specs.Marks.{HoldsMarks, marks_within}
use Rattle.f2_image_laws.specs.Rolled.{image_limits}
use Rattle.f2_room_laws.specs.Fitting.{AreFitting}

-- what a disk keeps of a state at all times: its packs, no later version, and a pending tree; its format and version
pub record KeepsPacks (lists : Contents) (layout : Layout) (state : State) : Type 0 where
  pub whole : IsWhole (length lists) lists
  pub packs : HasPacks lists layout.base layout.pending
  pub no_later : HasNoLater lists layout.base.ckpt
  pub pending : HoldsSome lists layout.base layout.pending state.pending
  pub format : format_of layout.base.ckpt ≡ state.format
  pub next_format : HasFormat layout.pending state.next_format
  pub version : layout.base.ckpt.head.version ≡ state.version
  pub early : layout.base.ckpt.head.version < 2 ^ 32

-- between two checkpoints a disk keeps the base, and the node log since then with the marks in it; the acknowledged ones are among what
-- a crash leaves as it is
pub record KeepsLog (lists : Contents) (layout : Layout) (state : State) : Type 0 where
  pub base : HoldsImage lists layout.base state.base []
  pub no_log : chain layout.base.image layout.base.ckpt ≡ []
  pub log : HoldsLog lists layout
  pub nids : HasNids layout
  pub owners : HasOwners layout
  pub marks : HoldsMarks lists layout state.base state.marks
  pub acknowledged : state.acknowledged ≤ marks_within layout layout.settled
  pub fitting : AreFitting (image_limits layout.base.ckpt.geom) state

-- from the flush of a mount to the end of its checkpoint a disk keeps the image that the mount found, with its node log
pub record KeepsImage (lists : Contents) (layout : Layout) (state : State) : Type 0 where
  pub base : HoldsImage lists layout.base state.base state.marks
  pub log : All (λ one. HasOne lists layout.base.image one.at) (chain layout.base.image layout.base.ckpt)
  pub ends : (next : ℕ) → Follow layout.base.ckpt.head.log_start (chain layout.base.image layout.base.ckpt) next → next ≢ 0 → HasOne lists layout.base.image next
  pub acknowledged : state.acknowledged ≤ length state.marks

-- what a volume keeps on its disk
pub data IsStored (lists : Contents) (layout : Layout) (state : State) : Type 0 where
  running : KeepsPacks lists layout state → KeepsLog lists layout state → IsStored lists layout state
  mounting : KeepsPacks lists layout state → KeepsImage lists layout state → IsStored lists layout state

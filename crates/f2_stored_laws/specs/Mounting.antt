-- The flush with which a mount begins.
use Rattle.std.specs.Prelude.{◌+◌, ◌^◌, ◌<◌, length}
use Rattle.f2_disk.specs.Contents.{Contents, IsWhole, flushed}
use Rattle.f2_model.specs.State.{State, Meaning, MayRemain}
use Rattle.f2_model.specs.Mounts.{mounting}
use Rattle.f2_image.specs.Meanings.{IsSafe}
use Rattle.f2_stored.specs.Layout.{Layout}
use Rattle.f2_stored.specs.Stored.{IsStored}

-- a disk that was flushed keeps what a mount finds on it
pub record FindsStored (lists : Contents) (state : State) : Type 0 where
  pub meaning : Meaning
  pub layout : Layout
  pub remains : MayRemain state meaning
  pub stored : IsStored (flushed lists) layout (mounting state meaning)

-- whatever stood there before, as long as it was safe and its versions haven't come to an end
abbrev pub MountsFind : Type 0
MountsFind = (lists : Contents) (state : State) → IsWhole (length lists) lists → IsSafe lists state → state.version + 1 < 2 ^ 32 → FindsStored lists state

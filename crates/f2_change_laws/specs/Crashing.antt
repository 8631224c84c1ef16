-- A loss of power.
use Rattle.std.specs.Prelude.{map as map_list}
use Rattle.f2_disk.specs.Contents.{Contents, IsImage, alone}
use Rattle.f2_model.specs.State.{State}
use Rattle.f2_image.specs.Images.{Image}
use Rattle.f2_stored.specs.Layout.{Fate, Open, Written, Failed, Position, Layout}
use Rattle.f2_stored.specs.Stored.{IsStored}

-- after a crash the block of a position that was written may be there or not
abbrev pub torn_fate : Fate → Fate
torn_fate Open = Open
torn_fate Written = Failed
torn_fate Failed = Failed

abbrev pub torn : Layout → Layout
torn layout = record layout { log = map_list (λ (position : Position). record position { fate = torn_fate position.fate }) layout.log }

-- each image that a crash leaves keeps a state
abbrev pub CrashesKeep : Type 0
CrashesKeep = (lists : Contents) (layout : Layout) (state : State) (image : Image) → IsStored lists layout state → IsImage lists image → IsStored (alone image) (torn layout) state

-- What is recovered of an image, and the faults of recovering as conditions of the image.
use Rattle.std.proofs.Common.{◌≡◌, List, sym, ap}
use Rattle.std.specs.Prelude.{Option}
use Rattle.f2_disk.specs.Contents.{Contents}
use Rattle.f2_image.specs.Images.{Image}
use Rattle.f2_image.specs.Packs.{Checkpoint, IsCheckpoint}
use Rattle.f2_recover.specs.Faults.{IsRightFault}
use Rattle.f2_image.specs.Chains.{Logged, chain}
use Rattle.f2_overlay.specs.Rolling.{IsGround}
use Rattle.f2_recover.specs.Told.{Tells}
use Rattle.f2_recover.specs.Walking.{IsCkptOf, IsBaseRead}
use Rattle.f2_recover.specs.declared.walk.Walk.{Walk}
use Rattle.f2_recover.specs.declared.faults.BadImage.TheVariants.{BadSuper, NoCheckpoint}
use Rattle.f2_recover.specs.declared.faults.MountFault.{MountFault}
use Rattle.f2_recover.specs.declared.faults.MountFault.TheVariants.{Bad, Read, Memory}
use Rattle.f2_start.specs.Starts.{IsStanding, IsStartOf}
use Rattle.f2_start.specs.declared.reading.Start.{Start}
use Rattle.f2_format.specs.Pack.{HeadFields}

-- a condition of the checkpoint that an image has is one of the image
pub stands : (image : Image) (ckpt : Checkpoint) → IsCheckpoint image ckpt → (fault : MountFault) → IsRightFault image ckpt fault → IsStanding image fault
stands image ckpt is (Bad BadSuper) none = absurd none
stands image ckpt is (Bad NoCheckpoint) none = absurd none
stands image ckpt is (Bad bad) there = (ckpt, is, there)
stands image ckpt is Read there = tt
stands image ckpt is Memory there = tt

-- what a base is read by
pub ckpt_of : (start : Start) (ckpt : Checkpoint) → IsStartOf start ckpt → IsCkptOf start.geometry start.pack.head.bitmap start.pack.summary ckpt
ckpt_of start ckpt is = record { geom_is = is.geom_is; bitmap_is = ap (λ (f : HeadFields). f.bitmap) is.head_is; summary_is = is.summary_is }

pub version_of : (start : Start) (ckpt : Checkpoint) → IsStartOf start ckpt → start.pack.head.version ≡ ckpt.head.version
version_of start ckpt is = sym (ap (λ (f : HeadFields). f.version) is.head_is)

-- what a log is rolled over
pub ground_of : (held : Option Contents) (start : Start) (image : Image) (ckpt : Checkpoint) (walk : Walk) (log : List Logged) → Tells held image → IsStartOf start ckpt → IsBaseRead image ckpt walk → log ≡ chain image ckpt
    → IsGround held start.geometry image ckpt walk log
ground_of held start image ckpt walk log tells is base same = record { tells = tells; geom_is = is.geom_is; base = base; chain_is = same }

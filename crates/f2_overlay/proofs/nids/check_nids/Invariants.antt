use Rattle.std.proofs.Common.{◌≡◌}
use Rattle.f2_image.specs.Images.{Image}
use Rattle.f2_image.specs.Packs.{Checkpoint}
use Rattle.f2_image.specs.Chains.{chain}
use Rattle.f2_recover.specs.Walking.{IsBaseRead}
use Rattle.f2_overlay.specs.Nids.{IsCheckedTo}
use Rattle.f2_overlay.proofs.nids.check_nids.Given as goal

abbrev pub invariant-loop-place : goal.invariant-loop-place
invariant-loop-place l = (image : Image) (ckpt : Checkpoint) → IsBaseRead image ckpt l.walk → l.log ≡ chain image ckpt → IsCheckedTo image ckpt l.place l.owners

use Rattle.std.proofs.Common.{◌≡◌}
use Rattle.f2_image.specs.Images.{Image}
use Rattle.f2_image.specs.Packs.{Checkpoint}
use Rattle.f2_image.specs.Chains.{chain}
use Rattle.f2_recover.specs.Walking.{IsBaseRead}
use Rattle.f2_overlay.specs.Brought.{AreRightTo}
use Rattle.f2_overlay.proofs.names.check_names.Given as goal

abbrev pub invariant-loop-logged : goal.invariant-loop-logged
invariant-loop-logged l = (image : Image) (ckpt : Checkpoint) → IsBaseRead image ckpt l.walk → l.log ≡ chain image ckpt → AreRightTo image ckpt l.logged-index l.brought

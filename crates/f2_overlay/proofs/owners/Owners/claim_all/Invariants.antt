use Rattle.std.proofs.Common.{◌≡◌}
use Rattle.f2_image.specs.Images.{Image}
use Rattle.f2_image.specs.Packs.{Checkpoint}
use Rattle.f2_overlay.specs.Owning.{IsMore, AreRight, HasListed, AreListed}
use Rattle.f2_overlay.proofs.owners.Owners.claim_all.Given as goal

abbrev pub invariant-loop-listed : goal.invariant-loop-listed
invariant-loop-listed l = record {
  more : IsMore l.fn.self l.self;
  listed : HasListed l.fn.ino l.list l.listed-index l.self;
  right : (image : Image) (ckpt : Checkpoint) → ckpt.geom ≡ l.fn.g → AreListed image ckpt l.fn.ino l.list → AreRight image ckpt l.fn.self → AreRight image ckpt l.self;
}

use Rattle.std.proofs.Common.{◌≡◌}
use Rattle.f2_image.specs.Images.{Image}
use Rattle.f2_image.specs.Packs.{Checkpoint}
use Rattle.f2_overlay.specs.Owning.{IsMore, AreRight, AreOwn, ArePagesFrom}
use Rattle.f2_overlay.specs.Putting.{ArePutTo}
use Rattle.f2_overlay.proofs.putting.put_addresses.Given as goal

abbrev pub invariant-loop-slot : goal.invariant-loop-slot
invariant-loop-slot l = record {
  put : ArePutTo l.fn.first.page l.addresses l.slot l.fn.pages l.pages;
  more : IsMore l.fn.owners l.owners;
  own : AreOwn l.fn.first.ino l.fn.pages l.fn.owners → AreOwn l.fn.first.ino l.pages l.owners;
  right : (image : Image) (ckpt : Checkpoint) → ckpt.geom ≡ l.fn.g → ArePagesFrom image ckpt l.fn.first.ino l.fn.first.page l.addresses → AreRight image ckpt l.fn.owners → AreRight image ckpt l.owners;
}

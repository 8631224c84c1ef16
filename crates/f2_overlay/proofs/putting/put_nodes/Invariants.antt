use Rattle.std.proofs.Common.{◌≡◌}
use Rattle.std.specs.FinMap as map
use Rattle.f2_image.specs.Images.{Image}
use Rattle.f2_image.specs.Packs.{Checkpoint}
use Rattle.f2_overlay.specs.Owning.{IsMore, AreRight, AreOwn}
use Rattle.f2_overlay.specs.Putting.{AreNodesPut, AreNodePages}
use Rattle.f2_overlay.specs.Taking.{AreNodesTaken}
use Rattle.f2_overlay.proofs.putting.put_nodes.Given as goal

abbrev pub invariant-loop-offset : goal.invariant-loop-offset
invariant-loop-offset l = record {
  put : AreNodesPut l.log l.fn.newest l.newest l.fn.pages l.pages;
  nodes : AreNodesTaken l.log l.fn.newest l.newest l.fn.nodes l.nodes;
  more : IsMore l.fn.owners l.owners;
  own : AreOwn l.fn.ino l.fn.pages l.fn.owners → AreOwn l.fn.ino l.pages l.owners;
  right : (image : Image) (ckpt : Checkpoint) → ckpt.geom ≡ l.fn.g → AreNodePages image ckpt l.fn.ino l.log l.fn.newest → AreRight image ckpt l.fn.owners → AreRight image ckpt l.owners;
}

abbrev pub decreases-loop-offset : goal.decreases-loop-offset
decreases-loop-offset l = map.len l.newest

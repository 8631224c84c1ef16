use Rattle.std.proofs.Common.{◌≡◌, ◌+◌, ◌^◌, ◌%◌, drop}
use Rattle.std.specs.List.{sum_by}
use Rattle.f2_image.specs.Images.{Image}
use Rattle.f2_recover.specs.Told.{Tells, OnlyReads}
use Rattle.f2_listing.proofs.PageWeights.{listed_weight}
use Rattle.f2_listing.proofs.weights.weight.Given as goal

abbrev pub invariant-loop-listed : goal.invariant-loop-listed
invariant-loop-listed g l = record {
  reads : OnlyReads (g.D.Disk.contents l.fn.disk) (g.D.Disk.meter l.fn.disk) (g.D.Disk.contents l.disk) (g.D.Disk.meter l.disk);
  sum : (image : Image) → Tells (g.D.Disk.contents l.fn.disk) image → (l.sum + sum_by (listed_weight image) (drop l.listed-index l.pages)) % 2 ^ 64 ≡ sum_by (listed_weight image) l.pages % 2 ^ 64;
}

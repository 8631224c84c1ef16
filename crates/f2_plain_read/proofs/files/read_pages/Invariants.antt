use Rattle.std.proofs.Common.{◌≡◌, ◌<◌, ◌≤◌, ℕ, None}
use Rattle.std.specs.FinMap as map
use Rattle.f2_image.specs.Images.{Image}
use Rattle.f2_laid.specs.Laid.{page_in}
use Rattle.f2_disk.specs.Using.{OnlyReads}
use Rattle.f2_plain_read.specs.Told.{Tells}
use Rattle.f2_plain_read.proofs.files.read_pages.Given as goal

abbrev pub invariant-loop-page : goal.invariant-loop-page
invariant-loop-page g l = record {
  reads : OnlyReads g.D.Disk.contents g.D.Disk.meter l.initial.disk l.disk;
  within : (image : Image) → Tells (g.D.Disk.contents l.initial.disk) image → (page : ℕ) → page < l.page → map.get l.pages page ≡ page_in image l.place page;
  past : (page : ℕ) → l.page ≤ page → map.get l.pages page ≡ None;
}

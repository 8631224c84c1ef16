use Rattle.std.proofs.Common.{◌≡◌, take}
use Rattle.f2_found.specs.Pages.{AreInOrder}
use Rattle.f2_found.specs.Places.{AreBelow}
use Rattle.f2_found.proofs.copying.copied_pages.Given as goal

abbrev pub invariant-loop-listed : goal.invariant-loop-listed
invariant-loop-listed l = record {
  pages : AreInOrder l.list → AreBelow l.blocks l.list → l.pages ≡ take l.listed-index l.list;
  within : AreBelow l.blocks l.pages;
}

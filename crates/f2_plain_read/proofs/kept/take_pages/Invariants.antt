use Rattle.f2_plain_read.specs.Keeping.{IsOfPages, AreNew, AreTaken}
use Rattle.f2_plain_read.proofs.kept.take_pages.Given as goal

abbrev pub invariant-loop-at : goal.invariant-loop-at
invariant-loop-at l = record {
  zone : IsOfPages l.geometry l.pages;
  new : AreNew l.geometry l.initial.pages.members l.addresses l.at-index;
  taken : AreTaken l.initial.pages.members l.pages.members l.addresses l.at-index;
}

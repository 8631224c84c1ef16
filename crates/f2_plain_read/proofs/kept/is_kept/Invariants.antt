use Rattle.f2_plain_read.specs.Keeping.{IsOfNodes, IsOfPages, AreKeptBelow}
use Rattle.f2_plain_read.proofs.kept.is_kept.Given as goal

abbrev pub invariant-loop-ino : goal.invariant-loop-ino
invariant-loop-ino l = record {
  node_zone : IsOfNodes l.geometry l.nodes;
  page_zone : IsOfPages l.geometry l.pages;
  kept : AreKeptBelow l.geometry l.places l.ino l.nodes.members l.pages.members;
}

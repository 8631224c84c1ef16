use Rattle.std.proofs.Common.{ℕ}
use Rattle.f2_recover.specs.Seeing.{IsList}
use Rattle.f2_overlay.specs.Owning.{Pages}
use Rattle.f2_overlay.proofs.Copies.{AreCopiedTo}
use Rattle.f2_overlay.proofs.marks.addresses_of.Given as goal

abbrev pub invariant-loop-listed : goal.invariant-loop-listed
invariant-loop-listed l = (limit : ℕ) (pages : Pages) → IsList limit pages l.list → AreCopiedTo pages l.list l.listed-index l.addresses

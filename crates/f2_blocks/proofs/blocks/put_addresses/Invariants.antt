use Rattle.f2_blocks.specs.Blocks.{address_of}
use Rattle.f2_blocks.proofs.Words.{AreFilled}
use Rattle.f2_blocks.proofs.blocks.put_addresses.Given as goal

abbrev pub invariant-loop-page : goal.invariant-loop-page
invariant-loop-page g l = AreFilled (address_of (g.P.PageAddresses.addresses l.index)) l.page l.into

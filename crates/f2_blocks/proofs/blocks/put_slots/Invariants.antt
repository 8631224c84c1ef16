use Rattle.f2_blocks.specs.Slots.{word_in}
use Rattle.f2_blocks.proofs.Words.{Written}
use Rattle.f2_blocks.proofs.blocks.put_slots.Given as goal

abbrev pub invariant-loop-slot : goal.invariant-loop-slot
invariant-loop-slot g l = Written (word_in (g.P.PageAddresses.addresses l.index) l.nids l.slots) l.slot l.initial.into l.into

use Rattle.std.proofs.Common.{◌∙◌}
use Rattle.f2_nat_block.specs.NatEntry.{place_of}
use Rattle.f2_nat_cache.proofs.Found.{journal_with-absent}
use Rattle.f2_nat_cache.proofs.pending.append.Goals as goal

pub returns : goal.returns
returns c = c.in-Ok.ensures.ok ∙ journal_with-absent c.args.journal.now c.args.nid (place_of c.args.e) c.requires.absent

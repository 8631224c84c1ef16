use Rattle.std.proofs.Common.{subst}
use Rattle.f2_nat_cache.specs.Entries.{EachOnce}
use Rattle.f2_nat_cache.proofs.journal.KnownJournal.nids.Goals as goal

pub returns-clause-once : goal.returns-clause-once
returns-clause-once c = subst EachOnce c.self.view_is c.self.invariant.1

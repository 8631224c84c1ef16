use Rattle.std.proofs.Common.{ap, subst}
use Rattle.f2_nat_cache.specs.Entries.{EachOnce}
use Rattle.f2_nat_cache.specs.Table.{Table}
use Rattle.f2_nat_cache.proofs.cache.Cache.needed.Goals as goal

pub returns-clause-once : goal.returns-clause-once
returns-clause-once c = subst EachOnce (ap (λ (t : Table). t.journal) c.self.view_is) c.nids-nids.ensures.once

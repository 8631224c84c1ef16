use Rattle.std.proofs.Common.{ap, sym, ◌∙◌}
use Rattle.std.specs.FinMap as map
use Rattle.f2_nat_cache.specs.Entries.{DirtyTable}
use Rattle.f2_nat_cache.proofs.Tables.{len-view}
use Rattle.f2_nat_cache.proofs.dirty.DirtyEntries.len.Goals as goal

pub returns-clause-len : goal.returns-clause-len
returns-clause-len c =
    c.len.ensures.len ∙ sym (len-view c.self.inside.entries.entries c.len.ensures.unique)
    ∙ ap (λ (t : DirtyTable). map.len t.entries) c.self.view_is

use Rattle.std.proofs.Common.{◌*◌, ap, sym, subst, arith}
use Rattle.f2_nat_cache.specs.Entries.{EachOnce}
use Rattle.f2_nat_cache.specs.Table.{Table}
use Rattle.f2_nat_cache.specs.Plan.{needed}
use Rattle.f2_nat_cache.proofs.Merged.{length-merged, merged_once}
use Rattle.f2_nat_cache.proofs.cache.Cache.journal.Goals as goal

pub merged-requires-clause-room : goal.merged-requires-clause-room
merged-requires-clause-room c =
    let once = subst EachOnce (ap (λ (t : Table). t.journal) (sym c.self.view_is)) c.needed.ensures.once in
    let same = ap needed c.self.view_is in
    omega (arith, length-merged c.self.inside.dirty.entries c.self.inside.journal once, same, c.needed.ensures.value, c.if-needed-gt-MOST_JOURNAL_ENTRIES.false)

pub returns-clause-once : goal.returns-clause-once
returns-clause-once c =
    let once = subst EachOnce (ap (λ (t : Table). t.journal) (sym c.self.view_is)) c.needed.ensures.once in
    subst EachOnce (sym c.merged.ensures) (merged_once c.self.inside.dirty.entries c.self.inside.journal (455 * c.self.inside.geometry.nat) c.self.invariant.within once)

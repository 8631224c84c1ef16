use Rattle.std.proofs.Common.{ap, subst, sym, ◌∙◌}
use Rattle.std.specs.FinMap as map
use Rattle.f2_nat_cache.specs.Entries.{Entries, DirtyTable, AreCounts}
use Rattle.f2_nat_cache.proofs.Parts.{same_dirty}
use Rattle.f2_nat_cache.proofs.Tables.{view-same}
use Rattle.f2_nat_cache.proofs.dirty.DirtyEntries.put.Goals as goal

pub insert-requires-clause-counts : goal.insert-requires-clause-counts
insert-requires-clause-counts c =
    let same = view-same c.self.inside.entries.entries c.reserve.new.self.entries c.in_ok-reserve.ensures.entries.2 in
    subst (λ (m : Entries). AreCounts m c.self.inside.counts.items) (sym same) c.self.invariant.right

pub returns-clause-ok : goal.returns-clause-ok
returns-clause-ok c =
    let same = view-same c.self.inside.entries.entries c.reserve.new.self.entries c.in_ok-reserve.ensures.entries.2 in
    same_dirty
    (c.insert.ensures.blocks ∙ ap (λ (t : DirtyTable). t.nat) c.self.view_is)
    (c.insert.ensures.entries ∙ ap (λ (m : Entries). map.insert m c.args.nid c.args.e) same ∙ ap (λ (t : DirtyTable). map.insert t.entries c.args.nid c.args.e) c.self.view_is)
    (ap (λ (t : DirtyTable). t.spare) c.self.view_is)

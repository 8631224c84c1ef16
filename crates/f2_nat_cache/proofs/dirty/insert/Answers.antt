use Rattle.std.proofs.Common.{ℕ, ◌+◌, ◌<◌, length, is_some, set, ap, sym, subst, ◌∙◌, arith}
use Rattle.std.specs.FinMap as map
use Rattle.f2_format.specs.Nat.{nat_block_of}
use Rattle.f2_nat_cache.specs.Entries.{Entries, AreCounts}
use Rattle.f2_nat_cache.proofs.Tables.{view, get-view, view-insert}
use Rattle.f2_nat_cache.proofs.Counts.{count_in-le, AreCounts-there, AreCounts-new, count_read}
use Rattle.f2_nat_cache.proofs.dirty.insert.Goals as goal

pub returns-in-Ok-Some-clause-entries : goal.returns-in-Ok-Some-clause-entries
returns-in-Ok-Some-clause-entries c = view-insert _ _ c.args.nid c.args.e c.in-Ok-Some.ensures.updates.0

pub returns-in-Ok-None-clause-entries : goal.returns-in-Ok-None-clause-entries
returns-in-Ok-None-clause-entries c = view-insert _ _ c.args.nid c.args.e c.in-Ok-None.ensures.updates.0

pub returns-in-Ok-Some-clause-counts : goal.returns-in-Ok-Some-clause-counts
returns-in-Ok-Some-clause-counts c =
    let there = ap is_some (get-view c.args.entries.now.entries c.args.nid ∙ sym (sym c.in-Ok-Some.field-0-is ∙ c.in-Ok-Some.ensures.old)) in
    subst (λ (m : Entries). AreCounts m c.args.counts.now.items) (sym (returns-in-Ok-Some-clause-entries c))
    (AreCounts-there _ c.args.nid c.args.e c.args.counts.now.items c.requires.nid there c.requires.counts)

pub overflow_add-index_mut : goal.overflow_add-index_mut
overflow_add-index_mut c =
    let block = nat_block_of c.args.nid in
    let within : block < length c.args.counts.now.items = omega arith in
    let is = count_read c.args.counts.now.items c.locate.result block _ c.index_mut.result.now c.locate.ensures c.index_mut.ensures.value within in
    let counted = c.requires.counts.counted block within in
    let few = count_in-le (view c.args.entries.now.entries) block in
    omega (arith, counted, few, is)

pub returns-in-Ok-None-clause-counts : goal.returns-in-Ok-None-clause-counts
returns-in-Ok-None-clause-counts c =
    let block = nat_block_of c.args.nid in
    let within : block < length c.args.counts.now.items = omega arith in
    let is = count_read c.args.counts.now.items c.locate.result block _ c.index_mut.result.now c.locate.ensures c.index_mut.ensures.value within in
    let absent = ap is_some (get-view c.args.entries.now.entries c.args.nid ∙ sym (sym c.in-Ok-None.field-0-is ∙ c.in-Ok-None.ensures.old)) in
    let place = ap (λ (l : ℕ × ℕ). l.0) c.locate.ensures in
    subst (λ (m : Entries). AreCounts m (set c.args.counts.now.items c.locate.result.0 (c.index_mut.result.now + 1))) (sym (returns-in-Ok-None-clause-entries c))
    (subst (λ at. AreCounts (map.insert (view c.args.entries.now.entries) c.args.nid c.args.e) (set c.args.counts.now.items at (c.index_mut.result.now + 1))) (sym place)
    (AreCounts-new (view c.args.entries.now.entries) c.args.nid c.args.e c.args.counts.now.items c.index_mut.result.now c.requires.nid absent is c.requires.counts))

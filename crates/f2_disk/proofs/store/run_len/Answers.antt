use Rattle.std.proofs.Common.{◌-◌, ◌<◌, leb-true, leb, ap, sym, arith, rules}
use borrow.Author.Tests.{leb-false}
use Rattle.std.proofs.lemmas.List.{get_or_read}
use Rattle.std.proofs.lemmas.List.Sorted.{IsPartitionPoint-from_clause, IsPartitionedBy-leb}
use Rattle.f2_disk.specs.declared.store.Older.{Older}
use Rattle.f2_disk.proofs.ChooseLaws.{IsRun, run_of}
use Rattle.f2_disk.proofs.store.run_len.Goals as goal

-- what `partition_point` found
found : (c : goal.After-partition_point) → (c.args.from < c.partition_point.result) × IsRun c.args.older.now c.args.from (c.partition_point.result - c.args.from)
found c =
    let older = c.args.older.now in
    let at = c.index-older-from.result.at in
    let parted = IsPartitionedBy-leb (λ (e : Older). e.at) older at c.requires.rising in
    let point = IsPartitionPoint-from_clause (λ (e : Older). leb e.at at) _ _ c.partition_point.ensures.partitioned parted
    (λ a r q k. search rules) in
    run_of older c.args.from c.partition_point.result at c.requires.rising c.requires.inside
    (λ d. ap (λ (e : Older). e.at) (sym (get_or_read older c.args.from c.index-older-from.result c.requires.inside c.index-older-from.is d)))
    c.partition_point.ensures.bound
    (λ k d low. leb-true _ _ (point.0 k d (omega arith) low))
    (λ k d low high. leb-false _ _ (point.1 k d low high))

pub overflow_sub-result : goal.overflow_sub-result
overflow_sub-result c = omega (arith, (found c).0)

pub returns-clause-some : goal.returns-clause-some
returns-clause-some c = (found c).1.some

pub returns-clause-same : goal.returns-clause-same
returns-clause-same c = (found c).1.same

pub returns-clause-later : goal.returns-clause-later
returns-clause-later c = (found c).1.later

use Rattle.std.proofs.Common.{refl}
use Rattle.std.specs.FinSet as set
use Rattle.f2_bitset.proofs.Members.{contains-insert_same}
use Rattle.f2_nid_pool.proofs.Laws.{IsPool-committed, above-root}
use Rattle.f2_nid_pool.proofs.Pool.new.Goals as goal

pub invariant_of-result : goal.invariant_of-result
invariant_of-result c =
    rw (c.take_all_of.ensures, c.copy_from.ensures, c.insert.ensures, c.in_ok-live.ensures, c.in_ok-logged.ensures)
    (IsPool-committed c.args.limit _ (record { first = 0; count = c.args.limit; members = set.empty }) c.requires refl refl refl refl (contains-insert_same _ 3) above-root)

use Rattle.std.proofs.Common.{arith}
use Rattle.f2_disk.proofs.StoreLaws.{length-lists_of, whole_lists}
use Rattle.f2_disk.proofs.store.Store.blocks.Goals as goal

pub returns-clause-count : goal.returns-clause-count
returns-clause-count c = rw (← c.self.view_is) (omega (arith, length-lists_of c.self.inside.newest.items c.self.inside.older.items))

pub returns-clause-whole : goal.returns-clause-whole
returns-clause-whole c =
    let orderly = c.self.invariant.0 in
    rw (← c.self.view_is, length-lists_of) (whole_lists c.self.inside.newest.items c.self.inside.older.items orderly)

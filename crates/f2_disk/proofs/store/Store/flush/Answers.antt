use Rattle.std.specs.Vec.{vec_len}
use Rattle.f2_disk.proofs.StoreLaws.{lists_of-flushed}
use Rattle.f2_disk.proofs.store.Store.flush.Goals as goal

pub returns : goal.returns
returns c =
    let newest = c.self.inside.newest.items in
    let older = c.self.inside.older.items in
    rw (c.clear.ensures.items, ← c.self.view_is)
    (λ i. record { lists = lists_of-flushed newest older i; spare = vec_len c.self.inside.room })

use Rattle.std.proofs.Common.{Result, Ok, Err, OnOk, ap}
use Rattle.f2_nat_cache.specs.Table.{Table}
use Rattle.f2_nat_cache.proofs.Kept.{kept_fewer, same_fewer}
use Rattle.f2_nat_cache.proofs.cache.Cache.room.Goals as goal

on_ok : {A E : Type 0} (r : Result A E) (P : Type 0) → P → OnOk r P
on_ok (Ok x) P p = p
on_ok (Err e) P p = tt

pub returns-clause-still_kept : goal.returns-clause-still_kept
returns-clause-still_kept c =
    on_ok c.room.result _ (λ told.
    kept_fewer c.args.self.now _ told
    (ap (λ (t : Table). t.geom) c.self.view_is) (ap (λ (t : Table). t.bitmap) c.self.view_is) (ap (λ (t : Table). t.held) c.self.view_is)
    (same_fewer c.args.self.now.clean c.self.inside.clean.entries (ap (λ (t : Table). t.clean) c.self.view_is)))

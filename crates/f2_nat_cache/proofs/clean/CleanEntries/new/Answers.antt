use Rattle.std.proofs.Common.{ℕ, length, ap, arith}
use Rattle.lru.specs.LruCache.{LruCache}
use Rattle.f2_nat_block.specs.declared.entries.NatEntry.{NatEntry}
use Rattle.f2_nat_cache.proofs.Tables.{len-view-le}
use Rattle.f2_nat_cache.proofs.clean.CleanEntries.new.Goals as goal

pub invariant_of-result : goal.invariant_of-result
invariant_of-result c =
    let cap = ap (λ (cache : LruCache ℕ NatEntry). cache.cap) c.in_ok-new.ensures in
    let none = ap (λ (cache : LruCache ℕ NatEntry). length cache.entries) c.in_ok-new.ensures in
    let few = len-view-le c.in_ok-new.field-0.entries in
    record {
      room_there = let made = rw c.unwrap-room.ensures at c.new.ensures in omega (arith, c.requires, made, cap);
      bounded = omega arith;
    }

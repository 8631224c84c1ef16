use Rattle.std.proofs.Common.{ℕ, List, length, ap, arith}
use Rattle.lru.specs.LruCache.{LruCache}
use Rattle.f2_pages.proofs.Pages.{Page, len-view}
use Rattle.f2_pages.proofs.store.PageStore.new.Goals as goal

pub invariant_of-result : goal.invariant_of-result
invariant_of-result c =
    let cap = ap (λ (cache : LruCache Page (List ℕ)). cache.cap) c.in_ok-new.ensures in
    let none = ap (λ (cache : LruCache Page (List ℕ)). length cache.entries) c.in_ok-new.ensures in
    let few = len-view c.in_ok-new.field-0.entries in
    record {
      places_enough = omega arith;
      blocks_enough = omega arith;
      room_there = let made = rw c.unwrap-room.ensures at c.new.ensures in omega (arith, c.requires, made, cap);
      bounded = omega arith;
    }

use Rattle.std.proofs.Common.{◌≡◌, ℕ, ◌≤◌, ap, sym, ◌∙◌, arith}
use Rattle.std.specs.FinMap as map
use Rattle.lru.specs.LruCache.{LruCache}
use Rattle.f2_nat_block.specs.declared.entries.NatEntry.{NatEntry}
use Rattle.f2_nat_cache.specs.Entries.{CleanTable}
use Rattle.f2_nat_cache.proofs.Parts.{same_clean}
use Rattle.f2_nat_cache.proofs.Tables.{view, view-remove_entry, view-none, len-remove-le}
use Rattle.f2_nat_cache.proofs.clean.CleanEntries.forget.Goals as goal

-- the table without the nid
left : (c : goal.After-pop) → view c.pop.new.self.entries ≡ map.remove (view c.self.inside.cache.entries) c.args.nid
left c = ap (λ (cache : LruCache ℕ NatEntry). view cache.entries) c.pop.ensures.entries ∙ view-remove_entry c.args.nid c.self.inside.cache.entries c.len.ensures.valid.0

few : (c : goal.After-pop) → map.len (view c.pop.new.self.entries) ≤ c.pop.new.self.cap
few c =
    let cap = ap (λ (cache : LruCache ℕ NatEntry). cache.cap) c.pop.ensures.entries in
    let fewer = ap (λ m. map.len m) (left c) in
    omega (arith, cap, fewer, len-remove-le (view c.self.inside.cache.entries) c.args.nid, c.self.invariant.bounded)

pub invariant_of-self : goal.invariant_of-self
invariant_of-self c =
    let cap = ap (λ (cache : LruCache ℕ NatEntry). cache.cap) c.pop.ensures.entries in
    record { room_there = omega (arith, c.self.invariant.room_there, cap); bounded = few c }

pub returns-then-len-gt0-clause-left : goal.returns-then-len-gt0-clause-left
returns-then-len-gt0-clause-left c =
    same_clean
    (left c ∙ ap (λ (t : CleanTable). map.remove t.entries c.args.nid) c.self.view_is)
    (ap (λ (cache : LruCache ℕ NatEntry). cache.cap) c.pop.ensures.entries ∙ ap (λ (t : CleanTable). t.room) c.self.view_is)

pub returns-then-len-gt0-clause-bounded : goal.returns-then-len-gt0-clause-bounded
returns-then-len-gt0-clause-bounded c = few c

pub returns-else-len-gt0-clause-left : goal.returns-else-len-gt0-clause-left
returns-else-len-gt0-clause-left c =
    let none = view-none c.args.nid c.self.inside.cache.entries (omega arith) in
    let same = sym (ap (λ (t : CleanTable). t.entries) c.self.view_is) ∙ none ∙ ap (λ (t : CleanTable). map.remove t.entries c.args.nid) c.self.view_is in
    same_clean same (λ _. c.args.self.now.room)

use Rattle.std.proofs.Common.{ℕ, ap, sym, ◌∙◌, arith}
use Rattle.std.specs.FinMap as map
use Rattle.lru.specs.LruCache.{LruCache}
use Rattle.f2_nat_block.specs.declared.entries.NatEntry.{NatEntry}
use Rattle.f2_nat_cache.specs.Entries.{CleanTable}
use Rattle.f2_nat_cache.proofs.Parts.{same_clean}
use Rattle.f2_nat_cache.proofs.Tables.{view, get-view, view-promoted}
use Rattle.f2_nat_cache.proofs.clean.CleanEntries.get.Goals as goal

pub invariant_of-self : goal.invariant_of-self
invariant_of-self c =
    let is = c.self.invariant in
    let same = ap (λ (cache : LruCache ℕ NatEntry). map.len (view cache.entries)) c.promote.ensures.entries ∙ ap (λ m. map.len m) (view-promoted c.args.nid c.self.inside.cache.entries) in
    let cap = ap (λ (cache : LruCache ℕ NatEntry). cache.cap) c.promote.ensures.entries in
    record { room_there = omega (arith, is.room_there, cap); bounded = omega (arith, is.bounded, cap, same) }

pub returns-clause-value : goal.returns-clause-value
returns-clause-value c =
    c.copied-entry.ensures ∙ c.peek.ensures ∙ sym (get-view c.self.inside.cache.entries c.args.nid)
    ∙ ap (λ (t : CleanTable). map.get t.entries c.args.nid) c.self.view_is

pub returns-clause-same : goal.returns-clause-same
returns-clause-same c =
    same_clean
    (ap (λ (cache : LruCache ℕ NatEntry). view cache.entries) c.promote.ensures.entries ∙ view-promoted c.args.nid c.self.inside.cache.entries ∙ ap (λ (t : CleanTable). t.entries) c.self.view_is)
    (ap (λ (cache : LruCache ℕ NatEntry). cache.cap) c.promote.ensures.entries ∙ ap (λ (t : CleanTable). t.room) c.self.view_is)

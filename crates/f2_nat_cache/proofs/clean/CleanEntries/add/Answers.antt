use Rattle.std.proofs.Common.{◌≡◌, ℕ, ◌≤◌, None, nat_eq, ap, sym, ◌∙◌, inl, inr, arith}
use Rattle.std.specs.Map.{lookup}
use Rattle.std.specs.FinMap as map
use Rattle.lru.specs.LruCache.{LruCache}
use Rattle.f2_nat_block.specs.declared.entries.NatEntry.{NatEntry}
use Rattle.f2_nat_cache.specs.Entries.{CleanTable}
use Rattle.f2_nat_cache.proofs.Tables.{view, get-view, get-put, get-put_others, len-put}
use Rattle.f2_nat_cache.proofs.clean.CleanEntries.add.Goals as goal

-- the nid has no clean entry
absent : (c : goal.In_ok-put) → lookup (nat_eq c.args.nid) c.self.inside.cache.entries ≡ None
absent c = sym (get-view c.self.inside.cache.entries c.args.nid) ∙ ap (λ (t : CleanTable). map.get t.entries c.args.nid) c.self.view_is ∙ c.requires

-- there are no more than there is room for
few : (c : goal.In_ok-put) → map.len (view c.put.new.self.entries) ≤ c.put.new.self.cap
few c =
    let put = len-put c.self.inside.cache c.args.nid c.args.e (absent c) c.self.invariant.room_there in
    let same = ap (λ (cache : LruCache ℕ NatEntry). map.len (view cache.entries)) c.in_ok-put.ensures.entries in
    let cap = ap (λ (cache : LruCache ℕ NatEntry). cache.cap) c.in_ok-put.ensures.entries in
    omega (arith, put, same, cap)

pub invariant_of-self-2 : goal.invariant_of-self-2
invariant_of-self-2 c =
    let cap = ap (λ (cache : LruCache ℕ NatEntry). cache.cap) c.in_ok-put.ensures.entries in
    record { room_there = omega (arith, c.self.invariant.room_there, cap); bounded = few c }

pub returns-clause-kept : goal.returns-clause-kept
returns-clause-kept c =
    ap (λ (cache : LruCache ℕ NatEntry). map.get (view cache.entries) c.args.nid) c.in_ok-put.ensures.entries
    ∙ get-put c.self.inside.cache c.args.nid c.args.e (absent c)

pub returns-clause-others : goal.returns-clause-others
returns-clause-others c other kept found =
    let was = ap (λ (t : CleanTable). map.get t.entries other) c.self.view_is in
    let put = sym (ap (λ (cache : LruCache ℕ NatEntry). map.get (view cache.entries) other) c.in_ok-put.ensures.entries) ∙ found in
    elim (get-put_others c.self.inside.cache c.args.nid c.args.e (absent c) other kept put) [
      | inl before ↦ inl (sym was ∙ before)
      | inr here ↦ inr here
    ]

pub returns-clause-bounded : goal.returns-clause-bounded
returns-clause-bounded c = few c

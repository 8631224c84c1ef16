-- The nids of a volume: which are taken, and by what.
use Rattle.std.specs.Prelude.{◌≡◌, ℕ, ◌<◌, ◌≤◌, true, false, ◌||◌, nat_lt, refl}
use Rattle.std.specs.Ordering.{nat_cmp}
use Rattle.std.specs.Coded.{Coded, code_by, coded×, coded_ℕ}
use Rattle.std.specs.FinSet as set
use Rattle.f2_bitset.specs.Numbers.{Numbers}

-- the nids below `limit`: those of the live tree, those of the base, and those that the node log holds
pub record Nids : Type 0 where
  pub limit : ℕ
  pub live : set.FinSet nat_cmp
  pub base : set.FinSet nat_cmp
  pub logged : set.FinSet nat_cmp

-- nids are stored as these fields
abbrev pub nids_code : Coded Nids
nids_code =
    code_by (ℕ × (set.FinSet nat_cmp × (set.FinSet nat_cmp × set.FinSet nat_cmp))) (coded× coded_ℕ (coded× (set.code coded_ℕ) (coded× (set.code coded_ℕ) (set.code coded_ℕ)))) (λ p. (p.limit, (p.live, (p.base, p.logged)))) (λ q. record { limit = q.0; live = q.1.0; base = q.1.1.0; logged = q.1.1.1 }) (λ _. refl)

-- a nid from 4 on that is neither live nor of the base nor logged (fs/f2fs/node.c: `scan_nat_page` and `f2fs_alloc_nid`)
pub record IsFree (p : Nids) (nid : ℕ) : Type 0 where
  pub from : 4 ≤ nid
  pub below : nid < p.limit
  pub not_live : set.contains p.live nid ≡ false
  pub not_base : set.contains p.base nid ≡ false
  pub not_logged : set.contains p.logged nid ≡ false

-- the free nid that no other free nid is below
pub record IsLeastFree (p : Nids) (nid : ℕ) : Type 0 where
  pub free : IsFree p nid
  pub least : (other : ℕ) → other < nid → ¬ (IsFree p other)

-- the set is over all nids below the limit
abbrev pub IsOver : ℕ → Numbers → Type 0
IsOver limit s = (s.first ≡ 0) × (s.count ≡ limit)

-- what the four sets of a pool keep: what can't be drawn is what is live, of the base or logged, and 0 to 3
pub record IsPool (limit : ℕ) (live base logged taken : Numbers) : Type 0 where
  pub enough : 5 ≤ limit
  pub live_over : IsOver limit live
  pub base_over : IsOver limit base
  pub logged_over : IsOver limit logged
  pub taken_over : IsOver limit taken
  pub root : set.contains live.members 3 ≡ true
  pub above : (n : ℕ) → set.contains live.members n ≡ true → 3 ≤ n
  pub is_taken : (n : ℕ) → n < limit → set.contains taken.members n ≡ (set.contains live.members n || (set.contains base.members n || (set.contains logged.members n || nat_lt n 4)))

-- The blocks of one zone: which are in use, and how many may still be taken for what.
use Rattle.std.specs.Prelude.{◌≡◌, ℕ, ◌+◌, ◌*◌, ◌^◌, ◌<◌, ◌≤◌, true, refl}
use Rattle.std.specs.Ordering.{nat_cmp}
use Rattle.std.specs.Coded.{Coded, code_by, coded×, coded_ℕ}
use Rattle.std.specs.FinSet as set
use Rattle.f2_bitset.specs.Numbers.{Numbers, IsInRange, IsLeastMissing}

-- A zone has 3 · c addresses from `first` on. `used` are those that were in use at some time since the
-- last checkpoint, `live` those that count, `drawn` those that the node log drew and hasn't written. Since
-- the last checkpoint the log wrote `log` blocks, and may write `promised` more that an fsync owes; the
-- checkpoint at work took `cp`. `kept` addresses are in use for neither: they were live at the last
-- checkpoint, or were adopted since.
pub record Space : Type 0 where
  pub first : ℕ
  pub c : ℕ
  pub used : set.FinSet nat_cmp
  pub live : set.FinSet nat_cmp
  pub drawn : set.FinSet nat_cmp
  pub log : ℕ
  pub promised : ℕ
  pub cp : ℕ
  pub kept : ℕ

-- a zone is stored as these fields
abbrev pub space_code : Coded Space
space_code =
    code_by (ℕ × (ℕ × (set.FinSet nat_cmp × (set.FinSet nat_cmp × (set.FinSet nat_cmp × (ℕ × (ℕ × (ℕ × ℕ)))))))) (coded× coded_ℕ (coded× coded_ℕ (coded× (set.code coded_ℕ) (coded× (set.code coded_ℕ) (coded× (set.code coded_ℕ) (coded× coded_ℕ (coded× coded_ℕ (coded× coded_ℕ coded_ℕ)))))))) (λ z. (z.first, (z.c, (z.used, (z.live, (z.drawn, (z.log, (z.promised, (z.cp, z.kept))))))))) (λ q. record { first = q.0; c = q.1.0; used = q.1.1.0; live = q.1.1.1.0; drawn = q.1.1.1.1.0; log = q.1.1.1.1.1.0; promised = q.1.1.1.1.1.1.0; cp = q.1.1.1.1.1.1.1.0; kept = q.1.1.1.1.1.1.1.1 }) (λ _. refl)

-- addresses of the zone as a set over its range
abbrev pub in_zone : Space → set.FinSet nat_cmp → Numbers
in_zone z members = record { first = z.first; count = 3 * z.c; members = members }

-- the address is one of the zone
abbrev pub IsOfZone : Space → ℕ → Type 0
IsOfZone z at = IsInRange (in_zone z z.used) at

-- the least address of the zone that wasn't in use since the last checkpoint (`get_new_segment` and
-- `__next_free_blkoff` of fs/f2fs/segment.c look for such a one)
abbrev pub IsLeastFree : Space → ℕ → Type 0
IsLeastFree z at = IsLeastMissing (in_zone z z.used) at

-- the least address of the zone that doesn't count
abbrev pub IsLeastNotLive : Space → ℕ → Type 0
IsLeastNotLive z at = IsLeastMissing (in_zone z z.live) at

-- The counts fit together: the log has a third of the zone, the checkpoint another, and what was kept the
-- last. A mount adopts up to two thirds, while the log has none.
pub record IsShared (z : Space) : Type 0 where
  pub whole : 1 ≤ z.c
  pub fits : z.first + 3 * z.c < 2 ^ 32
  pub counted : set.len z.used ≡ z.kept + z.log + set.len z.drawn + z.cp
  pub log_third : z.log + z.promised ≤ z.c
  pub drawn_third : z.log + set.len z.drawn ≤ z.c
  pub cp_third : z.cp ≤ z.c
  pub kept_thirds : z.kept ≤ 2 * z.c
  pub log_waits : z.c < z.kept → z.log + z.promised + set.len z.drawn ≡ 0
  pub live_used : (at : ℕ) → set.contains z.live at ≡ true → set.contains z.used at ≡ true
  pub drawn_used : (at : ℕ) → set.contains z.drawn at ≡ true → set.contains z.used at ≡ true
  pub in_range : (at : ℕ) → set.contains z.used at ≡ true → IsOfZone z at

-- the bitmap is over the zone
abbrev pub IsOver : ℕ → ℕ → Numbers → Type 0
IsOver first c s = (s.first ≡ first) × (s.count ≡ 3 * c)

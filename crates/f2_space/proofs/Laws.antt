-- Each change of a zone keeps what its counts and sets keep.
use Rattle.std.proofs.Common.{◌≡◌, ℕ, ◌+◌, ◌-◌, ◌*◌, ◌^◌, ◌<◌, ◌≤◌, Bool, true, false, cond, inl, inr, refl, sym, ap, ◌∙◌, arith, nat_cmp}
use Rattle.std.specs.Cmp.{nat_cmp_total}
use Rattle.std.specs.FinSet as set
use Rattle.std.specs.FinSet.{contains-empty, len-empty, len-insert, len-remove}
use Rattle.std.specs.Bool.{MatchBool}
use mir.Val.{bool_byte}
use Rattle.std.proofs.lemmas.Bool.{cases_eq, false≢true}
use Rattle.f2_bitset.proofs.Members.{contains-insert_same, contains-insert_other, contains-remove_same, contains-remove_other, len-contained}
use Rattle.f2_space.specs.Space.{Space, IsOfZone, IsShared}

-- each member of the first set is one of the second
abbrev Within : set.FinSet nat_cmp → set.FinSet nat_cmp → Type 0
Within s t = (at : ℕ) → set.contains s at ≡ true → set.contains t at ≡ true

-- a set within another is within it still after an insertion there
within-insert : (s t : set.FinSet nat_cmp) (at : ℕ) → Within s t → Within s (set.insert t at)
within-insert s t at within other there =
    elim (cases_eq other at) as (λ _. set.contains (set.insert t at) other ≡ true) [
      | inl same ↦ ap (set.contains (set.insert t at)) same ∙ contains-insert_same t at
      | inr apart ↦ contains-insert_other t at other apart ∙ within other there
    ]

-- and with a member more, if that is one of the other's
insert-within : (s t : set.FinSet nat_cmp) (at : ℕ) → Within s t → set.contains t at ≡ true → Within (set.insert s at) t
insert-within s t at within has other there =
    elim (cases_eq other at) as (λ _. set.contains t other ≡ true) [
      | inl same ↦ ap (set.contains t) same ∙ has
      | inr apart ↦ within other (sym (contains-insert_other s at other apart) ∙ there)
    ]

-- and with a member less
remove-within : (s t : set.FinSet nat_cmp) (at : ℕ) → Within s t → Within (set.remove s at) t
remove-within s t at within other left =
    elim (cases_eq other at) as (λ _. set.contains t other ≡ true) [
      | inl same ↦ absurd (false≢true (sym (contains-remove_same s at) ∙ sym (ap (set.contains (set.remove s at)) same) ∙ left))
      | inr apart ↦ within other (sym (contains-remove_other s at other apart) ∙ left)
    ]

-- both with a member more
insert-both : (s t : set.FinSet nat_cmp) (at : ℕ) → Within s t → Within (set.insert s at) (set.insert t at)
insert-both s t at within = insert-within s (set.insert t at) at (within-insert s t at within) (contains-insert_same t at)

-- a new member counts
len-insert_new : (s : set.FinSet nat_cmp) (at : ℕ) → set.contains s at ≡ false → set.len (set.insert s at) ≡ set.len s + 1
len-insert_new s at new = len-insert nat_cmp_total s at ∙ ap (λ b. cond b (set.len s) (set.len s + 1)) new

-- a member that goes counts no longer
len-remove_there : (s : set.FinSet nat_cmp) (at : ℕ) → set.contains s at ≡ true → set.len (set.remove s at) + 1 ≡ set.len s
len-remove_there s at there =
    omega (arith, len-contained s at there, len-remove nat_cmp_total s at ∙ ap (λ b. cond b (set.len s - 1) (set.len s)) there)

-- what isn't in a set isn't within it
absent-within : (s t : set.FinSet nat_cmp) (at : ℕ) → Within s t → set.contains t at ≡ false → set.contains s at ≡ false
absent-within s t at within absent =
    elim (set.contains s at) as (λ b. set.contains s at ≡ b → b ≡ false) [
      | true ↦ λ there. absurd (false≢true (sym absent ∙ within at there))
      | false ↦ λ _. refl
    ] refl

-- a member more is of the zone if the new one is
in_range-insert : (z : Space) (at : ℕ) → IsOfZone z at → ((other : ℕ) → set.contains z.used other ≡ true → IsOfZone z other) → (other : ℕ) → set.contains (set.insert z.used at) other ≡ true → IsOfZone z other
in_range-insert z at of_zone in_range other there =
    elim (cases_eq other at) as (λ _. IsOfZone z other) [
      | inl same ↦ (omega (arith, of_zone.0), omega (arith, of_zone.1))
      | inr apart ↦ in_range other (sym (contains-insert_other z.used at other apart) ∙ there)
    ]

-- an unused address becomes used and live, and one count grows
pub IsShared-take : (z : Space) (at log promised cp kept : ℕ) → IsShared z → IsOfZone z at → set.contains z.used at ≡ false → kept + log + cp ≡ z.kept + z.log + z.cp + 1 → log + promised ≤ z.c → log + set.len z.drawn ≤ z.c → cp ≤ z.c → kept ≤ 2 * z.c → (z.c < kept → log + promised + set.len z.drawn ≡ 0) → IsShared (record z { used = set.insert z.used at; live = set.insert z.live at; log = log; promised = promised; cp = cp; kept = kept })
IsShared-take z at log promised cp kept is of_zone unused grows log_third drawn_third cp_third kept_thirds log_waits = record {
  whole = is.whole;
  fits = is.fits;
  counted = omega (arith, is.counted, len-insert_new z.used at unused);
  log_third = log_third;
  drawn_third = drawn_third;
  cp_third = cp_third;
  kept_thirds = kept_thirds;
  log_waits = log_waits;
  live_used = insert-both z.live z.used at is.live_used;
  drawn_used = within-insert z.drawn z.used at is.drawn_used;
  in_range = in_range-insert z at of_zone is.in_range;
}

-- an unused address is drawn
pub IsShared-draw : (z : Space) (at : ℕ) → IsShared z → IsOfZone z at → set.contains z.used at ≡ false → z.kept ≤ z.c → z.log + set.len z.drawn < z.c → IsShared (record z { used = set.insert z.used at; drawn = set.insert z.drawn at })
IsShared-draw z at is of_zone unused kept room =
    let more : set.len (set.insert z.drawn at) ≡ set.len z.drawn + 1 = len-insert_new z.drawn at (absent-within z.drawn z.used at is.drawn_used unused) in
    record {
      whole = is.whole;
      fits = is.fits;
      counted = omega (arith, is.counted, more, len-insert_new z.used at unused);
      log_third = is.log_third;
      drawn_third = omega (arith, more);
      cp_third = is.cp_third;
      kept_thirds = is.kept_thirds;
      log_waits = λ past. absurd (omega arith);
      live_used = within-insert z.live z.used at is.live_used;
      drawn_used = insert-both z.drawn z.used at is.drawn_used;
      in_range = in_range-insert z at of_zone is.in_range;
    }

-- the log has room for a block that was promised, and for another where there is some left
pub promise_kept : (kept : Bool) (log promised c : ℕ) → MatchBool kept (0 < promised) (log + promised < c) → log + promised ≤ c → log + 1 + (promised - bool_byte kept) ≤ c
promise_kept true log promised c room third = omega (arith, room)
promise_kept false log promised c room third = omega (arith, room)

-- a drawn address is written
pub IsShared-wrote : (z : Space) (at promised : ℕ) → IsShared z → set.contains z.drawn at ≡ true → promised ≤ z.promised → z.log + 1 + promised ≤ z.c → IsShared (record z { live = set.insert z.live at; drawn = set.remove z.drawn at; log = z.log + 1; promised = promised })
IsShared-wrote z at promised is there fewer room =
    let less = len-remove_there z.drawn at there in
    record {
      whole = is.whole;
      fits = is.fits;
      counted = omega (arith, is.counted, less);
      log_third = room;
      drawn_third = omega (arith, is.drawn_third, less);
      cp_third = is.cp_third;
      kept_thirds = is.kept_thirds;
      log_waits = λ past. absurd (omega (arith, is.log_waits past, less));
      live_used = insert-within z.live z.used at is.live_used (is.drawn_used at there);
      drawn_used = remove-within z.drawn z.used at is.drawn_used;
      in_range = is.in_range;
    }

-- a block counts no longer
pub IsShared-release : (z : Space) (at : ℕ) → IsShared z → IsShared (record z { live = set.remove z.live at })
IsShared-release z at is = record {
  whole = is.whole;
  fits = is.fits;
  counted = is.counted;
  log_third = is.log_third;
  drawn_third = is.drawn_third;
  cp_third = is.cp_third;
  kept_thirds = is.kept_thirds;
  log_waits = is.log_waits;
  live_used = remove-within z.live z.used at is.live_used;
  drawn_used = is.drawn_used;
  in_range = is.in_range;
}

-- nothing is within each set
empty-within : (t : set.FinSet nat_cmp) → Within set.empty t
empty-within t at there = absurd (false≢true (sym (contains-empty nat_cmp at) ∙ there))

-- a checkpoint is done
pub IsShared-committed : (z : Space) → IsShared z → set.len z.live ≤ z.c → IsShared (record z { used = z.live; drawn = set.empty; log = 0; promised = 0; cp = 0; kept = set.len z.live })
IsShared-committed z is fewer = record {
  whole = is.whole;
  fits = is.fits;
  counted = omega (arith, len-empty nat_cmp);
  log_third = omega arith;
  drawn_third = omega (arith, is.whole, len-empty nat_cmp);
  cp_third = omega arith;
  kept_thirds = omega arith;
  log_waits = λ past. absurd (omega arith);
  live_used = λ at there. there;
  drawn_used = empty-within z.live;
  in_range = λ at there. is.in_range at (is.live_used at there);
}

-- an empty zone
pub IsShared-new : (first c : ℕ) → 1 ≤ c → first + 3 * c < 2 ^ 32 → IsShared (record { first = first; c = c; used = set.empty; live = set.empty; drawn = set.empty; log = 0; promised = 0; cp = 0; kept = 0 })
IsShared-new first c whole fits = record {
  whole = whole;
  fits = fits;
  counted = omega (arith, len-empty nat_cmp);
  log_third = omega arith;
  drawn_third = omega (arith, len-empty nat_cmp);
  cp_third = omega arith;
  kept_thirds = omega arith;
  log_waits = λ past. absurd (omega arith);
  live_used = empty-within set.empty;
  drawn_used = empty-within set.empty;
  in_range = λ at there. absurd (false≢true (sym (contains-empty nat_cmp at) ∙ there));
}

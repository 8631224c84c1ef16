-- Calls in flight that come and go.
use Rattle.std.proofs.Common.{◌≡◌, ◌≢◌, ◌⊎◌, inl, inr, ℕ, sym, ap, subst, ◌∙◌}
use Rattle.std.specs.Prelude.{Option, Some}
use Rattle.std.specs.Ordering.{nat_cmp}
use Rattle.std.specs.FinMap as map
use Rattle.f2_model.specs.State.{Progress, Flight, InFsync, InCheck}
use Rattle.f2_model.specs.declared.replies.Plan.{Plan}
use Rattle.f2_laws.specs.Flights.{Flights, IsFrozen}
use Rattle.f2_laws.proofs.Maps.{get_put, get_put-other, get_taken, get_taken-other}
use Rattle.f2_laws.proofs.Walks.{some_same, some_none}
use Rattle.f2_laws.proofs.Places.{same_or_other}

-- the files in fsync once one more is
pub frozen_more : (flights : Flights) (seat ino : ℕ) (progress : Progress) (at : ℕ) → IsFrozen (map.insert flights seat (InFsync ino progress)) at → (at ≡ ino) ⊎ IsFrozen flights at
frozen_more flights seat ino progress at frozen = by_seat (same_or_other frozen.0 seat)
  where
    one_ino : (i j : ℕ) (a b : Progress) → ◌≡◌ {A = Option Flight} (Some (InFsync i a)) (Some (InFsync j b)) → j ≡ i
    one_ino i j a b e = cc

    by_seat : (frozen.0 ≡ seat) ⊎ (frozen.0 ≢ seat) → (at ≡ ino) ⊎ IsFrozen flights at
    by_seat (inl same) = inl (one_ino ino at progress frozen.1.0 (sym (get_put flights seat (InFsync ino progress)) ∙ ap (λ s. map.get (map.insert flights seat (InFsync ino progress)) s) (sym same) ∙ frozen.1.1))
    by_seat (inr other) = inr (frozen.0, (frozen.1.0, sym (get_put-other flights seat (InFsync ino progress) frozen.0 other) ∙ frozen.1.1))

-- a checkpoint in flight is alone
abbrev pub Alone : Flights → Type 0
Alone flights = (seat other : ℕ) (plan : Plan) (flight : Flight) → map.get flights seat ≡ Some (InCheck plan) → map.get flights other ≡ Some flight → other ≡ seat

-- no file is in fsync
abbrev pub Idle : Flights → Type 0
Idle flights = (ino : ℕ) → IsFrozen flights ino → ⊥

pub fsync_no_check : (ino : ℕ) (progress : Progress) (plan : Plan) → ◌≡◌ {A = Option Flight} (Some (InFsync ino progress)) (Some (InCheck plan)) → ⊥
fsync_no_check ino progress plan e = cc

module _ (flights : Flights) (seat : ℕ) where
  -- what a seat has after a call of a seat came
  pub after_put : (put : Flight) (at : ℕ) (one : Flight) → map.get (map.insert flights seat put) at ≡ Some one → ((at ≡ seat) × (one ≡ put)) ⊎ ((at ≢ seat) × (map.get flights at ≡ Some one))
  after_put put at one found = by_seat (same_or_other at seat)
    where
      by_seat : (at ≡ seat) ⊎ (at ≢ seat) → ((at ≡ seat) × (one ≡ put)) ⊎ ((at ≢ seat) × (map.get flights at ≡ Some one))
      by_seat (inl same) = inl (same, some_same (sym found ∙ ap (λ s. map.get (map.insert flights seat put) s) same ∙ get_put flights seat put))
      by_seat (inr other) = inr (other, sym (get_put-other flights seat put at other) ∙ found)

  -- and after one went
  pub after_left : (at : ℕ) (one : Flight) → map.get (map.remove flights seat) at ≡ Some one → (at ≢ seat) × (map.get flights at ≡ Some one)
  after_left at one found = by_seat (same_or_other at seat)
    where
      by_seat : (at ≡ seat) ⊎ (at ≢ seat) → (at ≢ seat) × (map.get flights at ≡ Some one)
      by_seat (inl same) = absurd (some_none (sym found ∙ ap (λ s. map.get (map.remove flights seat) s) same ∙ get_taken flights seat))
      by_seat (inr other) = (other, sym (get_taken-other flights seat at other) ∙ found)

  pub frozen_left : (ino : ℕ) → IsFrozen (map.remove flights seat) ino → IsFrozen flights ino
  frozen_left ino frozen = (frozen.0, (frozen.1.0, (after_left frozen.0 (InFsync ino frozen.1.0) frozen.1.1).1))

  pub frozen_check : (plan : Plan) (ino : ℕ) → IsFrozen (map.insert flights seat (InCheck plan)) ino → IsFrozen flights ino
  frozen_check plan ino frozen = by_seat (after_put (InCheck plan) frozen.0 (InFsync ino frozen.1.0) frozen.1.1)
    where
      by_seat : ((frozen.0 ≡ seat) × (InFsync ino frozen.1.0 ≡ InCheck plan)) ⊎ ((frozen.0 ≢ seat) × (map.get flights frozen.0 ≡ Some (InFsync ino frozen.1.0))) → IsFrozen flights ino
      by_seat (inl same) = absurd (fsync_no_check ino frozen.1.0 plan (ap (λ (f : Flight). Some f) same.1))
      by_seat (inr other) = (frozen.0, (frozen.1.0, other.1))

  pub alone_left : Alone flights → Alone (map.remove flights seat)
  alone_left alone at other plan one check found = alone at other plan one (after_left at (InCheck plan) check).1 (after_left other one found).1

  -- an fsync begins where no checkpoint is in flight
  pub alone_fsync : (ino : ℕ) (progress : Progress) → ((at : ℕ) (plan : Plan) → map.get flights at ≡ Some (InCheck plan) → ⊥) → Alone (map.insert flights seat (InFsync ino progress))
  alone_fsync ino progress none at other plan one check found = by_seat (after_put (InFsync ino progress) at (InCheck plan) check)
    where
      by_seat : ((at ≡ seat) × (InCheck plan ≡ InFsync ino progress)) ⊎ ((at ≢ seat) × (map.get flights at ≡ Some (InCheck plan))) → other ≡ at
      by_seat (inl same) = absurd (fsync_no_check ino progress plan (ap (λ (f : Flight). Some f) (sym same.1)))
      by_seat (inr before) = absurd (none at plan before.1)

  -- a checkpoint begins where nobody is in flight
  pub alone_check : (plan : Plan) → ((at : ℕ) (one : Flight) → map.get flights at ≡ Some one → ⊥) → Alone (map.insert flights seat (InCheck plan))
  alone_check plan none at other other_plan one check found = seat_of other one found ∙ sym (seat_of at (InCheck other_plan) check)
    where
      by_seat : (s : ℕ) (f : Flight) → ((s ≡ seat) × (f ≡ InCheck plan)) ⊎ ((s ≢ seat) × (map.get flights s ≡ Some f)) → s ≡ seat
      by_seat s f (inl same) = same.0
      by_seat s f (inr before) = absurd (none s f before.1)

      seat_of : (s : ℕ) (f : Flight) → map.get (map.insert flights seat (InCheck plan)) s ≡ Some f → s ≡ seat
      seat_of s f found = by_seat s f (after_put (InCheck plan) s f found)

  -- an fsync in flight goes on to another part
  module _ (ino : ℕ) (progress next : Progress) (there : map.get flights seat ≡ Some (InFsync ino progress)) where
    pub frozen_part : (at : ℕ) → IsFrozen (map.insert flights seat (InFsync ino next)) at → IsFrozen flights at
    frozen_part at frozen = by_seat (frozen_more flights seat ino next at frozen)
      where
        by_seat : (at ≡ ino) ⊎ IsFrozen flights at → IsFrozen flights at
        by_seat (inl same) = subst (IsFrozen flights) (sym same) (seat, (progress, there))
        by_seat (inr before) = before

    pub alone_part : Alone flights → Alone (map.insert flights seat (InFsync ino next))
    alone_part alone at other plan one check found = by_seat (after_put (InFsync ino next) at (InCheck plan) check) (after_put (InFsync ino next) other one found)
      where
        by_seat : ((at ≡ seat) × (InCheck plan ≡ InFsync ino next)) ⊎ ((at ≢ seat) × (map.get flights at ≡ Some (InCheck plan))) → ((other ≡ seat) × (one ≡ InFsync ino next)) ⊎ ((other ≢ seat) × (map.get flights other ≡ Some one)) → other ≡ at
        by_seat (inl same) last = absurd (fsync_no_check ino next plan (ap (λ (f : Flight). Some f) (sym same.1)))
        by_seat (inr before) (inl same) = alone at other plan (InFsync ino progress) before.1 (ap (λ s. map.get flights s) same.0 ∙ there)
        by_seat (inr before) (inr still) = alone at other plan one before.1 still.1

  -- a checkpoint leaves, and nobody is in flight
  pub idle_after_check : (plan : Plan) → Alone flights → map.get flights seat ≡ Some (InCheck plan) → Idle (map.remove flights seat)
  idle_after_check plan alone there ino frozen =
      let before = after_left frozen.0 (InFsync ino frozen.1.0) frozen.1.1 in
      before.0 (alone seat frozen.0 plan (InFsync ino frozen.1.0) there before.1)

-- nobody is in flight where a volume was just found, but its checkpoint
pub nobody_yet : (at : ℕ) (one : Flight) → map.get {R = nat_cmp} map.empty at ≡ Some one → ⊥
nobody_yet at one found = some_none (sym found ∙ map.get-empty nat_cmp at)

-- What holds of each fsync in flight, as calls come and go.
use Rattle.std.proofs.Common.{◌≡◌, ◌≢◌, ◌⊎◌, inl, inr, ℕ, ap, subst}
use Rattle.std.specs.Prelude.{Some}
use Rattle.std.specs.FinMap as map
use Rattle.f2_model.specs.State.{Progress, Flight, InFsync, InCheck}
use Rattle.f2_model.specs.declared.replies.Plan.{Plan}
use Rattle.f2_laws.specs.Flights.{Flights}
use Rattle.f2_laws.proofs.Flying.{Alone, fsync_no_check, after_put, after_left, nobody_yet, idle_after_check}

-- each fsync in flight has a property
abbrev pub EachFsync : (ℕ → Progress → Type 0) → Flights → Type 0
EachFsync Q flights = (seat ino : ℕ) (progress : Progress) → map.get flights seat ≡ Some (InFsync ino progress) → Q ino progress

same_fsync : (Q : ℕ → Progress → Type 0) (i j : ℕ) (a b : Progress) → InFsync i a ≡ InFsync j b → Q j b → Q i a
same_fsync Q i j a b e h =
    let ino : j ≡ i = cc in
    let progress : b ≡ a = cc in
    subst (λ k. Q k a) ino (subst (λ (p : Progress). Q j p) progress h)

pub each_none : (Q : ℕ → Progress → Type 0) → EachFsync Q map.empty
each_none Q seat ino progress there = absurd (nobody_yet seat (InFsync ino progress) there)

module _ (Q : ℕ → Progress → Type 0) (flights : Flights) (seat : ℕ) where
  pub each_put : (ino : ℕ) (progress : Progress) → Q ino progress → EachFsync Q flights → EachFsync Q (map.insert flights seat (InFsync ino progress))
  each_put ino progress new h at i p there = by_seat (after_put flights seat (InFsync ino progress) at (InFsync i p) there)
    where
      by_seat : ((at ≡ seat) × (InFsync i p ≡ InFsync ino progress)) ⊎ ((at ≢ seat) × (map.get flights at ≡ Some (InFsync i p))) → Q i p
      by_seat (inl same) = same_fsync Q i ino p progress same.1 new
      by_seat (inr other) = h at i p other.1

  pub each_check : (plan : Plan) → EachFsync Q flights → EachFsync Q (map.insert flights seat (InCheck plan))
  each_check plan h at i p there = by_seat (after_put flights seat (InCheck plan) at (InFsync i p) there)
    where
      by_seat : ((at ≡ seat) × (InFsync i p ≡ InCheck plan)) ⊎ ((at ≢ seat) × (map.get flights at ≡ Some (InFsync i p))) → Q i p
      by_seat (inl same) = absurd (fsync_no_check i p plan (ap (λ (f : Flight). Some f) same.1))
      by_seat (inr other) = h at i p other.1

  pub each_left : EachFsync Q flights → EachFsync Q (map.remove flights seat)
  each_left h at i p there = h at i p (after_left flights seat at (InFsync i p) there).1

  -- a checkpoint leaves, and no fsync is in flight
  pub each_after_check : (plan : Plan) → Alone flights → map.get flights seat ≡ Some (InCheck plan) → EachFsync Q (map.remove flights seat)
  each_after_check plan alone there at i p found = absurd (idle_after_check flights seat plan alone there i (at, (p, found)))

-- What the tests of a state say of its seats.
use Rattle.std.proofs.Common.{◌≡◌, inl, inr, ℕ, Bool, true, false, cond, List, [], ◌∷◌, refl, sym, ap, ◌∙◌, true≢false}
use Rattle.std.specs.Prelude.{Some, None, if◌then◌else◌}
use Rattle.std.specs.List.{filter}
use Rattle.std.specs.FinMap as map
use Rattle.std.proofs.lemmas.Bool.{eq-eqb}
use Rattle.f2_model.specs.State.{State, Flight, InFsync, InCheck}
use Rattle.f2_model.specs.Step.{first_key, least_in_flight, is_check, freezes, checking_seat, barring_seat, freezing_seat}
use Rattle.f2_model.specs.declared.replies.Plan.{Plan}
use Rattle.f2_laws.specs.Flights.{IsFrozen}
use Rattle.f2_laws.proofs.Listed.{Has, entry_has}

no_key : (es : List (ℕ × Flight)) → first_key es ≡ None → (e : ℕ × Flight) → Has e es → ⊥
no_key [] none e h = h
no_key (one ∷ es) none e h = absurd (cc)

-- where no entry passes a test, the test fails at each
none_kept : (test : ℕ × Flight → Bool) (es : List (ℕ × Flight)) → first_key (filter test es) ≡ None → (e : ℕ × Flight) → Has e es → test e ≡ false
none_kept test [] none e h = absurd h
none_kept test (one ∷ es) none e h = by_test (none_kept test es) (test one) refl none h
  where
    by_test : (first_key (filter test es) ≡ None → (e : ℕ × Flight) → Has e es → test e ≡ false) → (b : Bool) → test one ≡ b → first_key (cond b (one ∷ filter test es) (filter test es)) ≡ None → Has e (one ∷ es) → test e ≡ false
    by_test rest true t none h = absurd (cc)
    by_test rest false t none (inl same) = ap test same ∙ t
    by_test rest false t none (inr h) = rest none e h

-- where no seat is in flight, no flight is there
pub nobody : (state : State) → least_in_flight state ≡ None → (seat : ℕ) (flight : Flight) → map.get state.flights seat ≡ Some flight → ⊥
nobody state none seat flight there = let e = entry_has state.flights seat flight there in no_key (map.entries state.flights) none e.0 e.1

-- where no seat makes a checkpoint, no checkpoint is in flight
pub no_check : (state : State) → checking_seat state ≡ None → (seat : ℕ) (plan : Plan) → map.get state.flights seat ≡ Some (InCheck plan) → ⊥
no_check state none seat plan there =
    let e = entry_has state.flights seat (InCheck plan) there in
    let fails = none_kept (λ one. is_check one.1) (map.entries state.flights) none e.0 e.1 in
    true≢false (sym (ap is_check e.2) ∙ fails)

-- where no seat has a file in fsync, it isn't in fsync
pub not_frozen : (state : State) (ino : ℕ) → freezing_seat state ino ≡ None → IsFrozen state.flights ino → ⊥
not_frozen state ino none frozen =
    let flight : Flight = InFsync ino frozen.1.0 in
    let e = entry_has state.flights frozen.0 flight frozen.1.1 in
    let fails = none_kept (λ one. freezes ino one.1) (map.entries state.flights) none e.0 e.1 in
    true≢false (sym (eq-eqb ino ino refl) ∙ sym (ap (freezes ino) e.2) ∙ fails)

-- where no seat keeps one from beginning a call, no checkpoint is in flight
pub unbarred : (state : State) (seat : ℕ) → barring_seat state seat ≡ None → checking_seat state ≡ None
unbarred state seat none = by_own (map.contains_key state.flights seat) none
  where
    by_own : (b : Bool) → (if b then Some seat else checking_seat state) ≡ None → checking_seat state ≡ None
    by_own true e = absurd (cc)
    by_own false e = e

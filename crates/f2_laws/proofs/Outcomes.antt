-- A call that nothing keeps off comes to its outcome on the tree.
use Rattle.std.proofs.Common.{◌≡◌, ◌⊎◌, inl, inr, ℕ, Bool, true, false, not, List, [], ◌∷◌, refl, sym, ap, ◌∙◌, true≢false}
use Rattle.std.specs.Prelude.{Option, Some, None, MatchOption}
use Rattle.std.specs.Bool.{MatchBool}
use Rattle.std.proofs.lemmas.Bool.{MatchBool-at_false}
use Rattle.std.specs.FinMap as map
use Rattle.f2_model.specs.Tree.{Rows, IsGoodTree}
use Rattle.f2_model.specs.Call.{refusal, space_refusal, space_wanted, effect, answer, or_refused, outcome}
use Rattle.f2_model.specs.State.{State, IsFreeIno}
use Rattle.f2_model.specs.Step
use Rattle.f2_model.specs.Step.{Faults, Turn, StepBegin, Serves, TakesEffect, ReadFails, adds_row, called, replied}
use Rattle.f2_model.specs.declared.bounds.Limits.{Limits}
use Rattle.f2_model.specs.declared.requests.Request.{Request}
use Rattle.f2_model.specs.declared.requests.Request.TheVariants.{Create, Mkdir, Write, Truncate, Unlink, Rmdir, Rename, Read, List as ListNames, Fsync, Sync}
use Rattle.f2_model.specs.declared.replies.Reply.{Reply}
use Rattle.f2_model.specs.declared.replies.Reply.TheVariants as reply
use Rattle.f2_laws.specs.Choice.{IsFaultless}
use Rattle.f2_laws.specs.Beginning.{is_at_once, IsServed, HasOutcome, CallsHaveTheirOutcomes}
use Rattle.f2_laws.proofs.RefusedCalls.{outcome-refused, outcome-space}
use Rattle.f2_laws.proofs.NewRows.{same_space}
use Rattle.f2_laws.proofs.SameTurns.{fails}

-- what follows where there is nothing
at_none : {A : Type 0} (P : Type 0) (Q : A → Type 0) (o : Option A) → o ≡ None → MatchOption o P Q → P
at_none P Q None e h = h
at_none P Q (Some a) e h = absurd (cc)

-- an outcome that is neither refused nor short of space
outcome-done : (limits : Limits) (tree : Rows) (request : Request) (ino : ℕ) → refusal limits tree request ≡ None → space_wanted limits (effect tree request ino) request ≡ None → outcome limits tree request ino ≡ (answer tree request, effect tree request ino)
outcome-done limits tree request ino none want =
    ap (λ first. or_refused tree first (or_refused tree (space_wanted limits (effect tree request ino) request) (answer tree request, effect tree request ino))) none
    ∙ ap (λ first. or_refused tree first (answer tree request, effect tree request ino)) want

-- a call that is over at once wants space for the tree that it would leave
wanted : (limits : Limits) (after : Rows) (request : Request) → is_at_once request ≡ true → space_wanted limits after request ≡ space_refusal limits after
wanted limits after (Fsync path) once = absurd (true≢false (sym once))
wanted limits after Sync once = absurd (true≢false (sym once))
wanted limits after (Create path) once = refl
wanted limits after (Mkdir path) once = refl
wanted limits after (Write path pieces) once = refl
wanted limits after (Truncate path size) once = refl
wanted limits after (Unlink path) once = refl
wanted limits after (Rmdir path) once = refl
wanted limits after (Rename from to) once = refl
wanted limits after (Read path off len) once = refl
wanted limits after (ListNames path) once = refl

abbrev Comes : Limits → State → Request → Turn → Type 0
Comes limits state request turn = (ino : ℕ) × (map.get state.live ino ≡ None) × HasOutcome limits state request ino turn

module _ (limits : Limits) (faults : Faults) (state : State) (seat : ℕ) (request : Request) (turn : Turn) (good : IsGoodTree limits.size state.live) (absent : map.get state.live limits.nids ≡ None) (faultless : IsFaultless turn) (once : is_at_once request ≡ true) where
  -- a refusal is told, and the tree stays
  refused_outcome : (ino : ℕ) (refused : Reply) → map.get state.live ino ≡ None → outcome limits state.live request ino ≡ (refused, state.live) → turn ≡ Step.told_at_once state seat request refused [] state → Comes limits state request turn
  refused_outcome ino refused none e is = (
    ino,
    none,
    record {
      told = ap (λ (t : Turn). t.answer) is ∙ ap (λ (r : Reply × Rows). replied r.0) (sym e);
      live = ap (λ (t : Turn). t.after.live) is ∙ ap (λ (r : Reply × Rows). r.1) (sym e);
    },
  )

  done_outcome : (ino : ℕ) (choices : List ℕ) (at : ℕ) → map.get state.live ino ≡ None → refusal limits state.live request ≡ None → space_refusal limits (effect state.live request ino) ≡ None → effect state.live request at ≡ effect state.live request ino → turn ≡ Step.told_at_once state seat request (answer state.live request) choices (called state request at) → Comes limits state request turn
  done_outcome ino choices at none passed want same is =
      let e = outcome-done limits state.live request ino passed (wanted limits (effect state.live request ino) request once ∙ want) in (
        ino,
        none,
        record {
          told = ap (λ (t : Turn). t.answer) is ∙ ap (λ (r : Reply × Rows). replied r.0) (sym e);
          live = ap (λ (t : Turn). t.after.live) is ∙ same ∙ ap (λ (r : Reply × Rows). r.1) (sym e);
        },
      )

  -- an ino has no part in a call that adds no row
  takes_effect : refusal limits state.live request ≡ None → space_refusal limits (effect state.live request limits.nids) ≡ None → (b : Bool) → (b ≡ false → effect state.live request 0 ≡ effect state.live request limits.nids) →
      MatchBool b
      ((ino : ℕ) × IsFreeIno limits state ino × (turn ≡ Step.told_at_once state seat request (answer state.live request) (ino ∷ []) (called state request ino)))
      (turn ≡ Step.told_at_once state seat request (answer state.live request) [] (called state request 0)) →
      Comes limits state request turn
  takes_effect passed want true same h =
      let none = h.1.no_row in
      let room = same_space limits state.live request h.0 limits.nids good none absent ∙ want in
      done_outcome h.0 (h.0 ∷ []) h.0 none passed room refl h.2
  takes_effect passed want false same h = done_outcome limits.nids [] 0 absent passed want (same refl) h

  serves_other : (adds_row request ≡ false → effect state.live request 0 ≡ effect state.live request limits.nids) → refusal limits state.live request ≡ None → (want : Option Reply) → space_refusal limits (effect state.live request limits.nids) ≡ want →
      MatchOption want (TakesEffect limits state seat request turn ⊎ ReadFails faults state seat request turn) (λ refused. turn ≡ Step.told_at_once state seat request refused [] state) →
      Comes limits state request turn
  serves_other same passed None want (inl h) = takes_effect passed want (adds_row request) same h
  serves_other same passed None want (inr h) = absurd (fails _ refl h.1 faultless)
  serves_other same passed (Some refused) want h = refused_outcome limits.nids refused absent (outcome-space limits state.live request limits.nids refused passed (wanted limits (effect state.live request limits.nids) request once ∙ want)) h

serves : (limits : Limits) (faults : Faults) (state : State) (seat : ℕ) (request : Request) (turn : Turn) → IsGoodTree limits.size state.live → map.get state.live limits.nids ≡ None → IsFaultless turn → is_at_once request ≡ true → refusal limits state.live request ≡ None → Serves limits faults state seat request turn → Comes limits state request turn
serves limits faults state seat (Fsync path) turn good absent faultless once passed h = absurd (true≢false (sym once))
serves limits faults state seat Sync turn good absent faultless once passed h = absurd (true≢false (sym once))
serves limits faults state seat (Create path) turn good absent faultless once passed h = serves_other limits faults state seat (Create path) turn good absent faultless once (λ adds. absurd (true≢false adds)) passed _ refl h
serves limits faults state seat (Mkdir path) turn good absent faultless once passed h = serves_other limits faults state seat (Mkdir path) turn good absent faultless once (λ adds. absurd (true≢false adds)) passed _ refl h
serves limits faults state seat (Write path pieces) turn good absent faultless once passed h = serves_other limits faults state seat (Write path pieces) turn good absent faultless once (λ _. refl) passed _ refl h
serves limits faults state seat (Truncate path size) turn good absent faultless once passed h = serves_other limits faults state seat (Truncate path size) turn good absent faultless once (λ _. refl) passed _ refl h
serves limits faults state seat (Unlink path) turn good absent faultless once passed h = serves_other limits faults state seat (Unlink path) turn good absent faultless once (λ _. refl) passed _ refl h
serves limits faults state seat (Rmdir path) turn good absent faultless once passed h = serves_other limits faults state seat (Rmdir path) turn good absent faultless once (λ _. refl) passed _ refl h
serves limits faults state seat (Rename from to) turn good absent faultless once passed h = serves_other limits faults state seat (Rename from to) turn good absent faultless once (λ _. refl) passed _ refl h
serves limits faults state seat (Read path off len) turn good absent faultless once passed h = serves_other limits faults state seat (Read path off len) turn good absent faultless once (λ _. refl) passed _ refl h
serves limits faults state seat (ListNames path) turn good absent faultless once passed h = serves_other limits faults state seat (ListNames path) turn good absent faultless once (λ _. refl) passed _ refl h

-- the tests before a call is served come out as they are known to
begins : (limits : Limits) (faults : Faults) (state : State) (seat : ℕ) (request : Request) (turn : Turn) → IsGoodTree limits.size state.live → map.get state.live limits.nids ≡ None → IsFaultless turn → is_at_once request ≡ true → IsServed state seat request → StepBegin limits faults state seat request turn → Comes limits state request turn
begins limits faults state seat request turn good absent faultless once served h =
    let open_now = MatchBool-at_false _ _ (ap (λ b. not b) served.up) h in
    let with_room = MatchBool-at_false _ _ served.spare open_now in
    by_refusal (refusal limits state.live request) refl (at_none _ _ (Step.barring_seat state seat) served.free with_room)
  where
    by_refusal : (o : Option Reply) → refusal limits state.live request ≡ o →
        MatchOption o (MatchOption (Step.freezing state request) (Serves limits faults state seat request turn) (λ by. turn ≡ Step.unchanged state (replied (reply.Busy by)))) (λ refused. turn ≡ Step.told_at_once state seat request refused [] state) →
        Comes limits state request turn
    by_refusal None e h = serves limits faults state seat request turn good absent faultless once e (at_none _ _ (Step.freezing state request) served.thawed h)
    by_refusal (Some refused) e h = refused_outcome limits faults state seat request turn good absent faultless once limits.nids refused absent (outcome-refused limits state.live request limits.nids refused e) h

pub calls_come_to_outcomes : CallsHaveTheirOutcomes
calls_come_to_outcomes limits faults state seat request turn step faultless once served good absent = by_memory step.1
  where
    by_memory : StepBegin limits faults state seat request turn ⊎ (turn ≡ Step.unchanged state (replied reply.Memory)) → Comes limits state request turn
    by_memory (inl h) = begins limits faults state seat request turn good absent faultless once served h
    by_memory (inr e) = absurd (fails (Step.unchanged state (replied reply.Memory)) refl e faultless)

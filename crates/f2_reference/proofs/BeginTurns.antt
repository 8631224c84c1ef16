-- The turns with which calls begin.
use Rattle.std.proofs.Common.{◌≡◌, ◌≢◌, ◌⊎◌, ℕ, zero, suc, ◌+◌, ◌<◌, ◌≤◌, Bool, true, false, not, nat_le, List, [], ◌∷◌, ◌++◌, length, slice_index_or, Option, Some, None, Result, Ok, Err, IfOk, OnOk, MatchOption, refl, sym, ap, subst, ◌∙◌, arith, inl, inr, append-nil, add-zero, true≢false}
use Rattle.std.proofs.lemmas.Option.{none-some}
use Rattle.std.specs.Option.{unwrap_or}
use Rattle.std.specs.Bool.{MatchBool}
use Rattle.std.specs.List.{All}
use Rattle.std.specs.FinMap as map
use Rattle.f2_model.specs.declared.bounds.Limits.{Limits}
use Rattle.f2_model.specs.declared.rows.Row.{Row}
use Rattle.f2_model.specs.declared.requests.Request.{Request}
use Rattle.f2_model.specs.declared.requests.Request.TheVariants.{Create, Mkdir, Write, Truncate, Unlink, Rmdir, Rename, Read, List as ListNames, Fsync, Sync}
use Rattle.f2_model.specs.declared.events.Event.TheVariants.{Begin}
use Rattle.f2_model.specs.declared.events.Answer.TheVariants.{Began}
use Rattle.f2_model.specs.declared.replies.Begun.{Begun}
use Rattle.f2_model.specs.declared.replies.Begun.TheVariants.{Going, Replied}
use Rattle.f2_model.specs.declared.replies.Plan.{Plan}
use Rattle.f2_model.specs.declared.replies.Plan.TheVariants as plan
use Rattle.f2_model.specs.declared.replies.Reason.{Reason}
use Rattle.f2_model.specs.declared.replies.Reply.{Reply}
use Rattle.f2_model.specs.declared.replies.Reply.TheVariants as reply
use Rattle.f2_model.specs.declared.replies.Outcome.{Outcome}
use Rattle.f2_model.specs.declared.histories.Entry.TheVariants as entry
use Rattle.f2_model.specs.Tree.{Rows, walk}
use Rattle.f2_model.specs.Call.{refusal, effect, answer, space_refusal}
use Rattle.f2_model.specs.Fallback.{fallback}
use Rattle.f2_model.specs.State.{State, dirtied, touched, removed, InFsync, fresh_progress, number_of}
use Rattle.f2_model.specs.Step.{Turn, Step, IsSeat, calm, checking, StepBegin, Serves, BeginsCheck, BeginsFsync, TakesEffect, MOST_ENTRIES, is_up, barring_seat, freezing, least_in_flight, adds_row, called, told_at_once, replied, turn_with, unchanged, outcome_of}
use Rattle.f2_laws.specs.Choice.{tells_failure}
use Rattle.f2_laws.specs.Room.{IsLeastFreeIno}
use Rattle.f2_reference_state.specs.Seen.{Seen, told, after_turn}
use Rattle.f2_reference_state.specs.declared.calls.Call.{Call}
use Rattle.f2_reference.specs.Begins.{BeginsBy, ServesAtOnce, TookEffect, both_rows, file_to_sync, pages_changed, rows_changed}
use Rattle.f2_reference.specs.Choosing.{ComesTo, blocks_after}
use Rattle.f2_reference.specs.declared.choices.Choices.{Choices}
use Rattle.f2_reference.proofs.BeginReplies.{IsPlain, plain_answer}

-- a choice by a test, and by what there is, at a known answer
pub on_true : (b : Bool) (P Q : Type 0) → b ≡ true → P → MatchBool b P Q
on_true true P Q is p = p
on_true false P Q is p = absurd (true≢false (sym is))

pub on_false : (b : Bool) (P Q : Type 0) → b ≡ false → Q → MatchBool b P Q
on_false true P Q is q = absurd (true≢false is)
on_false false P Q is q = q

pub on_none : {X : Type 0} (o : Option X) (P : Type 0) (Q : X → Type 0) → o ≡ None → P → MatchOption o P Q
on_none None P Q is p = p
on_none (Some x) P Q is p = absurd (none-some x (sym is))

pub on_some : {X : Type 0} (o : Option X) (P : Type 0) (Q : X → Type 0) (x : X) → o ≡ Some x → Q x → MatchOption o P Q
on_some None P Q x is q = absurd (none-some x is)
on_some (Some y) P Q x is q = subst Q (sym (ap (λ o. unwrap_or o y) is)) q

-- no choice is least, and one that is
none_chosen : (P : ℕ → Type 0) → All P []
none_chosen P k d inside = absurd (omega (arith, inside))

one_chosen : (P : ℕ → Type 0) (ino : ℕ) → P ino → All P (ino ∷ [])
one_chosen P ino p zero d inside = p
one_chosen P ino p (suc k) d inside = absurd (omega (arith, inside))

-- a machine after a turn that changes nothing
still : (old : Seen) (told : Reply) → old ≡ after_turn old (unchanged old.state (replied told))
still old told = λ i. record old {
  state = record old.state { entries = sym (add-zero old.state.entries) i };
  entries = sym (append-nil old.entries) i;
  choices = sym (append-nil old.choices) i;
}

module _ (choices : Choices) (old new : Seen) (seat : ℕ) (request : Request) where
  -- a call that is answered and leaves no entry
  pub answered_only : (Is : Turn → Type 0) (told : Reply) → IsPlain told → Is (unchanged old.state (replied told)) → BeginsBy choices old old request (Replied told) Is
  answered_only Is told plain is = record {
    turn = unchanged old.state (replied told);
    is = is;
    faultless = plain;
    chosen = λ adds. none_chosen (IsLeastFreeIno old.limits old.state);
    told = refl;
    after = still old told;
  }

  -- a call that is answered and changes nothing
  pub did_only : (Is : Turn → Type 0) (reply : Reply) → IsPlain reply → Is (told_at_once old.state seat request reply [] old.state) → new ≡ after_turn old (told_at_once old.state seat request reply [] old.state)
      → BeginsBy choices old new request (Replied reply) Is
  did_only Is reply plain is after = record {
    turn = told_at_once old.state seat request reply [] old.state;
    is = is;
    faultless = plain;
    chosen = λ adds. none_chosen (IsLeastFreeIno old.limits old.state);
    told = refl;
    after = after;
  }

  pub did_told : {E : Type 0} (result : Result Begun E) (Is : Turn → Type 0) (reply : Reply) → IsPlain reply → Is (told_at_once old.state seat request reply [] old.state)
      → IfOk result (λ begun. begun ≡ Replied reply) → OnOk result (new ≡ after_turn old (told_at_once old.state seat request reply [] old.state))
      → IfOk result (λ begun. BeginsBy choices old new request begun Is)
  did_told (Ok begun) Is reply plain is replied after = subst (λ one. BeginsBy choices old new request one Is) (sym replied) (did_only Is reply plain is after)
  did_told (Err error) Is reply plain is replied after = tt

  -- a checkpoint that begins
  begun_check : (of : Plan) → adds_row request ≡ false → least_in_flight old.state ≡ None → (blocks : ℕ) → blocks_after choices old (Began (Going of)) ≡ blocks
      → new ≡ record (told old (entry.Begin seat request ∷ entry.CpBegin seat of ∷ []) (number_of old.state.format ∷ []) (checking old.state seat of)) { blocks = blocks }
      → BeginsBy choices old new request (Going of) (BeginsCheck old.state seat request of)
  begun_check of rowless none blocks left after =
      let turn = turn_with (Began (Going of)) (entry.Begin seat request ∷ entry.CpBegin seat of ∷ []) (number_of old.state.format ∷ []) (checking old.state seat of) in
      record {
        turn = turn;
        is = on_none (least_in_flight old.state) _ _ none refl;
        faultless = refl;
        chosen = λ adds. absurd (true≢false (sym adds ∙ rowless));
        told = refl;
        after = after ∙ ap (λ n. record (after_turn old turn) { blocks = n }) (sym left);
      }

  pub check_begun : (of : Plan) → of ≢ plan.Roll → adds_row request ≡ false → least_in_flight old.state ≡ None
      → new ≡ record (told old (entry.Begin seat request ∷ entry.CpBegin seat of ∷ []) (number_of old.state.format ∷ []) (checking old.state seat of)) { blocks = choices.blocks }
      → BeginsBy choices old new request (Going of) (BeginsCheck old.state seat request of)
  check_begun plan.Roll other rowless none after = absurd (other refl)
  check_begun plan.Sync other rowless none after = begun_check plan.Sync rowless none choices.blocks refl after
  check_begun (plan.Cp reason) other rowless none after = begun_check (plan.Cp reason) rowless none choices.blocks refl after

  -- a turn of one kind is one of another
  pub by_way : (begun : Begun) (Is Next : Turn → Type 0) → ((turn : Turn) → Is turn → Next turn) → BeginsBy choices old new request begun Is → BeginsBy choices old new request begun Next
  by_way begun Is Next way by = record { turn = by.turn; is = way by.turn by.is; faultless = by.faultless; chosen = by.chosen; told = by.told; after = by.after }

  -- an event that is a turn with which a call begins
  pub begun_comes : (begun : Begun) → IsSeat seat → BeginsBy choices old new request begun (StepBegin old.limits calm old.state seat request) → ComesTo choices old new (Begin seat request) (Began begun)
  begun_comes begun seated by = record { turn = by.turn; step = (seated, inl by.is); faultless = by.faultless; chosen = by.chosen; told = by.told; after = by.after }

-- the value of an Ok
ok_value : {A E : Type 0} → A → Result A E → A
ok_value other (Ok value) = value
ok_value other (Err error) = other

-- what a call leaves that adds a row, and one that adds none
abbrev Made : Seen → Seen → ℕ → Request → Type 0
Made old new seat request =
    (ino : ℕ) × IsLeastFreeIno old.limits old.state ino × (new ≡ told old (entry.Did seat request (outcome_of (answer old.state.live request)) ∷ []) (ino ∷ []) (called old.state request ino))

abbrev Answered : Seen → Seen → ℕ → Request → Type 0
Answered old new seat request = new ≡ told old (entry.Did seat request (outcome_of (answer old.state.live request)) ∷ []) [] (called old.state request 0)

-- what a call changes of the pages of a row, where the rows at the end of two walks are given
pub changed_pages : (state : State) (request : Request) (before after : Result Row Reply) → rows_changed state request (both_rows before after) ≡ pages_changed state request before after
changed_pages state request (Ok one) (Ok other) = refl
changed_pages state request (Ok one) (Err refused) = refl
changed_pages state request (Err refused) after = refl

module _ (choices : Choices) (old new : Seen) (seat : ℕ) (request : Request) where
  -- an fsync that rolls forward, and one that makes a checkpoint
  pub roll_begun : (walked : Result Row Reply) (ino : ℕ) → Ok (ino, None) ≡ file_to_sync old.limits old.state walked
      → new ≡ told old (entry.Begin seat request ∷ []) [] (record old.state { flights = map.insert old.state.flights seat (InFsync ino fresh_progress) })
      → BeginsBy choices old new request (Going plan.Roll) (BeginsFsync old.limits old.state seat request walked)
  unfolding ok_value
  roll_begun (Err refused) ino file after = absurd (cc)
  roll_begun (Ok row) ino file after =
      let same = ap (ok_value (ino, None)) file in
      record {
        turn = turn_with (Began (Going plan.Roll)) (entry.Begin seat request ∷ []) [] (record old.state { flights = map.insert old.state.flights seat (InFsync row.ino fresh_progress) });
        is = on_none (fallback old.limits old.state row) _ _ (sym (ap (λ pair. pair.1) same)) refl;
        faultless = refl;
        chosen = λ adds. none_chosen (IsLeastFreeIno old.limits old.state);
        told = refl;
        after = subst (λ n. new ≡ told old (entry.Begin seat request ∷ []) [] (record old.state { flights = map.insert old.state.flights seat (InFsync n fresh_progress) })) (ap (λ pair. pair.0) same) after;
      }

  pub reason_way : (walked : Result Row Reply) (ino : ℕ) (reason : Reason) → Ok (ino, Some reason) ≡ file_to_sync old.limits old.state walked
      → (turn : Turn) → BeginsCheck old.state seat request (plan.Cp reason) turn → BeginsFsync old.limits old.state seat request walked turn
  unfolding ok_value
  reason_way (Err refused) ino reason file turn is = absurd (cc)
  reason_way (Ok row) ino reason file turn is =
      let same = ap (ok_value (ino, Some reason)) file in
      on_some (fallback old.limits old.state row) _ _ reason (sym (ap (λ pair. pair.1) same)) is

  pub stopped_way : (walked : Result Row Reply) (refused : Reply) → Err refused ≡ file_to_sync old.limits old.state walked
      → BeginsFsync old.limits old.state seat request walked (told_at_once old.state seat request refused [] old.state)
  stopped_way (Ok row) refused file = absurd (cc)
  stopped_way (Err other) refused file = let same : refused ≡ other = cc in ap (λ one. told_at_once old.state seat request one [] old.state) same

  pub stop_of : (walked : Result Row Reply) (refused : Reply) → Err refused ≡ file_to_sync old.limits old.state walked → walked ≡ Err refused
  stop_of (Ok row) refused file = absurd (cc)
  stop_of (Err other) refused file = let same : refused ≡ other = cc in sym (ap Err same)

  -- a call that takes effect at once
  pub effect_begun : (one : Reply) (outcome : Outcome) → space_refusal old.limits (effect old.state.live request old.limits.nids) ≡ None → one ≡ answer old.state.live request → outcome ≡ outcome_of one
      → TookEffect old new (record { seat = seat; request = request; outcome = outcome })
      → BeginsBy choices old new request (Replied one) (ServesAtOnce old.limits old.state seat request)
  effect_begun one outcome room is_answer is_outcome took =
      let ended : outcome ≡ outcome_of (answer old.state.live request) = is_outcome ∙ ap outcome_of is_answer in
      subst (λ told. BeginsBy choices old new request (Replied told) (ServesAtOnce old.limits old.state seat request)) (sym is_answer)
      (by_row (adds_row request) refl (subst (λ end. TookEffect old new (record { seat = seat; request = request; outcome = end })) ended took))
    where
      by_row : (b : Bool) → adds_row request ≡ b → MatchBool b (Made old new seat request) (Answered old new seat request) → BeginsBy choices old new request (Replied (answer old.state.live request)) (ServesAtOnce old.limits old.state seat request)
      by_row true is made = record {
        turn = told_at_once old.state seat request (answer old.state.live request) (made.0 ∷ []) (called old.state request made.0);
        is = on_none (space_refusal old.limits (effect old.state.live request old.limits.nids)) _ _ room (on_true (adds_row request) _ _ is (made.0, made.1.free, refl));
        faultless = plain_answer old.state.live request;
        chosen = λ adds. one_chosen (IsLeastFreeIno old.limits old.state) made.0 made.1;
        told = refl;
        after = made.2;
      }
      by_row false is after = record {
        turn = told_at_once old.state seat request (answer old.state.live request) [] (called old.state request 0);
        is = on_none (space_refusal old.limits (effect old.state.live request old.limits.nids)) _ _ room (on_false (adds_row request) _ _ is refl);
        faultless = plain_answer old.state.live request;
        chosen = λ adds. none_chosen (IsLeastFreeIno old.limits old.state);
        told = refl;
        after = after;
      }

is_le : (m n : ℕ) → m ≤ n → nat_le m n ≡ true
is_le m n le = grind (arith, le)

is_above : (m n : ℕ) → n < m → nat_le m n ≡ false
is_above m n lt = grind (arith, lt)

-- the tests of a call, in their order
module _ (limits : Limits) (state : State) (seat : ℕ) (request : Request) (turn : Turn) where
  pub closed_step : is_up state.mode ≡ false → turn ≡ unchanged state (replied reply.Closed) → StepBegin limits calm state seat request turn
  closed_step shut is = on_true (not (is_up state.mode)) _ _ (ap not shut) is

  pub spent_step : is_up state.mode ≡ true → MOST_ENTRIES ≤ state.entries → turn ≡ unchanged state (replied reply.Spent) → StepBegin limits calm state seat request turn
  spent_step up late is = on_false (not (is_up state.mode)) _ _ (ap not up) (on_true (nat_le MOST_ENTRIES state.entries) _ _ (is_le _ _ late) is)

  pub barred_step : (by : ℕ) → is_up state.mode ≡ true → state.entries < MOST_ENTRIES → barring_seat state seat ≡ Some by → turn ≡ unchanged state (replied (reply.Busy by)) → StepBegin limits calm state seat request turn
  barred_step by up early barred is = on_false (not (is_up state.mode)) _ _ (ap not up) (on_false (nat_le MOST_ENTRIES state.entries) _ _ (is_above _ _ early) (on_some (barring_seat state seat) _ _ by barred is))

  pub refused_step : (refused : Reply) → is_up state.mode ≡ true → state.entries < MOST_ENTRIES → barring_seat state seat ≡ None → refusal limits state.live request ≡ Some refused
      → turn ≡ told_at_once state seat request refused [] state → StepBegin limits calm state seat request turn
  refused_step refused up early free told is =
      on_false (not (is_up state.mode)) _ _ (ap not up) (on_false (nat_le MOST_ENTRIES state.entries) _ _ (is_above _ _ early) (on_none (barring_seat state seat) _ _ free
      (on_some (refusal limits state.live request) _ _ refused told is)))

  pub frozen_step : (by : ℕ) → is_up state.mode ≡ true → state.entries < MOST_ENTRIES → barring_seat state seat ≡ None → refusal limits state.live request ≡ None → freezing state request ≡ Some by
      → turn ≡ unchanged state (replied (reply.Busy by)) → StepBegin limits calm state seat request turn
  frozen_step by up early free passed frozen is =
      on_false (not (is_up state.mode)) _ _ (ap not up) (on_false (nat_le MOST_ENTRIES state.entries) _ _ (is_above _ _ early) (on_none (barring_seat state seat) _ _ free
      (on_none (refusal limits state.live request) _ _ passed (on_some (freezing state request) _ _ by frozen is))))

  pub served_step : is_up state.mode ≡ true → state.entries < MOST_ENTRIES → barring_seat state seat ≡ None → refusal limits state.live request ≡ None → freezing state request ≡ None
      → Serves limits calm state seat request turn → StepBegin limits calm state seat request turn
  served_step up early free passed thawed is =
      on_false (not (is_up state.mode)) _ _ (ap not up) (on_false (nat_le MOST_ENTRIES state.entries) _ _ (is_above _ _ early) (on_none (barring_seat state seat) _ _ free
      (on_none (refusal limits state.live request) _ _ passed (on_none (freezing state request) _ _ thawed is))))

-- a choice by what there is, whose first way is one of a sum
wider : {X : Type 0} (o : Option X) (P R : Type 0) (Q : X → Type 0) → MatchOption o P Q → MatchOption o (P ⊎ R) Q
wider None P R Q p = inl p
wider (Some x) P R Q q = q

-- a call of one event serves
pub at_once_way : (limits : Limits) (state : State) (seat : ℕ) (request : Request) → ((path : List (List ℕ)) → request ≢ Fsync path) → request ≢ Sync → (turn : Turn)
    → ServesAtOnce limits state seat request turn → Serves limits calm state seat request turn
at_once_way limits state seat (Create path) fsync sync turn is = wider (space_refusal limits (effect state.live (Create path) limits.nids)) _ _ _ is
at_once_way limits state seat (Mkdir path) fsync sync turn is = wider (space_refusal limits (effect state.live (Mkdir path) limits.nids)) _ _ _ is
at_once_way limits state seat (Write path pieces) fsync sync turn is = wider (space_refusal limits (effect state.live (Write path pieces) limits.nids)) _ _ _ is
at_once_way limits state seat (Truncate path size) fsync sync turn is = wider (space_refusal limits (effect state.live (Truncate path size) limits.nids)) _ _ _ is
at_once_way limits state seat (Unlink path) fsync sync turn is = wider (space_refusal limits (effect state.live (Unlink path) limits.nids)) _ _ _ is
at_once_way limits state seat (Rmdir path) fsync sync turn is = wider (space_refusal limits (effect state.live (Rmdir path) limits.nids)) _ _ _ is
at_once_way limits state seat (Rename from to) fsync sync turn is = wider (space_refusal limits (effect state.live (Rename from to) limits.nids)) _ _ _ is
at_once_way limits state seat (Read path off len) fsync sync turn is = wider (space_refusal limits (effect state.live (Read path off len) limits.nids)) _ _ _ is
at_once_way limits state seat (ListNames path) fsync sync turn is = wider (space_refusal limits (effect state.live (ListNames path) limits.nids)) _ _ _ is
at_once_way limits state seat (Fsync path) fsync sync turn is = absurd (fsync path refl)
at_once_way limits state seat Sync fsync sync turn is = absurd (sync refl)

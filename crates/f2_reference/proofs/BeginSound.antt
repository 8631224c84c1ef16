-- The trees that a machine holds stay fitting when a call begins.
use Rattle.std.proofs.Common.{length, ◌≡◌, ◌⊎◌, ℕ, ◌≤◌, Bool, true, false, List, [], Option, Some, None, Result, Ok, Err, IfOk, OnErr, MatchOption, refl, sym, ap, subst, ◌∙◌, inl, inr}
use Rattle.std.specs.Bool.{MatchBool}
use Rattle.std.specs.List.{All}
use Rattle.f2_model.specs.declared.bounds.Limits.{Limits}
use Rattle.f2_model.specs.declared.rows.Row.{Row}
use Rattle.f2_model.specs.declared.requests.Request.{Request}
use Rattle.f2_model.specs.declared.requests.Request.TheVariants.{Create, Mkdir, Write, Truncate, Unlink, Rmdir, Rename, Read, List as ListNames, Fsync, Sync}
use Rattle.f2_model.specs.declared.replies.Plan.{Plan}
use Rattle.f2_model.specs.declared.replies.Plan.TheVariants as plan
use Rattle.f2_model.specs.declared.replies.Reply.{Reply}
use Rattle.f2_model.specs.Tree.{Rows, walk}
use Rattle.f2_model.specs.Call.{refusal, effect, space_refusal}
use Rattle.f2_model.specs.Fallback.{fallback}
use Rattle.f2_model.specs.State.{State, from_both_rows, from_row, dirtied, touched, removed, marked_dirty}
use Rattle.f2_model.specs.Step.{Turn, Serves, BeginsCheck, BeginsFsync, TakesEffect, ReadFails, adds_row, called, told_at_once, least_in_flight, calm}
use Rattle.f2_reference_calls.specs.Given.{IsFitting}
use Rattle.f2_spans.specs.Spans.{MOST_SIZE}
use Rattle.f2_reference_calls.proofs.Fitting.{fitting_after}
use Rattle.f2_reference_state.specs.Seen.{Seen, after_turn}
use Rattle.f2_reference.specs.Begins.{BeginsBy}
use Rattle.f2_reference.specs.Sound.{IsSound, IsFittingMark}
use Rattle.f2_reference.specs.declared.choices.Choices.{Choices}
use Rattle.f2_model.specs.declared.replies.Begun.{Begun}

off_bool : (b : Bool) (P Q R : Type 0) → (P → R) → (Q → R) → MatchBool b P Q → R
off_bool true P Q R first second p = first p
off_bool false P Q R first second q = second q

off_option : {X : Type 0} (o : Option X) (P R : Type 0) (Q : X → Type 0) → (P → R) → ((x : X) → Q x → R) → MatchOption o P Q → R
off_option None P R Q nothing something p = nothing p
off_option (Some x) P R Q nothing something q = something x q

-- a state whose trees other than the live one, and marks, are those of another
pub record KeepsRest (old new : State) : Type 0 where
  pub base : new.base ≡ old.base
  pub pending : new.pending ≡ old.pending
  pub marks : new.marks ≡ old.marks
  pub acknowledged : new.acknowledged ≡ old.acknowledged

keeps_same : (state : State) → KeepsRest state state
keeps_same state = record { base = refl; pending = refl; marks = refl; acknowledged = refl }

keeps_rows : (state : State) (before after : Result Row Reply) (next : Row → Row → State) → ((one other : Row) → KeepsRest state (next one other)) → KeepsRest state (from_both_rows state before after next)
keeps_rows state (Ok one) (Ok other) next rest = rest one other
keeps_rows state (Ok one) (Err refused) next rest = keeps_same state
keeps_rows state (Err refused) after next rest = keeps_same state

keeps_row : (state : State) (end : Result Row Reply) (next : Row → State) → ((row : Row) → KeepsRest state (next row)) → KeepsRest state (from_row state end next)
keeps_row state (Ok row) next rest = rest row
keeps_row state (Err refused) next rest = keeps_same state

keeps_marked : (state : State) (request : Request) (after : Rows) → KeepsRest state (marked_dirty state request after)
keeps_marked state (Create path) after = keeps_same state
keeps_marked state (Mkdir path) after = keeps_same state
keeps_marked state (Write path pieces) after = keeps_rows state (walk state.live path) (walk after path) _ (λ one other. record { base = refl; pending = refl; marks = refl; acknowledged = refl })
keeps_marked state (Truncate path size) after = keeps_rows state (walk state.live path) (walk after path) _ (λ one other. record { base = refl; pending = refl; marks = refl; acknowledged = refl })
keeps_marked state (Unlink path) after = keeps_row state (walk state.live path) _ (λ row. record { base = refl; pending = refl; marks = refl; acknowledged = refl })
keeps_marked state (Rmdir path) after = keeps_same state
keeps_marked state (Rename from to) after = keeps_row state (walk state.live from) _ (λ row. record { base = refl; pending = refl; marks = refl; acknowledged = refl })
keeps_marked state (Read path off len) after = keeps_same state
keeps_marked state (ListNames path) after = keeps_same state
keeps_marked state (Fsync path) after = keeps_same state
keeps_marked state Sync after = keeps_same state

-- a state with a fitting live tree and the rest of another
abbrev Fits : State → Turn → Type 0
Fits state turn = IsFitting turn.after.live × KeepsRest state turn.after

fits_by : (state : State) (so turn : Turn) → turn ≡ so → Fits state so → Fits state turn
fits_by state so turn is fits = subst (Fits state) (sym is) fits

module _ (limits : Limits) (state : State) (fitting : IsFitting state.live) (size : limits.size ≤ MOST_SIZE) (seat : ℕ) (request : Request) (turn : Turn) where
  fits_still : (so : Turn) → so.after.live ≡ state.live → KeepsRest state so.after → turn ≡ so → Fits state turn
  fits_still so live rest is = fits_by state so turn is (subst IsFitting (sym live) fitting, rest)

  fits_check : (of : Plan) → BeginsCheck state seat request of turn → Fits state turn
  fits_check of = off_option (least_in_flight state) _ (Fits state turn) _ (fits_still _ refl (record { base = refl; pending = refl; marks = refl; acknowledged = refl })) (λ by. fits_still _ refl (record { base = refl; pending = refl; marks = refl; acknowledged = refl }))

  fits_fsync : (walked : Result Row Reply) → BeginsFsync limits state seat request walked turn → Fits state turn
  fits_fsync (Err refused) is = fits_still _ refl (record { base = refl; pending = refl; marks = refl; acknowledged = refl }) is
  fits_fsync (Ok row) is = off_option (fallback limits state row) _ (Fits state turn) _ (fits_still _ refl (record { base = refl; pending = refl; marks = refl; acknowledged = refl })) (λ reason. fits_check (plan.Cp reason)) is

  fits_called : (ino : ℕ) → refusal limits state.live request ≡ None → (so : Turn) → so.after.live ≡ effect state.live request ino → KeepsRest (marked_dirty state request (effect state.live request ino)) so.after → turn ≡ so → Fits state turn
  fits_called ino passed so live rest is =
      let marked = keeps_marked state request (effect state.live request ino) in
      fits_by state so turn is (subst IsFitting (sym live) (fitting_after limits state.live request ino fitting size passed), record { base = rest.base ∙ marked.base; pending = rest.pending ∙ marked.pending; marks = rest.marks ∙ marked.marks; acknowledged = rest.acknowledged ∙ marked.acknowledged })

  fits_effect : refusal limits state.live request ≡ None → TakesEffect limits state seat request turn → Fits state turn
  fits_effect passed = off_bool (adds_row request) _ _ (Fits state turn)
      (λ made. fits_called made.0 passed _ refl (record { base = refl; pending = refl; marks = refl; acknowledged = refl }) made.2)
      (fits_called 0 passed _ refl (record { base = refl; pending = refl; marks = refl; acknowledged = refl }))

  fits_way : refusal limits state.live request ≡ None → TakesEffect limits state seat request turn ⊎ ReadFails calm state seat request turn → Fits state turn
  fits_way passed (inl is) = fits_effect passed is
  fits_way passed (inr is) = fits_still _ refl (record { base = refl; pending = refl; marks = refl; acknowledged = refl }) is.1

  fits_at_once : refusal limits state.live request ≡ None
      → MatchOption (space_refusal limits (effect state.live request limits.nids)) (TakesEffect limits state seat request turn ⊎ ReadFails calm state seat request turn) (λ refused. turn ≡ told_at_once state seat request refused [] state)
      → Fits state turn
  fits_at_once passed = off_option (space_refusal limits (effect state.live request limits.nids)) _ (Fits state turn) _ (fits_way passed) (λ refused. fits_still _ refl (record { base = refl; pending = refl; marks = refl; acknowledged = refl }))

fits_served : (limits : Limits) (state : State) (seat : ℕ) (request : Request) (turn : Turn) → IsFitting state.live → limits.size ≤ MOST_SIZE → refusal limits state.live request ≡ None → Serves limits calm state seat request turn → Fits state turn
fits_served limits state seat (Create path) turn fitting size passed is = fits_at_once limits state fitting size seat (Create path) turn passed is
fits_served limits state seat (Mkdir path) turn fitting size passed is = fits_at_once limits state fitting size seat (Mkdir path) turn passed is
fits_served limits state seat (Write path pieces) turn fitting size passed is = fits_at_once limits state fitting size seat (Write path pieces) turn passed is
fits_served limits state seat (Truncate path to) turn fitting size passed is = fits_at_once limits state fitting size seat (Truncate path to) turn passed is
fits_served limits state seat (Unlink path) turn fitting size passed is = fits_at_once limits state fitting size seat (Unlink path) turn passed is
fits_served limits state seat (Rmdir path) turn fitting size passed is = fits_at_once limits state fitting size seat (Rmdir path) turn passed is
fits_served limits state seat (Rename from to) turn fitting size passed is = fits_at_once limits state fitting size seat (Rename from to) turn passed is
fits_served limits state seat (Read path off len) turn fitting size passed is = fits_at_once limits state fitting size seat (Read path off len) turn passed is
fits_served limits state seat (ListNames path) turn fitting size passed is = fits_at_once limits state fitting size seat (ListNames path) turn passed is
fits_served limits state seat (Fsync path) turn fitting size passed is = fits_fsync limits state fitting size seat (Fsync path) turn (walk state.live path) is
fits_served limits state seat Sync turn fitting size passed is = fits_check limits state fitting size seat Sync turn plan.Sync is

-- a machine stays sound when a call is served
pub served_sound : (choices : Choices) (old new : Seen) (seat : ℕ) (request : Request) (begun : Begun) → IsSound old → refusal old.limits old.state.live request ≡ None
    → BeginsBy choices old new request begun (Serves old.limits calm old.state seat request) → IsSound new
served_sound choices old new seat request begun sound passed by =
    let fits = fits_served old.limits old.state seat request by.turn sound.live sound.size passed by.is in
    subst IsSound (sym by.after) (record {
      size = sound.size;
      live = fits.0;
      base = subst IsFitting (sym fits.1.base) sound.base;
      pending = λ tree is. sound.pending tree (sym fits.1.pending ∙ is);
      marks = subst (λ marks. All IsFittingMark marks) (sym fits.1.marks) sound.marks;
      acknowledged = subst (λ n. n ≤ length by.turn.after.marks) (sym fits.1.acknowledged) (subst (λ marks. old.state.acknowledged ≤ length marks) (sym fits.1.marks) sound.acknowledged);
    })

pub sound_after : {E : Type 0} (choices : Choices) (old new : Seen) (seat : ℕ) (request : Request) (result : Result Begun E) → IsSound old → refusal old.limits old.state.live request ≡ None
    → IfOk result (λ begun. BeginsBy choices old new request begun (Serves old.limits calm old.state seat request)) → OnErr result (new ≡ old) → IsSound new
sound_after choices old new seat request (Ok begun) sound passed by same = served_sound choices old new seat request begun sound passed by
sound_after choices old new seat request (Err error) sound passed by same = subst IsSound (sym same) sound

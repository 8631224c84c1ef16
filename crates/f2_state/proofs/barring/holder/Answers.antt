use Rattle.std.proofs.Common.{◌≡◌, ℕ, sym, ◌∙◌}
use Rattle.std.specs.Prelude.{Some, None, Result, Ok, Err}
use Rattle.std.specs.Result.{result_ok}
use Rattle.f2_model.specs.State.{State}
use Rattle.f2_model.specs.Step.{freezing_walked, freezing_seat}
use Rattle.f2_model.specs.Tree.{walk}
use Rattle.f2_model.specs.declared.replies.Reply.{Reply}
use Rattle.f2_model.specs.declared.rows.Row.{Row}
use Rattle.f2_files.specs.Led.{ino_at}
use Rattle.f2_state.proofs.Beginnings.{held_at, held_nowhere}
use Rattle.f2_state.proofs.barring.holder.Goals as goal

nowhere : (state : State) (end : Result Row Reply) (found : Result ℕ Reply) → found ≡ ino_at end → result_ok found ≡ None → freezing_walked state end ≡ None
nowhere state end (Ok ino) same is = absurd (cc)
nowhere state end (Err refused) same is = held_nowhere state end refused (sym same)

there : (state : State) (end : Result Row Reply) (found : Result ℕ Reply) (ino : ℕ) → found ≡ ino_at end → result_ok found ≡ Some ino → freezing_walked state end ≡ freezing_seat state ino
there state end (Ok other) ino same is = held_at state end ino (cc)
there state end (Err refused) ino same is = absurd (cc)

pub returns-in_err-ino : goal.returns-in_err-ino
returns-in_err-ino c = λ most state good known.
    c.from_residual.ensures ∙ sym (nowhere state (walk state.live c.args.path.now) c.walk.result (rw (← c.as_slice.ensures) (c.walk.ensures most state.live good known.shapes)) (sym c.ok.ensures.value ∙ c.in_err-ino.was))

pub returns : goal.returns
returns c = λ most state good known.
    let held = there state (walk state.live c.args.path.now) c.walk.result c.in_ok-ino.ino (rw (← c.as_slice.ensures) (c.walk.ensures most state.live good known.shapes)) (sym c.ok.ensures.value ∙ c.in_ok-ino.was) in
    rw (held, ← known.flights) c.holder.ensures

-- How an event that only looked, and left some entries, leads on.
use Rattle.std.proofs.Common.{◌≡◌, inl, inr, ℕ, ◌+◌, List, [], ◌∷◌, ◌++◌, length, refl, ap, sym, subst, ◌∙◌, arith}
use Rattle.std.specs.Prelude.{Option, Result, Ok, Err, OnOk, OnErr}
use Rattle.std.proofs.lemmas.List.{length-append, append-nil}
use Rattle.f2_disk.specs.Contents.{Contents}
use Rattle.f2_disk.specs.Meter.{Meter}
use Rattle.f2_disk.specs.Using.{OnlyReads}
use Rattle.f2_image_laws.specs.Rolled.{image_limits}
use Rattle.f2_model.specs.History.{History}
use Rattle.f2_model.specs.State.{State}
use Rattle.f2_model.specs.Call.{answer}
use Rattle.f2_model.specs.Step.{Faults, Turn, HasRisen, IsSeat, Step, StepBegin, turn_with, told_at_once, replied, outcome_of}
use Rattle.f2_model.specs.declared.bounds.Limits.{Limits}
use Rattle.f2_model.specs.declared.events.Event.TheVariants.{Begin}
use Rattle.f2_model.specs.declared.histories.CallKind.TheVariants as kind
use Rattle.f2_model.specs.declared.histories.Entry.TheVariants as entry
use Rattle.f2_model.specs.declared.replies.Outcome.TheVariants as outcome
use Rattle.f2_model.specs.declared.replies.Reply.{Reply}
use Rattle.f2_model.specs.declared.replies.Reply.TheVariants as reply
use Rattle.f2_model.specs.declared.requests.Request.{Request}
use Rattle.f2_room_laws.specs.ProperTrees.{IsProperTree}
use Rattle.f2_state.specs.Barred.{IsBarred, IsLetIn}
use Rattle.f2_state.specs.declared.barring.Barred.{Barred}
use Rattle.f2_model.specs.declared.events.Answer.{Answer}
use Rattle.f2_model.specs.declared.events.Event.{Event}
use Rattle.f2_model.specs.declared.histories.Entry.{Entry}
use Rattle.f2_state.specs.Following.{AdvancesFrom, Follows, faults_between}
use Rattle.f2_state.specs.Looks.{IsLook, IsKeptBut, OnlyLooks}
use Rattle.f2_state.specs.Seen.{Seen}
use Rattle.f2_state.specs.Standing.{StandsIn}
use Rattle.f2_state.proofs.Counted.{stands_counted}
use Rattle.f2_state.proofs.Serving.{look_told, look_failed}
use Rattle.f2_state.proofs.Unchanged.{looks_none}

module _ {D : Type 0} (contents : D → Option Contents) (meter : D → Meter) where
  -- a volume that looked, and then added these entries
  pub advances_by : (old mid : Seen D) (history : History) (entries : List Entry) (event : Event) (answer : Answer) (start from : State) → OnlyLooks contents meter old mid
      → history.entries ≡ mid.history.entries ++ entries → history.choices ≡ mid.history.choices → StandsIn (contents old.disk) old from
      → Step (image_limits old.geometry) (faults_between (meter old.disk) (meter mid.disk)) from event (turn_with answer entries [] from)
      → AdvancesFrom contents meter old (record mid { history = history }) event answer start from
  advances_by old mid history entries event answer start from looks more same stands step =
      let before : mid.history ≡ old.history = ap (λ (volume : Seen D). volume.history) looks.rest in
      let now = looks.stands from stands in
      let count : from.entries + length entries ≡ length history.entries = ap (λ n. n + length entries) now.stands.at.entries ∙ sym (length-append mid.history.entries entries) ∙ ap length (sym more) in
      record {
        turn = turn_with answer entries [] from;
        step = step;
        told = refl;
        state = record { lists = now.lists; holds = now.holds; stands = stands_counted now.lists mid history from (from.entries + length entries) count now.stands };
        start = refl;
        entries = more ∙ ap (λ (h : History). h.entries ++ entries) before;
        choices = same ∙ ap (λ (h : History). h.choices) before ∙ sym (append-nil old.history.choices);
      }

  -- room for entries that were added changes nothing
  pub advances_with_room : (old new : Seen D) (history : History) (event : Event) (answer : Answer) (start from : State) → history.entries ≡ old.history.entries → history.choices ≡ old.history.choices
      → (StandsIn (contents old.disk) (record old { history = history }) from → AdvancesFrom contents meter (record old { history = history }) new event answer start from)
      → StandsIn (contents old.disk) old from → AdvancesFrom contents meter old new event answer start from
  advances_with_room old new history event answer start from entries choices then stands =
      let here = then (record { lists = stands.lists; holds = stands.holds; stands = stands_counted stands.lists old history from from.entries (stands.stands.at.entries ∙ ap length (sym entries)) stands.stands }) in
      record {
        turn = here.turn;
        step = here.step;
        told = here.told;
        state = here.state;
        start = refl;
        entries = here.entries ∙ ap (λ es. es ++ here.turn.entries) entries;
        choices = here.choices ∙ ap (λ cs. cs ++ here.turn.choices) choices;
      }

module _ (limits : Limits) (faults : Faults) (from : State) (seat : ℕ) (request : Request) (is_seat : IsSeat seat) where
  -- a look that was served, one in which a read failed, one that is kept off, and one that was refused memory
  pub step_told : (told : Reply) → IsLook request → IsProperTree limits from.live → IsLetIn limits from seat request → told ≡ answer from.live request
      → Step limits faults from (Begin seat request) (turn_with (replied told) (entry.Did seat request (outcome_of told) ∷ []) [] from)
  step_told told look proper let_in is =
      (is_seat, inl (subst (λ told. StepBegin limits faults from seat request (told_at_once from seat request told [] from)) (sym is) (look_told limits faults from seat proper request look let_in)))

  pub step_failed : IsLook request → IsProperTree limits from.live → IsLetIn limits from seat request → HasRisen faults
      → Step limits faults from (Begin seat request) (turn_with (replied reply.ReadFault) (entry.Did seat request outcome.ReadFault ∷ entry.Fault seat kind.Read faults.after ∷ []) [] from)
  step_failed look proper let_in risen = (is_seat, inl (look_failed limits faults from seat proper request look let_in risen))

  pub step_off : (turn : Turn) → StepBegin limits faults from seat request turn → Step limits faults from (Begin seat request) turn
  step_off turn begins = (is_seat, inl begins)

  pub step_memory : Step limits faults from (Begin seat request) (turn_with (replied reply.Memory) [] [] from)
  step_memory = (is_seat, inr refl)

-- what kept a call off, told of a request that is equal
pub barred_of : (limits : Limits) (from : State) (seat : ℕ) (request other : Request) (barred is : Barred) → other ≡ request → barred ≡ is → IsBarred limits from seat other barred → IsBarred limits from seat request is
barred_of limits from seat request other barred is same known off = subst (λ b. IsBarred limits from seat request b) known (subst (λ r. IsBarred limits from seat r barred) same off)

-- a history with room for more entries
pub same_with_room : {T E : Type 0} (result : Result T E) (old new : History) (most : ℕ) → OnOk result (new ≡ record old { spare = most }) → OnErr result (new ≡ old) → (new.entries ≡ old.entries) × (new.choices ≡ old.choices)
same_with_room (Ok done) old new most ok err = (ap (λ (h : History). h.entries) ok, ap (λ (h : History). h.choices) ok)
same_with_room (Err refused) old new most ok err = (ap (λ (h : History). h.entries) err, ap (λ (h : History). h.choices) err)

module _ {D : Type 0} (contents : D → Option Contents) (meter : D → Meter) (old : Seen D) (history : History) (same : (history.entries ≡ old.history.entries) × (history.choices ≡ old.history.choices)) where
  -- a call that was refused memory, and one that looked
  pub memory_follows : (seat : ℕ) (request : Request) → IsSeat seat → Follows contents meter old (record old { history = history }) (Begin seat request) (replied reply.Memory)
  memory_follows seat request is_seat = record {
    sizes = refl;
    counted = omega arith;
    advances = λ start from stands.
        advances_by contents meter old old history [] (Begin seat request) (replied reply.Memory) start from (looks_none contents meter old)
        (same.0 ∙ sym (append-nil old.history.entries)) same.1 stands (step_memory (image_limits old.geometry) _ from seat request is_seat);
  }

  pub look_follows : (new : Seen D) (event : Event) (answer : Answer) → IsKeptBut (record old { history = history }) new → OnlyReads contents meter old.disk new.disk
      → ((start from : State) → StandsIn (contents old.disk) (record old { history = history }) from → AdvancesFrom contents meter (record old { history = history }) new event answer start from)
      → Follows contents meter old new event answer
  look_follows new event answer rest reads then = record {
    sizes = ap (λ (volume : Seen D). volume.geometry) rest;
    counted = reads.within.later;
    advances = λ start from stands. advances_with_room contents meter old new history event answer start from same.0 same.1 (then start from) stands;
  }

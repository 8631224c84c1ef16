-- What a core on a calm bench does, as what a line of a script came to.
use Rattle.std.proofs.Common.{◌≡◌, ℕ, ◌+◌, ◌≤◌, List, [], ◌∷◌, refl, sym, ap, ◌∙◌, subst, arith}
use Rattle.std.specs.Prelude.{◌≢◌, if◌then◌else◌, Option, Some, None, IfSome, IsSome}
use Rattle.f2_disk.specs.Contents.{Contents}
use Rattle.f2_disk.specs.Meter.{Meter, HasFailed, HasMoreRoom, IsCalm, IsWithin}
use Rattle.f2_model.specs.declared.bounds.Limits.{Limits}
use Rattle.f2_model.specs.declared.requests.Request.{Request}
use Rattle.f2_model.specs.declared.replies.Reply.{Reply}
use Rattle.f2_model.specs.declared.replies.Reply.TheVariants as reply
use Rattle.f2_model.specs.State.{State}
use Rattle.f2_model.specs.declared.modes.Mode.{Mode}
use Rattle.f2_model.specs.Step as machine
use Rattle.f2_model.specs.declared.events.Answer.{Answer}
use Rattle.f2_model.specs.declared.events.Event.{Event}
use Rattle.f2_model.specs.declared.events.Answer.TheVariants as answers
use Rattle.f2_model.specs.declared.events.Event.TheVariants as events
use Rattle.f2_model.specs.Step.{Faults, Turn, Step, replied, is_up}
use Rattle.f2_model.specs.declared.events.Answer.TheVariants.{Crashed}
use Rattle.f2_laid.specs.declared.stored.Stored.{Stored}
use Rattle.f2_core.specs.declared.volumes.Volume.{Volume}
use Rattle.f2_core.specs.Seen.{Seen, IsIn, Knows, mode_of, tree_of}
use Rattle.f2_core.specs.Events.{ComesTo, HasCrashed, IsServed}
use Rattle.f2_core.specs.Writes.{checkpoint_writes}
use Rattle.f2_script.specs.declared.script.Line.TheVariants.{Call, Crash, Tree}
use Rattle.f2_script.specs.declared.script.Line.TheVariants as kind
use Rattle.f2_script.specs.Replies.{reply_spelling}
use Rattle.f2_script.specs.Steps.{found_spelling, mounted_spelling}
use Rattle.f2_model.specs.declared.replies.Step.TheVariants as step
use Rattle.f2_play.specs.Lines.{ended, live_where_up, tree_shown, found, already, shown}
use Rattle.f2_top.proofs.EventLemmas.{call_of, mount_of, one_of}
use Rattle.f2_top.specs.Replay.{CountsFaults}
use Rattle.f2_top.specs.Runs.{IsCalmMeter, StaysCalm, Comes, PlaysOn}

-- a calm bench that has room for the writes of a call meets no fault in it
same-faults : (first mid last : Meter) (room writes : ℕ) → IsCalmMeter first → HasMoreRoom first mid → room ≤ mid.spare → writes ≡ room → IsWithin writes mid last → last.faults ≡ mid.faults
same-faults first mid last room writes calm more has is within =
    let fewer : last.left + last.faults ≤ mid.left + mid.faults = within.no_fault (more.same_stopped ∙ calm.not_stopped) (omega arith) in
    omega (arith, fewer, more.same_left, calm.none_left, within.later)

-- nor is anything planned on it afterwards
StaysCalm-within : (first mid last : Meter) (room writes : ℕ) → IsCalmMeter first → HasMoreRoom first mid → room ≤ mid.spare → writes ≡ room → IsWithin writes mid last → StaysCalm first last
StaysCalm-within first mid last room writes calm more has is within =
    let fewer : last.left + last.faults ≤ mid.left + mid.faults = within.no_fault (more.same_stopped ∙ calm.not_stopped) (omega arith) in
    record {
      calm = record {
        none_left = omega (arith, fewer, more.same_left, calm.none_left, within.later);
        not_stopped = within.not_stopped (more.same_stopped ∙ calm.not_stopped);
      };
      same_faults = omega (arith, fewer, more.same_left, more.same_faults, calm.none_left, within.later);
    }

pub StaysCalm-trans : (old mid new : Meter) → StaysCalm old mid → StaysCalm mid new → StaysCalm old new
StaysCalm-trans old mid new first last = record { calm = last.calm; same_faults = last.same_faults ∙ first.same_faults }

-- a count that isn't at its end stays so on a bench that stays calm
pub counts-on : (old new : Meter) → StaysCalm old new → CountsFaults old → CountsFaults new
counts-on old new stays counts = omega (arith, stays.same_faults, counts)

-- a count that isn't at its end, and is the same, tells that no call failed
none-failed : (first mid last : Meter) → CountsFaults first → mid.faults ≡ first.faults → last.faults ≡ mid.faults → ¬ (HasFailed mid last)
none-failed first mid last counts same still failed = omega arith

-- a core that took room for an event on a calm bench
Comes-ready : {D : Type 0} (before middle now : Option Contents) (old mid new : Seen D) (event : Event) (answered : Answer)
    → mid ≡ record old { disk = mid.disk } → middle ≡ before → Comes middle now mid new event answered → Comes before now old new event answered
Comes-ready before middle now old mid new event answered kept same comes =
    let told : Comes before now mid new event answered = subst (λ (t : Option Contents). Comes t now mid new event answered) same comes in
    let readied : Comes before now (record old { disk = mid.disk }) new event answered = subst (λ (s : Seen _). Comes before now s new event answered) kept told in
    record {
      from_each = λ from some state.
          let come = readied.from_each from some state in
          record {
            events = come.events;
            to = come.to;
            leads = come.leads;
            goes = record { entries = come.goes.entries; choices = come.goes.choices; state = come.goes.state; safe = come.goes.safe };
          };
      tells = readied.tells;
    }

-- it comes to what the event stands for
pub Comes-calm : {D : Type 0} (before middle now : Option Contents) (old mid new : Seen D) (first ready last : Meter) (room : ℕ) (event : Event) (answered : Answer)
    → IsCalmMeter first → CountsFaults first → HasMoreRoom first ready → room ≤ ready.spare → room ≡ checkpoint_writes old.geometry
    → mid ≡ record old { disk = mid.disk } → middle ≡ before → IsWithin (checkpoint_writes mid.geometry) ready last
    → ((from : State) → IsSome middle → IsIn mid.geometry middle mid.volume mid.history from → ¬ (HasFailed ready last) → ComesTo mid new now from event answered)
    → (IsSome middle → IsSome now) → Comes before now old new event answered
Comes-calm before middle now old mid new first ready last room event answered calm counts more has is kept same within comes tells =
    let still = same-faults first ready last room (checkpoint_writes mid.geometry) calm more has (ap (λ (s : Seen _). checkpoint_writes s.geometry) kept ∙ sym is) within in
    Comes-ready before middle now old mid new event answered kept same record {
      from_each = λ from some state. comes from some state (none-failed first ready last counts more.same_faults still);
      tells = tells;
    }

-- and its bench stays calm
pub StaysCalm-step : {D : Type 0} (old mid : Seen D) (first ready last : Meter) (room : ℕ)
    → IsCalmMeter first → HasMoreRoom first ready → room ≤ ready.spare → room ≡ checkpoint_writes old.geometry → mid ≡ record old { disk = mid.disk }
    → IsWithin (checkpoint_writes mid.geometry) ready last → StaysCalm first last
StaysCalm-step old mid first ready last room calm more has is kept within =
    StaysCalm-within first ready last room (checkpoint_writes mid.geometry) calm more has (ap (λ (s : Seen _). checkpoint_writes s.geometry) kept ∙ sym is) within

-- so does a bench that begins anew
pub StaysCalm-anew : (blocks : ℕ) (bench started ready made : Meter) (room making : ℕ)
    → IsCalm blocks bench started → HasMoreRoom started ready → room ≤ ready.spare → room ≡ making → IsWithin making ready made → StaysCalm bench made
StaysCalm-anew blocks bench started ready made room making calm more has is within =
    let last = StaysCalm-within started ready made room making record { none_left = calm.none_left; not_stopped = calm.not_stopped } more has (sym is) within in
    record { calm = last.calm; same_faults = last.same_faults ∙ calm.same_faults }

-- a call that was replied to, and the line that was printed for it
pub PlaysOn-call : {D : Type 0} (before now : Option Contents) (old new : Seen D) (seat : ℕ) (request : Request) (told : Reply) (text : List ℕ)
    → IsServed (events.Begin seat request) → Comes before now old new (events.Begin seat request) (replied told) → told ≢ reply.Memory → text ≡ ended (reply_spelling told)
    → PlaysOn before now old new (Call seat request) text
PlaysOn-call before now old new seat request told text served comes some printed from at =
    let come = comes.from_each from at.tells at.in_state in (
      come.to,
      record {
        part = record { text = text; events = come.events; faults = machine.calm; after = come.to };
        no_fault = refl;
        line_played = record {
          happened = come.leads.happened;
          said = (step.Replied told, call_of _ _ seat request told come.events from come.to served some come.leads.happened come.leads.stands, printed);
        };
        printed = refl;
        after = refl;
      },
      record { tells = comes.tells at.tells; in_state = come.goes.state; safe = come.goes.safe },
    )

-- a mount that found a tree, and one of an open volume
pub PlaysOn-found : {D : Type 0} (before now : Option Contents) (old new : Seen D) (rows : ℕ) (text : List ℕ)
    → Comes before now old new events.Mount (answers.Found rows) → text ≡ ended (found_spelling rows) → PlaysOn before now old new kind.Mount text
PlaysOn-found before now old new rows text comes printed from at =
    let come = comes.from_each from at.tells at.in_state in (
      come.to,
      record {
        part = record { text = text; events = come.events; faults = machine.calm; after = come.to };
        no_fault = refl;
        line_played = record {
          happened = come.leads.happened;
          said = found rows (mount_of _ _ rows come.events from come.to come.leads.happened come.leads.stands) printed;
        };
        printed = refl;
        after = refl;
      },
      record { tells = comes.tells at.tells; in_state = come.goes.state; safe = come.goes.safe },
    )

pub PlaysOn-already : {D : Type 0} (before now : Option Contents) (old new : Seen D) (text : List ℕ)
    → Comes before now old new events.Mount answers.AlreadyMounted → text ≡ ended mounted_spelling → PlaysOn before now old new kind.Mount text
PlaysOn-already before now old new text comes printed from at =
    let come = comes.from_each from at.tells at.in_state in (
      come.to,
      record {
        part = record { text = text; events = come.events; faults = machine.calm; after = come.to };
        no_fault = refl;
        line_played = record { happened = come.leads.happened; said = already (one_of events.Mount answers.AlreadyMounted come.events come.leads.stands) printed };
        printed = refl;
        after = refl;
      },
      record { tells = comes.tells at.tells; in_state = come.goes.state; safe = come.goes.safe },
    )

-- what a crash answers
crash-answers : (limits : Limits) (faults : Faults) (from : State) (event : Event) (turn : Turn) → event ≡ events.Crash → Step limits faults from event turn → turn.answer ≡ Crashed
crash-answers limits faults from event turn is step =
    let crash : Step limits faults from events.Crash turn = subst (λ (e : Event). Step limits faults from e turn) is step in
    ap (λ (t : Turn). t.answer) crash

-- a crash
pub PlaysOn-crash : {D : Type 0} (before now : Option Contents) (old new : Seen D) (pick : ℕ) (text : List ℕ)
    → ((from : State) → IsIn old.geometry before old.volume old.history from → HasCrashed old new now from) → (IsSome before → IsSome now)
    → text ≡ ended (reply_spelling reply.Done) → PlaysOn before now old new (Crash pick) text
PlaysOn-crash before now old new pick text crashes told printed from at =
    let crash = crashes from at.in_state in (
      crash.one.turn.after,
      record {
        part = record { text = text; events = crash.one ∷ []; faults = machine.calm; after = crash.one.turn.after };
        no_fault = refl;
        line_played = record {
          happened = crash.happened;
          said = (
            record {
              one = crash.one;
              whole = refl;
              happens = record { event_is = crash.event; answered = crash-answers _ _ from crash.one.event crash.one.turn crash.event crash.happened.2 };
            },
            printed,
          );
        };
        printed = refl;
        after = refl;
      },
      record { tells = told at.tells; in_state = crash.goes.state; safe = crash.goes.safe },
    )

-- the tree of a core is the one that calls see
tree-seen : (state : State) (stored : Stored) (volume : Option Volume) → state.mode ≡ mode_of volume → IfSome volume (Knows state stored) → live_where_up state ≡ tree_of volume
tree-seen state stored None mode known = ap (λ (m : Mode). if is_up m then Some state.live else None) mode
tree-seen state stored (Some opened) mode known = ap (λ (m : Mode). if is_up m then Some state.live else None) mode ∙ ap Some known.live

-- what was printed of the tree
pub PlaysOn-tree : {D : Type 0} (told : Option Contents) (core : Seen D) (text : List ℕ) → text ≡ tree_shown (tree_of core.volume) → PlaysOn told told core core Tree text
PlaysOn-tree told core text printed from at =
    let is = at.in_state in (
      from,
      record {
        part = record { text = text; events = []; faults = machine.calm; after = from };
        no_fault = refl;
        line_played = record {
          happened = (omega arith, refl);
          said = (refl, shown (printed ∙ ap tree_shown (sym (tree-seen from is.stored core.volume is.mode is.known))));
        };
        printed = refl;
        after = refl;
      },
      at,
    )

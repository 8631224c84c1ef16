-- What one event, and what some calls, come to.
use Rattle.std.proofs.Common.{◌≡◌, ◌∙◌, ℕ, ◌+◌, Bool, true, false, List, [], ◌∷◌, ◌++◌, refl, sym, ap, subst, arith, Result, Ok, Err, IfOk}
use Rattle.std.proofs.Math.Nat.{mod-lt}
use Rattle.std.specs.Prelude.{if◌then◌else◌, ◌≢◌, ◌-◌, codes}
use Rattle.std.specs.List.{AllByRecursion}
use Rattle.f2_laws.specs.Choice.{tells_failure}
use Rattle.f2_model.specs.declared.bounds.Limits.{Limits}
use Rattle.f2_model.specs.Step as machine
use Rattle.f2_model.specs.Step.{Faults, Turn, IsSeat, calm}
use Rattle.f2_model.specs.Run.{Happening, Happened}
use Rattle.f2_model.specs.declared.events.Event.{Event}
use Rattle.f2_model.specs.declared.events.Event.TheVariants as event
use Rattle.f2_model.specs.declared.events.Answer.{Answer}
use Rattle.f2_model.specs.declared.events.Answer.TheVariants as answer
use Rattle.f2_model.specs.declared.replies.Begun.{Begun}
use Rattle.f2_model.specs.declared.replies.Begun.TheVariants as begun
use Rattle.f2_model.specs.declared.replies.Plan.{Plan}
use Rattle.f2_model.specs.declared.replies.Reply.{Reply}
use Rattle.f2_model.specs.declared.replies.Reply.TheVariants as reply
use Rattle.f2_model.specs.declared.replies.Step.{Step}
use Rattle.f2_model.specs.declared.replies.Step.TheVariants as step
use Rattle.f2_model.specs.declared.requests.Request.{Request}
use Rattle.f2_reference.specs.declared.choices.Choices.{Choices}
use Rattle.f2_reference_state.specs.Seen.{Seen, after_turn}
use Rattle.f2_reference.specs.Choosing.{blocks_after}
use Rattle.f2_script.specs.declared.script.Line.{Line}
use Rattle.f2_script.specs.declared.script.Line.TheVariants as verb
use Rattle.f2_script.specs.Replies.{reply_spelling}
use Rattle.f2_script.specs.Steps.{found_spelling, mounted_spelling, unmounted_spelling, counted_spelling}
use Rattle.f2_script.specs.Generator.{after, drawn, seat_of, call_of}
use Rattle.f2_play.specs.Calls.{IsOne, Goes, Passes, Then, IsCall, Generates, at_once, in_flight, waiting, one_more, is_over, is_fine}
use Rattle.f2_play.specs.Lines.{Says, found, already, closed, refused, ended, live_where_up, tree_shown, shown}
use Rattle.f2_play.proofs.Playing.{all-snoc}
use Rattle.f2_reference_run.specs.Stages.{Stage, Comes, Makes, MakesAll, flushed_by, picked, is_found, settled_by}
use Rattle.f2_reference_run.specs.Chosen.{PlaysOn}
use Rattle.f2_reference_run.specs.Runs.{Leads, SaysOn}

-- what holds of a value that a call gave, from what else does
pub if_ok : {T E : Type 0} (P Q : T → Type 0) (r : Result T E) → ((x : T) → P x → Q x) → IfOk r P → IfOk r Q
if_ok P Q (Ok x) f h = f x h
if_ok P Q (Err e) f h = tt

-- the event that came to an answer, as it happened
abbrev pub happening_of : (one : Event) (told : Answer) (from to : Stage) → Comes one told from to → Happening
happening_of one told from to comes = record { event = one; faults = calm; turn = comes.came.turn }

pub makes_it : (one : Event) (told : Answer) (from to : Stage) (comes : Comes one told from to) → Makes (happening_of one told from to comes) from to
makes_it one told from to comes = record {
  comes = record {
    came = record {
      turn = comes.came.turn;
      step = comes.came.step;
      faultless = comes.came.faultless;
      chosen = comes.came.chosen;
      told = refl;
      after = comes.came.after ∙ ap (λ a. record (after_turn from.seen comes.came.turn) { blocks = blocks_after from.choices from.seen a }) (sym comes.came.told);
    };
    choices = comes.choices;
    is_settled = comes.is_settled;
    flushed = comes.flushed ∙ ap (λ a. flushed_by a from.flushed to.seen.state) (sym comes.came.told);
  };
  turn = refl;
  no_fault = refl;
}

-- one event
pub leads_one : (one : Event) (told : Answer) (from to : Stage) → Comes one told from to → Leads (IsOne one told) from to
leads_one one told from to comes = record {
  events = happening_of one told from to comes ∷ [];
  made = (to, makes_it one told from to comes, refl);
  holds = record { one = happening_of one told from to comes; whole = refl; happens = record { event_is = refl; answered = comes.came.told } };
}

-- events, and then others
makes-append : (events more : List Happening) (from mid to : Stage) → MakesAll events from mid → MakesAll more mid to → MakesAll (events ++ more) from to
makes-append [] more from mid to made next = subst (λ s. MakesAll more s to) made next
makes-append (one ∷ events) more from mid to made next = (made.0, made.1, makes-append events more made.0 mid to made.2 next)

pub leads_map : (P Q : List Happening → Type 0) (from to : Stage) → ((events : List Happening) → P events → Q events) → Leads P from to → Leads Q from to
leads_map P Q from to f leads = record { events = leads.events; made = leads.made; holds = f leads.events leads.holds }

-- no event yet
pub leads_none : (P : List Happening → Type 0) (from : Stage) → P [] → Leads P from from
leads_none P from holds = record { events = []; made = refl; holds = holds }

-- a seat's call that was carried on, and goes on
pub leads_further : (stops : Step → Bool) (seat : ℕ) (one : Step) (from mid to : Stage) → Leads (AllByRecursion (Passes stops seat)) from mid
    → Comes (event.Go seat) (answer.Stepped one) mid to → stops one ≡ false → Leads (AllByRecursion (Passes stops seat)) from to
leads_further stops seat one from mid to led comes goes_on =
    let last = happening_of (event.Go seat) (answer.Stepped one) mid to comes in
    record {
      events = led.events ++ last ∷ [];
      made = makes-append led.events (last ∷ []) from mid to led.made (to, makes_it (event.Go seat) (answer.Stepped one) mid to comes, refl);
      holds = all-snoc (Passes stops seat) led.events last led.holds
          record { early = one; happens = record { event_is = refl; answered = comes.came.told }; goes_on = goes_on };
    }

-- a seat's call that was carried on to where a line stops
pub leads_stop : (stops : Step → Bool) (seat : ℕ) (one : Step) (from mid to : Stage) → Leads (AllByRecursion (Passes stops seat)) from mid
    → Comes (event.Go seat) (answer.Stepped one) mid to → stops one ≡ true → Leads (Goes stops seat one) from to
leads_stop stops seat one from mid to led comes stopped =
    let last = happening_of (event.Go seat) (answer.Stepped one) mid to comes in
    record {
      events = led.events ++ last ∷ [];
      made = makes-append led.events (last ∷ []) from mid to led.made (to, makes_it (event.Go seat) (answer.Stepped one) mid to comes, refl);
      holds = record {
        before = led.events;
        last = last;
        whole = refl;
        passed = led.holds;
        happens = record { event_is = refl; answered = comes.came.told };
        stopped = stopped;
      };
    }

-- an event, and then a seat's call to where it is over
pub leads_then : (first : Event) (told : Answer) (seat : ℕ) (last : Step) (from mid to : Stage) → Comes first told from mid
    → Leads (Goes is_over seat last) mid to → Leads (Then first told seat last) from to
leads_then first told seat last from mid to comes goes = record {
  events = happening_of first told from mid comes ∷ goes.events;
  made = (mid, makes_it first told from mid comes, goes.made);
  holds = record {
    one = happening_of first told from mid comes;
    rest = goes.events;
    whole = refl;
    happens = record { event_is = refl; answered = comes.came.told };
    goes = goes.holds;
  };
}

-- no event without a failure tells want of memory
pub not_memory : (one : Event) (told : Begun) (from to : Stage) → Comes one (answer.Began told) from to → told ≢ begun.Replied reply.Memory
not_memory one told from to comes memory =
    let fine : false ≡ tells_failure comes.came.turn.answer = sym comes.came.faultless in
    let no : false ≡ true = fine ∙ ap tells_failure (comes.came.told ∙ ap answer.Began memory) in
    cc

pub call_at_once : (seat : ℕ) (request : Request) (told : Reply) (from to : Stage) → Comes (event.Begin seat request) (answer.Began (begun.Replied told)) from to
    → Leads (IsCall seat request (step.Replied told)) from to
call_at_once seat request told from to comes =
    leads_map _ _ from to
    (λ events is. at_once told (λ memory. not_memory (event.Begin seat request) (begun.Replied told) from to comes (ap begun.Replied memory)) is)
    (leads_one (event.Begin seat request) (answer.Began (begun.Replied told)) from to comes)

pub call_in_flight : (seat : ℕ) (request : Request) (told : Reply) (plan : Plan) (from mid to : Stage) → Comes (event.Begin seat request) (answer.Began (begun.Going plan)) from mid
    → Leads (Goes is_over seat (step.Replied told)) mid to → Leads (IsCall seat request (step.Replied told)) from to
call_in_flight seat request told plan from mid to comes goes =
    leads_map _ _ from to (λ events is. in_flight told plan is) (leads_then (event.Begin seat request) (answer.Began (begun.Going plan)) seat (step.Replied told) from mid to comes goes)

pub call_waiting : (seat : ℕ) (request : Request) (position : ℕ) (plan : Plan) (from mid to : Stage) → Comes (event.Begin seat request) (answer.Began (begun.Going plan)) from mid
    → Leads (Goes is_over seat (step.Again position)) mid to → Leads (IsCall seat request (step.Again position)) from to
call_waiting seat request position plan from mid to comes goes =
    leads_map _ _ from to (λ events is. waiting position plan is) (leads_then (event.Begin seat request) (answer.Began (begun.Going plan)) seat (step.Again position) from mid to comes goes)

-- a seat that is drawn is one that calls are made from
pub drawn_seated : (seat draw : ℕ) → seat ≡ seat_of draw → IsSeat seat
drawn_seated seat draw is = record { first = omega (arith, is); last = omega (arith, is, mod-lt draw {m = 8} (omega arith)) }

-- one call more of a generator
pub generated : (start count x fine next seat more : ℕ) (request : Request) (last : Step) (from mid to : Stage)
    → Leads (Generates start count x fine) from mid → next ≡ after x → seat ≡ seat_of (drawn (after x)) → request ≡ call_of (drawn (after x))
    → Leads (IsCall seat request last) mid to → more ≡ (if is_fine last then 1 else 0) → Leads (Generates start (count + 1) next (fine + more)) from to
generated start count x fine next seat more request last from mid to made number seat_is request_is call counted =
    let drawn_call : Leads (IsCall (seat_of (drawn (after x))) (call_of (drawn (after x))) last) mid to =
    subst (λ s. Leads (IsCall s (call_of (drawn (after x))) last) mid to) seat_is (subst (λ q. Leads (IsCall seat q last) mid to) request_is call) in
    subst (λ n. Leads (Generates start (count + 1) n (fine + more)) from to) (sym number)
    (subst (λ k. Leads (Generates start (count + 1) (after x) (fine + k)) from to) (sym counted) record {
      events = made.events ++ drawn_call.events;
      made = makes-append made.events drawn_call.events from mid to made.made drawn_call.made;
      holds = one_more last made.holds drawn_call.holds;
    })

-- an event that happened was a step of the machine, from its state to its state
step_of : (one : Happening) (from to : Stage) → Makes one from to → machine.Step from.seen.limits one.faults from.seen.state one.event one.turn
step_of one from to makes =
    subst (λ (f : Faults). machine.Step from.seen.limits f from.seen.state one.event one.turn) (sym makes.no_fault)
    (subst (λ (t : Turn). machine.Step from.seen.limits calm from.seen.state one.event t) makes.turn makes.comes.came.step)

after_one : (one : Happening) (from to : Stage) → Makes one from to → to.seen.state ≡ one.turn.after
after_one one from to makes = ap (λ (s : Seen). s.state) makes.comes.came.after ∙ ap (λ (t : Turn). t.after) makes.turn

limits_kept : (one : Happening) (from to : Stage) → Makes one from to → to.seen.limits ≡ from.seen.limits
limits_kept one from to makes = ap (λ (s : Seen). s.limits) makes.comes.came.after

pub all_limits : (events : List Happening) (from to : Stage) → MakesAll events from to → to.seen.limits ≡ from.seen.limits
all_limits [] from to made = ap (λ (s : Stage). s.seen.limits) made
all_limits (one ∷ events) from to made = all_limits events made.0 to made.2 ∙ limits_kept one from made.0 made.1

-- so all of them lead from a state to another, with no fault of the disk
pub happened_all : (limits : Limits) (events : List Happening) (from to : Stage) → from.seen.limits ≡ limits → MakesAll events from to
    → Happened limits calm from.seen.state events to.seen.state
happened_all limits [] from to same made = (omega arith, ap (λ (s : Stage). s.seen.state) (sym made))
happened_all limits (one ∷ events) from to same made =
    let before : one.faults.before ≡ 0 = ap (λ (f : Faults). f.before) made.1.no_fault in
    let after : one.faults.after ≡ 0 = ap (λ (f : Faults). f.after) made.1.no_fault in
    let rest : Happened limits calm made.0.seen.state events to.seen.state =
    happened_all limits events made.0 to (limits_kept one from made.0 made.1 ∙ same) made.2 in (
      omega (arith, before),
      omega (arith, before, after),
      subst (λ l. machine.Step l one.faults from.seen.state one.event one.turn) same (step_of one from made.0 made.1),
      subst (λ n. Happened limits (record { before = n; after = 0 }) one.turn.after events to.seen.state) (sym after)
          (subst (λ s. Happened limits calm s events to.seen.state) (after_one one from made.0 made.1) rest),
    )

-- a line that says something of the events that it made
pub says_led : (P : List Happening → Type 0) (from to : Stage) (line : Line) (text : List ℕ) → Leads P from to
    → ((events : List Happening) → P events → Says from.seen.state line calm (ended text) events) → ((events : List Happening) → to ≡ settled_by line from events to)
    → SaysOn from line text to
says_led P from to line text led says stage = record {
  events = led.events;
  mid = to;
  made = led.made;
  said = says led.events led.holds;
  stage = stage led.events;
}

-- a crash
pub says_crash : (pick : ℕ) (choices : Choices) (from mid to : Stage) (text : List ℕ) → Comes event.Crash answer.Crashed from mid → choices ≡ picked pick from
    → to ≡ record mid { choices = choices; is_settled = true } → text ≡ codes "ok" → SaysOn from (verb.Crash pick) text to
says_crash pick choices from mid to text comes picks settled said =
    let one = leads_one event.Crash answer.Crashed from mid comes in
    record {
      events = one.events;
      mid = mid;
      made = one.made;
      said = (one.holds, ap ended said);
      stage = settled ∙ ap (λ c. record mid { choices = c; is_settled = true }) picks;
    }

-- a mount that found a tree, and one of an open volume
pub says_found : (rows : ℕ) (from mid last to : Stage) (text : List ℕ) → Comes event.Mount (answer.Found rows) from mid
    → Leads (Goes is_over machine.MOUNT_SEAT (step.Replied reply.Synced)) mid last → to ≡ record last { is_settled = false } → text ≡ found_spelling rows
    → SaysOn from verb.Mount text to
unfolding leads_then
says_found rows from mid last to text comes goes unsettled said =
    let led = leads_then event.Mount (answer.Found rows) machine.MOUNT_SEAT (step.Replied reply.Synced) from mid last comes goes in
    let finds_it : is_found comes.came.turn.answer ≡ true = ap is_found comes.came.told in
    record {
      events = happening_of event.Mount (answer.Found rows) from mid comes ∷ goes.events;
      mid = last;
      made = (mid, makes_it event.Mount (answer.Found rows) from mid comes, goes.made);
      said = found rows led.holds (ap ended said);
      stage = unsettled ∙ ap (λ (b : Bool). if b then record last { is_settled = false } else last) (sym finds_it);
    }

pub says_already : (from to : Stage) (text : List ℕ) → Comes event.Mount answer.AlreadyMounted from to → text ≡ mounted_spelling → SaysOn from verb.Mount text to
unfolding leads_one
says_already from to text comes said =
    let finds_none : is_found comes.came.turn.answer ≡ false = ap is_found comes.came.told in
    record {
      events = happening_of event.Mount answer.AlreadyMounted from to comes ∷ [];
      mid = to;
      made = (to, makes_it event.Mount answer.AlreadyMounted from to comes, refl);
      said = already (leads_one event.Mount answer.AlreadyMounted from to comes).holds (ap ended said);
      stage = ap (λ (b : Bool). if b then record to { is_settled = false } else to) (sym finds_none);
    }

-- an unmount that was made, and one that was refused
pub says_closed : (plan : Plan) (from mid to : Stage) (text : List ℕ) → Comes event.Unmount (answer.Began (begun.Going plan)) from mid
    → Leads (Goes is_over machine.MOUNT_SEAT (step.Replied reply.Synced)) mid to → text ≡ unmounted_spelling → SaysOn from verb.Unmount text to
says_closed plan from mid to text comes goes said =
    says_led _ from to verb.Unmount text
    (leads_then event.Unmount (answer.Began (begun.Going plan)) machine.MOUNT_SEAT (step.Replied reply.Synced) from mid to comes goes)
    (λ events is. closed plan is (ap ended said))
    (λ events. refl)

pub says_refused : (told : Reply) (from to : Stage) (text : List ℕ) → Comes event.Unmount (answer.Began (begun.Replied told)) from to → text ≡ reply_spelling told
    → SaysOn from verb.Unmount text to
says_refused told from to text comes said =
    says_led _ from to verb.Unmount text
    (leads_one event.Unmount (answer.Began (begun.Replied told)) from to comes)
    (λ events is. refused told (λ memory. not_memory event.Unmount (begun.Replied told) from to comes (ap begun.Replied memory)) is (ap ended said))
    (λ events. refl)

-- the calls of a generator
pub says_gen : (start count x fine : ℕ) (from to : Stage) (text : List ℕ) → Leads (Generates start count x fine) from to → text ≡ counted_spelling count fine (count - fine)
    → SaysOn from (verb.Gen start count) text to
says_gen start count x fine from to text made said =
    says_led _ from to (verb.Gen start count) text made (λ events is. record { x = x; fine = fine; made = is; said = ap ended said }) (λ events. refl)

-- a line that says something prints it as a line
pub plays_said : (from to : Stage) (line : Line) (text printed : List ℕ) → SaysOn from line text to → printed ≡ ended text → PlaysOn from line printed to
plays_said from to line text printed said is = record {
  part = record { text = printed; events = said.events; faults = calm; after = said.mid.seen.state };
  played = record {
    happened = happened_all from.seen.limits said.events from said.mid refl said.made;
    said = subst (λ t. Says from.seen.state line calm t said.events) (sym is) said.said;
  };
  chosen = record { no_fault = refl; mid = said.mid; made = said.made; state = refl; stage = said.stage };
  printed = refl;
}

-- a line that makes no events and leaves the machine as it is
plays_still : (from : Stage) (line : Line) (text : List ℕ) → Says from.seen.state line calm text [] → from ≡ settled_by line from [] from → PlaysOn from line text from
plays_still from line text says stage = record {
  part = record { text = text; events = []; faults = calm; after = from.seen.state };
  played = record { happened = (omega arith, refl); said = says };
  chosen = record { no_fault = refl; mid = from; made = refl; state = refl; stage = stage };
  printed = refl;
}

pub plays_skipped : (from : Stage) → PlaysOn from verb.Skipped [] from
plays_skipped from = plays_still from verb.Skipped [] (refl, refl) refl

pub plays_tree : (from : Stage) (text : List ℕ) → text ≡ tree_shown (live_where_up from.seen.state) → PlaysOn from verb.Tree text from
plays_tree from text is = plays_still from verb.Tree text (refl, shown is) refl

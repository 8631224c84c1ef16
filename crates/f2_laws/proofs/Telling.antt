-- What an event comes to that leaves an entry of one kind.
use Rattle.std.proofs.Common.{◌≡◌, ℕ, Bool, true, false, ◌||◌, List, [], ◌∷◌, ◌++◌, refl, sym, ap, ◌∙◌, true≢false}
use Rattle.std.specs.Prelude.{Some, None}
use Rattle.std.specs.List.{list_any}
use Rattle.std.proofs.lemmas.List.Folds.{list_any-append}
use Rattle.std.specs.FinMap as map
use Rattle.f2_model.specs.declared.bounds.Limits.{Limits}
use Rattle.f2_model.specs.State.{State, Meaning, MayRemain, InNodes, Marked, Progress, InCheck}
use Rattle.f2_model.specs.Step.{Faults, Turn, turn_with, closed_by_fault, least_of, gap_below, mark_drawn, acknowledges, completes, found}
use Rattle.f2_model.specs.declared.events.Answer.{Answer}
use Rattle.f2_model.specs.declared.events.Answer.TheVariants.{Stepped}
use Rattle.f2_model.specs.declared.rows.Row.{Row}
use Rattle.f2_model.specs.declared.requests.Request.{Request}
use Rattle.f2_model.specs.declared.replies.Outcome.{Outcome}
use Rattle.f2_model.specs.declared.replies.Step.TheVariants as step
use Rattle.f2_model.specs.declared.replies.Plan.{Plan}
use Rattle.f2_model.specs.declared.histories.CallKind.{CallKind}
use Rattle.f2_model.specs.declared.histories.Entry.{Entry}
use Rattle.f2_model.specs.declared.histories.Entry.TheVariants as entry
use Rattle.f2_laws.proofs.Cases.{IsAtPart, Handles}

-- an entry is told of before others, and not by a fault behind others
pub told_before : (p : Entry → Bool) (entries more : List Entry) → list_any p entries ≡ true → list_any p (entries ++ more) ≡ true
told_before p entries more h = list_any-append p entries more ∙ ap (λ b. b || list_any p more) h

told_but_last : (p : Entry → Bool) (entries : List Entry) (last : Entry) → p last ≡ false → list_any p (entries ++ last ∷ []) ≡ true → list_any p entries ≡ true
told_but_last p entries last none h = by_first (list_any p entries) (p last) none (sym (list_any-append p entries (last ∷ [])) ∙ h)
  where
    by_first : (a b : Bool) → b ≡ false → (a || (b || false)) ≡ true → a ≡ true
    by_first true b none h = refl
    by_first false true none h = absurd (true≢false none)
    by_first false false none h = absurd (true≢false (sym h))

-- entries that a test passes over: all but those of marks, acknowledgements, tails and ends of checkpoints, and mounts
pub record PassesOver (p : Entry → Bool) : Type 0 where
  pub begin : (seat : ℕ) (request : Request) → p (entry.Begin seat request) ≡ false
  pub did : (seat : ℕ) (request : Request) (outcome : Outcome) → p (entry.Did seat request outcome) ≡ false
  pub page : (ino page : ℕ) → p (entry.WrotePage ino page) ≡ false
  pub node : (ino offset : ℕ) → p (entry.WroteNode ino offset) ≡ false
  pub flushed : (seat : ℕ) → p (entry.Flushed seat) ≡ false
  pub checkpoint : (seat : ℕ) (plan : Plan) → p (entry.CpBegin seat plan) ≡ false
  pub fault : (seat : ℕ) (call : CallKind) (count : ℕ) → p (entry.Fault seat call count) ≡ false
  pub crash : p entry.Crash ≡ false

module _ (limits : Limits) (faults : Faults) (state : State) (p : Entry → Bool) (over : PassesOver p) (Q : Turn → Type 0) where
  -- what follows where the test finds an entry
  abbrev pub Tells : Turn → Type 0
  Tells turn = list_any p turn.entries ≡ true → Q turn

  none : {G : Type 0} → false ≡ true → G
  none h = absurd (true≢false (sym h))

  one : {G : Type 0} (b : Bool) → b ≡ false → (b || false) ≡ true → G
  one true e h = absurd (true≢false e)
  one false e h = none h

  two : {G : Type 0} (a b : Bool) → a ≡ false → b ≡ false → (a || (b || false)) ≡ true → G
  two true b e f h = absurd (true≢false e)
  two false b e f h = one b f h

  pub telling :
      ((seat ino : ℕ) (progress : Progress) (row : Row) → IsAtPart state seat ino progress InNodes → least_of state.dirty_nodes ino ≡ None → map.get state.live ino ≡ Some row → Tells (mark_drawn state seat ino row)) →
      ((seat ino : ℕ) (progress : Progress) → IsAtPart state seat ino progress Marked → gap_below state progress.position ≡ None → Tells (acknowledges state seat ino progress)) →
      ((seat : ℕ) → state.pending ≡ None → Tells (turn_with (Stepped step.Tail) (entry.CpTail seat ∷ []) [] (record state { pending = Some state.live }))) →
      ((seat : ℕ) (plan : Plan) → map.get state.flights seat ≡ Some (InCheck plan) → Tells (completes state seat plan)) →
      ((meaning : Meaning) (choice : ℕ) → MayRemain state meaning → Tells (found state meaning choice)) →
      ((seat : ℕ) (call : CallKind) (failed : Answer) (meant : Turn) → Q meant → Q (closed_by_fault faults seat call failed meant)) →
      Handles limits faults state Tells
  telling mark acks tail done finds fails = record {
    still = λ answer. none;
    told = λ seat request refused. one _ (over.did seat request _);
    unread = λ seat request. two _ _ (over.did seat request _) (over.fault seat _ faults.after);
    calls = λ seat request ino choices served. one _ (over.did seat request _);
    checks = λ seat request plan free. two _ _ (over.begin seat request) (over.checkpoint seat plan);
    rolls = λ seat path row rolls. one _ (over.begin seat _);
    leaves = λ seat shut. none;
    submits = λ seat ino progress slot there. none;
    page = λ seat ino progress page here is. one _ (over.page ino page);
    flushed = λ seat ino progress here is. one _ (over.flushed seat);
    node = λ seat ino progress offset here is. one _ (over.node ino offset);
    mark = mark;
    acks = acks;
    tail = λ seat plan there. tail seat;
    done = done;
    ticks_page = λ page. one _ (over.page page.0 page.1);
    ticks_node = λ node. one _ (over.node node.0 node.1);
    finds = finds;
    closes = λ format free. one _ (over.checkpoint _ _);
    crashes = one _ over.crash;
    fails = λ seat call failed meant told h. fails seat call failed meant (told (told_but_last p meant.entries _ (over.fault seat call faults.after) h));
  }

-- Calls of a core one after another.
use Rattle.std.proofs.Common.{◌≡◌, ℕ, ◌+◌, ◌≤◌, ◌^◌, ◌-◌, min, List, [], ◌∷◌, ◌++◌, refl, sym, ap, ◌∙◌, subst, arith, append_assoc, append-nil}
use Rattle.std.specs.Prelude.{Option, IsSome, length}
use Rattle.f2_format.specs.Geometry.{ImageGeometry}
use Rattle.f2_disk.specs.Contents.{Contents}
use Rattle.f2_disk.specs.Faults.{Rose}
use Rattle.f2_disk.specs.Meter.{Meter, HasFailed}
use Rattle.f2_model.specs.State.{State}
use Rattle.f2_model.specs.Run.{Happening, entries_of, choices_of}
use Rattle.f2_core.specs.Seen.{Seen, IsIn}
use Rattle.f2_model.specs.declared.events.Event.{Event}
use Rattle.f2_model.specs.declared.events.Answer.{Answer}
use Rattle.f2_core.specs.Events.{LeadsTo, LeadAll, ComesTo, ComeTo}
use Rattle.f2_core.proofs.Runs.{entries-append, choices-append}
use Rattle.f2_core.proofs.Comes.{at_of, safe}

-- a count that rose by then has risen later, and one that was less before
rose_on : (least b c : ℕ) → least ≤ b → b ≤ c → least ≤ c
rose_on least b c rose more = omega (arith, rose, more)

rose_later : (a b c : ℕ) → Rose a b → b ≤ c → Rose a c
rose_later a b c rose more = rose_on (min (a + 1) (2 ^ 64 - 1)) b c rose more

earlier : (a b c most : ℕ) → a ≤ b → min (b + 1) most ≤ c → min (a + 1) most ≤ c
earlier a b c most less rose = omega (arith, less, rose)

rose_earlier : (a b c : ℕ) → a ≤ b → Rose b c → Rose a c
rose_earlier a b c less rose = earlier a b c (2 ^ 64 - 1) less rose

-- no call: the core stays in its state
pub come-none : {D : Type 0} (old : Seen D) (told : Option Contents) (from : State) → IsIn old.geometry told old.volume old.history from → ComeTo old old told from [] []
come-none old told from is = record {
  events = [];
  to = from;
  leads = (refl, refl);
  goes = record {
    entries = sym (append-nil old.history.entries);
    choices = sym (append-nil old.history.choices);
    state = is;
    safe = safe old.geometry told old.volume (length old.history.entries) from (at_of old.geometry told old.volume old.history from is);
  };
}

-- one call more
lead-push : (geom : ImageGeometry) (from mid to : State) (calls : List Event) (answers : List Answer) (events more : List Happening) (call : Event) (answer : Answer) → LeadAll geom from calls answers events mid
    → LeadsTo geom mid call answer more to → LeadAll geom from (calls ++ call ∷ []) (answers ++ answer ∷ []) (events ++ more) to
lead-push geom from mid to [] [] events more call answer so one =
    (more, [], to, subst (λ s. LeadsTo geom s call answer more to) (sym so.1) one, (refl, refl), ap (λ es. es ++ more) so.0 ∙ sym (append-nil more))
lead-push geom from mid to [] (a ∷ answers) events more call answer so one = absurd so
lead-push geom from mid to (e ∷ calls) [] events more call answer so one = absurd so
lead-push geom from mid to (e ∷ calls) (a ∷ answers) events more call answer so one =
    (so.0, so.1 ++ more, so.2, so.3, lead-push geom so.2 mid to calls answers so.1 more call answer so.4 one, ap (λ es. es ++ more) so.5 ∙ append_assoc so.0 so.1 more)

come-push : {D : Type 0} (old mid new : Seen D) (between told : Option Contents) (from : State) (calls : List Event) (answers : List Answer) (call : Event) (answer : Answer) → mid.geometry ≡ old.geometry
    → (so : ComeTo old mid between from calls answers) → ComesTo mid new told so.to call answer → ComeTo old new told from (calls ++ call ∷ []) (answers ++ answer ∷ [])
come-push old mid new between told from calls answers call answer same so one = record {
  events = so.events ++ one.events;
  to = one.to;
  leads = lead-push old.geometry from so.to one.to calls answers so.events one.events call answer so.leads (subst (λ e. LeadsTo e so.to call answer one.events one.to) same one.leads);
  goes = record {
    entries = one.goes.entries ∙ ap (λ es. es ++ entries_of one.events) so.goes.entries ∙ append_assoc old.history.entries (entries_of so.events) (entries_of one.events)
        ∙ ap (λ es. old.history.entries ++ es) (sym (entries-append so.events one.events));
    choices = one.goes.choices ∙ ap (λ cs. cs ++ choices_of one.events) so.goes.choices ∙ append_assoc old.history.choices (choices_of so.events) (choices_of one.events)
        ∙ ap (λ cs. old.history.choices ++ cs) (sym (choices-append so.events one.events));
    state = one.goes.state;
    safe = one.goes.safe;
  };
}

-- the same of what calls come to from each state in which no call of the disk fails
pub come-on : {D : Type 0} (old mid new : Seen D) (was between told : Option Contents) (first then last : Meter) (calls : List Event) (answers : List Answer) (call : Event) (answer : Answer) → mid.geometry ≡ old.geometry → (IsSome was → IsSome between)
    → first.faults ≤ then.faults → then.faults ≤ last.faults
    → ((from : State) → IsSome was → IsIn old.geometry was old.volume old.history from → ¬ (HasFailed first then) → ComeTo old mid between from calls answers)
    → ((from : State) → IsSome between → IsIn mid.geometry between mid.volume mid.history from → ¬ (HasFailed then last) → ComesTo mid new told from call answer)
    → (from : State) → IsSome was → IsIn old.geometry was old.volume old.history from → ¬ (HasFailed first last) → ComeTo old new told from (calls ++ call ∷ []) (answers ++ answer ∷ [])
come-on old mid new was between told first then last calls answers call answer same tell later more come comes from tells is calm =
    let so = come from tells is (λ failed. calm (rose_later first.faults then.faults last.faults failed more)) in
    come-push old mid new between told from calls answers call answer same so (comes so.to (tell tells) so.goes.state (λ failed. calm (rose_earlier first.faults then.faults last.faults later failed)))

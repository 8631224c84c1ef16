-- An event of an fsync that makes one flush, in the words of its contract.
use Rattle.std.proofs.Common.{◌≡◌, ◌++◌, [], ◌∷◌, ℕ, refl, ap, sym, subst, ◌∙◌}
use Rattle.std.specs.Prelude.{Option, Some, None, Result, Ok, Err, IsErr, OnOk, OnErr, option_map}
use Rattle.std.specs.FinMap as map
use Rattle.f2_disk.specs.Contents.{Contents, flushed}
use Rattle.f2_disk.specs.Meter.{Meter, HasFailed, IsWithin}
use Rattle.f2_files.specs.Known.{Known}
use Rattle.f2_laws.specs.Flights.{Flights}
use Rattle.f2_model.specs.History.{History}
use Rattle.f2_model.specs.State.{State}
use Rattle.f2_model.specs.Step.{step_failed}
use Rattle.f2_model.specs.declared.events.Answer.{Answer}
use Rattle.f2_model.specs.declared.events.Event.TheVariants.{Go}
use Rattle.f2_model.specs.declared.histories.CallKind.TheVariants as kind
use Rattle.f2_model.specs.declared.histories.Entry.{Entry}
use Rattle.f2_model.specs.declared.histories.Entry.TheVariants as entry
use Rattle.f2_model.specs.declared.modes.Mode.{Mode}
use Rattle.f2_model.specs.declared.modes.Mode.TheVariants.{Shut}
use Rattle.f2_model.specs.declared.replies.Step.{Step}
use Rattle.f2_state.specs.Flushing.{answer_of}
use Rattle.f2_state.specs.Following.{AdvancesFrom, Follows}
use Rattle.f2_state.specs.Seen.{Seen}
use Rattle.f2_state.specs.Standing.{StandsAt, StandsIn, IsVolume}
use Rattle.f2_state.proofs.Going.{GoesTo, with_flights, goes_follow, volume_follows, untold_flushed, untold_same}

module _ {D : Type 0} (contents : D → Option Contents) (meter : D → Meter) (old : Seen D) (disk : D) (history : History) (seat : ℕ) (within : IsWithin 0 (meter old.disk) (meter disk)) where
  -- the flush was made, and the event leads on from each state
  module _ (flights : Flights) (answer : Answer) (made : contents disk ≡ option_map flushed (contents old.disk))
      (advances : (start from : State) → StandsIn (contents old.disk) old from → AdvancesFrom contents meter old (record old { disk = disk; files = with_flights old.files flights; history = history }) (Go seat) answer start from)
      (ats : (lists : Contents) (from : State) → StandsAt lists old from → GoesTo (record old { disk = disk; files = with_flights old.files flights; history = history }))
      (files : Known) (is : files ≡ with_flights old.files flights) where
    abbrev now : Seen D
    now = record old { disk = disk; files = files; history = history }

    leads : (start from : State) → StandsIn (contents old.disk) old from → AdvancesFrom contents meter old now (Go seat) answer start from
    leads start from stands = subst (λ f. AdvancesFrom contents meter old (record old { disk = disk; files = f; history = history }) (Go seat) answer start from) (sym is) (advances start from stands)

    pub made_follows : Follows contents meter old now (Go seat) answer
    made_follows = goes_follow contents meter old now (Go seat) answer refl within leads

    pub made_volume : IsVolume (meter old.disk).blocks (contents old.disk) old → IsVolume (meter disk).blocks (contents disk) now
    made_volume volume = volume_follows contents meter old now (Go seat) answer volume refl (ap (λ (f : Known). f.shapes) is) (untold_flushed (contents old.disk) (contents disk) made) within
        (λ lists from at. subst (λ f. GoesTo (record old { disk = disk; files = f; history = history })) (sym is) (ats lists from at)) leads

  -- it failed, and the volume is closed
  module _ (same : contents disk ≡ contents old.disk)
      (advances : history.entries ≡ old.history.entries ++ entry.Fault seat kind.Flush (meter disk).faults ∷ [] → (start from : State) → StandsIn (contents old.disk) old from
      → AdvancesFrom contents meter old (record old { disk = disk; mode = Shut; files = with_flights old.files (map.remove old.files.flights seat); history = history }) (Go seat) step_failed start from)
      (ats : history.entries ≡ old.history.entries ++ entry.Fault seat kind.Flush (meter disk).faults ∷ [] → (lists : Contents) (from : State) → StandsAt lists old from
      → GoesTo (record old { disk = disk; mode = Shut; files = with_flights old.files (map.remove old.files.flights seat); history = history }))
      (mode : Mode) (files : Known) (count : ℕ) (closed : mode ≡ Shut) (is : files ≡ with_flights old.files (map.remove old.files.flights seat)) (counted : count ≡ (meter disk).faults)
      (entries : history.entries ≡ old.history.entries ++ entry.Fault seat kind.Flush count ∷ []) where
    abbrev after : Seen D
    after = record old { disk = disk; mode = mode; files = files; history = history }

    all_entries : history.entries ≡ old.history.entries ++ entry.Fault seat kind.Flush (meter disk).faults ∷ []
    all_entries = entries ∙ ap (λ n. old.history.entries ++ entry.Fault seat kind.Flush n ∷ []) counted

    leads_closed : (start from : State) → StandsIn (contents old.disk) old from → AdvancesFrom contents meter old after (Go seat) step_failed start from
    leads_closed start from stands =
        subst (λ m. AdvancesFrom contents meter old (record old { disk = disk; mode = m; files = files; history = history }) (Go seat) step_failed start from) (sym closed)
        (subst (λ f. AdvancesFrom contents meter old (record old { disk = disk; mode = Shut; files = f; history = history }) (Go seat) step_failed start from) (sym is)
        (advances all_entries start from stands))

    pub failed_follows : Follows contents meter old after (Go seat) step_failed
    failed_follows = goes_follow contents meter old after (Go seat) step_failed refl within leads_closed

    pub failed_volume : IsVolume (meter old.disk).blocks (contents old.disk) old → IsVolume (meter disk).blocks (contents disk) after
    failed_volume volume = volume_follows contents meter old after (Go seat) step_failed volume refl (ap (λ (f : Known). f.shapes) is) (untold_same (contents old.disk) (contents disk) same) within
        (λ lists from at. subst (λ m. GoesTo (record old { disk = disk; mode = m; files = files; history = history })) (sym closed)
        (subst (λ f. GoesTo (record old { disk = disk; mode = Shut; files = f; history = history })) (sym is) (ats all_entries lists from at))) leads_closed

-- what is said of a result that is known
pub if_ok : {T E : Type 0} (result : Result T E) (P : Type 0) (done : T) → OnOk result P → result ≡ Ok done → P
if_ok (Ok v) P done said is = said
if_ok (Err e) P done said is = absurd (cc)

pub if_err : {T E : Type 0} (result : Result T E) (P : Type 0) (fault : E) → OnErr result P → result ≡ Err fault → P
if_err (Ok v) P fault said is = absurd (cc)
if_err (Err e) P fault said is = said

-- the answer of an event whose flush failed
pub told_failed : {E : Type 0} (step : Step) (result : Result (Unit {0}) E) → IsErr result → answer_of step result ≡ step_failed
told_failed step (Ok done) is = absurd (cc)
told_failed step (Err fault) is = refl

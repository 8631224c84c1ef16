-- What a mount after a loss of power brings back.
use Rattle.std.proofs.Common.{◌≡◌, inl, inr, ℕ, Bool, true, false, [], ◌∷◌, refl, sym, ap, ◌∙◌, true≢false}
use Rattle.std.specs.Prelude.{Some, if◌then◌else◌}
use Rattle.std.specs.List.{list_any}
use Rattle.f2_model.specs.declared.bounds.Limits.{Limits}
use Rattle.f2_model.specs.State.{State, Meaning, MayRemain, rolled}
use Rattle.f2_model.specs.Step.{Faults, Turn, is_unmount, crashed}
use Rattle.f2_model.specs.declared.events.Event.TheVariants.{Mount}
use Rattle.f2_model.specs.declared.histories.Entry.TheVariants as entry
use Rattle.f2_laws.specs.Survival.{is_mounted}
use Rattle.f2_laws.specs.Remounting.{IsSurvivor, MountsBringBack}
use Rattle.f2_laws.proofs.Cases.{Handles, step_handled}
use Rattle.f2_laws.proofs.Telling.{PassesOver, Tells, telling}
use Rattle.f2_laws.proofs.Acknowledged.{acknowledged_marked}

-- no entry but a mount's is one
over_mounts : PassesOver is_mounted
over_mounts = record {
  begin = λ by request. refl;
  did = λ by request outcome. refl;
  page = λ ino page. refl;
  node = λ ino offset. refl;
  flushed = λ by. refl;
  checkpoint = λ by plan. refl;
  fault = λ by call count. refl;
  crash = refl;
}

module _ (limits : Limits) (faults : Faults) (state : State) where
  abbrev BringsBack : Turn → Type 0
  BringsBack turn = IsSurvivor state turn.after.live

  nothing : {G : Type 0} → false ≡ true → G
  nothing h = absurd (true≢false (sym h))

  -- what a crash may leave, rolled
  survives : (meaning : Meaning) → MayRemain state meaning → IsSurvivor state (rolled meaning.base meaning.marks)
  survives meaning (inl left) = inl (left.0, left.1, left.2, ap (λ (m : Meaning). rolled m.base m.marks) left.3)
  survives meaning (inr left) = inr (left.1 ∙ ap (λ (m : Meaning). Some (rolled m.base m.marks)) (sym left.2))

  not_done : (by : ℕ) (b : Bool) → {G : Type 0} → list_any is_mounted (if b then (entry.CpDone by ∷ entry.Unmounted ∷ []) else (entry.CpDone by ∷ [])) ≡ true → G
  not_done by true h = nothing h
  not_done by false h = nothing h

  handles : Handles limits faults state (Tells limits faults state is_mounted over_mounts BringsBack)
  handles =
      telling limits faults state is_mounted over_mounts BringsBack
      (λ seat ino progress row here is there. nothing)
      (λ seat ino progress here gap. nothing)
      (λ seat none. nothing)
      (λ seat plan there. not_done seat (is_unmount state seat))
      (λ meaning choice remains told. survives meaning remains)
      (λ seat call failed meant h. h)

pub mounts_back : MountsBringBack
mounts_back limits faults later meaning entries choices state turn run step told =
    let before = (crashed state).after in (
      acknowledged_marked limits faults meaning entries choices state run,
      step_handled limits later before (Tells limits later before is_mounted over_mounts (λ turn. IsSurvivor before turn.after.live)) (handles limits later before) turn Mount step told,
    )

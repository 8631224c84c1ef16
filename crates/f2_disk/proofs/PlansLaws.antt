-- Laws of plans: a call of a bench on which no stop is planned fails by its plan alone, and then one less is left.
use Rattle.std.proofs.Common.{◌≡◌, ℕ, ◌+◌, ◌-◌, ◌≤◌, Bool, true, false, cond, eqb, ◌||◌, is_some, List, [], ◌∷◌, ◌++◌, length, set, get_or, Option, None, Some, refl, sym, ap, ◌∙◌, arith}
use Rattle.std.specs.Option.{option_map}
use Rattle.f2_disk.specs.declared.bench.CallKind.{CallKind}
use Rattle.f2_disk.specs.declared.bench.CallKind.TheVariants.{Read, Write, Flush}
use Rattle.f2_disk.specs.Faults.{one_more}
use Rattle.f2_disk.specs.Meter.{IsWithin}
use Rattle.std.proofs.lemmas.Bool.{ne_eqb}
use Rattle.std.proofs.lemmas.List.{length-set}
use Rattle.f2_disk.specs.Bench.{BenchState, meter_of, write_fails, after_write}
use Rattle.f2_disk.specs.Plans.{Plans, plan_of, is_next, has_stopped, is_due, nearer, after_call, answered, left_of}

-- a plan that comes nearer, and a call that fails only by it
plan_falls : (plan : Option ℕ) (failed : Bool) → (failed ≡ true → is_next plan ≡ true)
    → cond (is_some (nearer plan)) 1 0 + cond failed 1 0 ≤ cond (is_some plan) 1 0
plan_falls None true why = let no : false ≡ true = why refl in cc
plan_falls None false why = omega arith
plan_falls (Some n) failed why = near (eqb n 1) failed why
  where
    near : (b failed : Bool) → (failed ≡ true → b ≡ true)
        → cond (is_some (cond b None (Some (n - 1)))) 1 0 + cond failed 1 0 ≤ 1
    near true true why = omega arith
    near true false why = omega arith
    near false true why = let no : false ≡ true = why refl in cc
    near false false why = omega arith

count_falls : (failed : Bool) (faults : ℕ) → cond failed (one_more faults) faults ≤ faults + cond failed 1 0
count_falls true faults = omega arith
count_falls false faults = omega arith

left_falls : (kind : CallKind) (plans : Plans) (failed : Bool) → (failed ≡ true → is_next (plan_of kind plans) ≡ true)
    → left_of (answered failed (after_call kind plans)) + (answered failed (after_call kind plans)).faults ≤ left_of plans + plans.faults
left_falls Read plans failed why = omega (arith, plan_falls plans.read failed why, count_falls failed plans.faults)
left_falls Write plans failed why = omega (arith, plan_falls plans.write failed why, count_falls failed plans.faults)
left_falls Flush plans failed why = omega (arith, plan_falls plans.flush failed why, count_falls failed plans.faults)

no_stop : (stop : Option ℕ) → is_some stop ≡ false → is_some (option_map (λ calls. calls - 1) stop) ≡ false
no_stop None running = refl
no_stop (Some n) running = running

stays_running : (kind : CallKind) (plans : Plans) (failed : Bool) → is_some plans.stop ≡ false
    → is_some (answered failed (after_call kind plans)).stop ≡ false
stays_running Read plans failed running = no_stop plans.stop running
stays_running Write plans failed running = no_stop plans.stop running
stays_running Flush plans failed running = no_stop plans.stop running

-- without a stop a call is due by its plan alone
pub due_by_plan : (kind : CallKind) (plans : Plans) → is_some plans.stop ≡ false → is_due kind plans ≡ true
    → is_next (plan_of kind plans) ≡ true
due_by_plan kind plans running due = alone (is_next (plan_of kind plans)) plans.stop running due
  where
    alone : (next : Bool) (stop : Option ℕ) → is_some stop ≡ false → (next || has_stopped stop) ≡ true → next ≡ true
    alone true stop running due = refl
    alone false None running due = due
    alone false (Some n) running due = let no : true ≡ false = running in cc

-- a call that fails only by its plan where no stop is planned and there is room
pub within_call : (writes : ℕ) (kind : CallKind) (failed : Bool) (old new : BenchState)
    → length new.lists ≡ length old.lists → new.plans ≡ answered failed (after_call kind old.plans)
    → old.plans.faults ≤ new.plans.faults → old.spare ≤ new.spare + writes
    → (is_some old.plans.stop ≡ false → writes ≤ old.spare → failed ≡ true → is_next (plan_of kind old.plans) ≡ true)
    → IsWithin writes (meter_of old) (meter_of new)
within_call writes kind failed old new size plans later room why = record {
  same_blocks = size;
  later = later;
  not_stopped = λ running. rw plans (stays_running kind old.plans failed running);
  room = room;
  no_fault = λ running fits. rw plans (left_falls kind old.plans failed (why running fits));
}

-- a write, which fails for want of room besides
pub within_write : (at : ℕ) (content : List ℕ) (old new : BenchState) → new ≡ after_write at content old
    → old.plans.faults ≤ new.plans.faults → IsWithin 1 (meter_of old) (meter_of new)
within_write at content old new after later =
    let size : length new.lists ≡ length old.lists = ap (λ (b : BenchState). length b.lists) after ∙ put_size (eqb old.spare 0) in
    let room : new.spare ≡ old.spare - 1 = ap (λ (b : BenchState). b.spare) after in
    within_call 1 Write (write_fails old) old new size (ap (λ (b : BenchState). b.plans) after) later (omega arith)
    (λ running fits failed. due_by_plan Write old.plans running (by_due (is_due Write old.plans) (eqb old.spare 0) failed
    (ne_eqb old.spare 0 (λ none. absurd (omega (arith, none))))))
  where
    put_size : (full : Bool) → length (cond full old.lists (set old.lists at (get_or old.lists at [] ++ content ∷ []))) ≡ length old.lists
    put_size true = refl
    put_size false = length-set old.lists at _

    by_due : (due full : Bool) → (due || full) ≡ true → full ≡ false → due ≡ true
    by_due true full failed room = refl
    by_due false full failed room = let no : false ≡ true = sym room ∙ failed in cc

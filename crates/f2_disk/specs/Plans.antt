-- What a bench was asked to fail, and which of its calls that makes fail.
use Rattle.std.specs.Prelude.{ℕ, ◌+◌, ◌-◌, ◌==◌, min, Bool, false, ◌||◌, is_some, Option, Some, None, option_map, if◌then◌else◌}
use Rattle.f2_disk.specs.Faults.{one_more}
use Rattle.f2_disk.specs.declared.bench.CallKind.{CallKind}
use Rattle.f2_disk.specs.declared.bench.CallKind.TheVariants.{Read, Write, Flush}

-- What is planned: for each kind of call, which of the next calls of that kind fails, counted from 1; how many calls
-- of any kind go on before the stop; and how many calls have failed.
pub record Plans : Type 0 where
  pub read : Option ℕ
  pub write : Option ℕ
  pub flush : Option ℕ
  pub stop : Option ℕ
  pub faults : ℕ

-- nothing planned, after this many faults
abbrev pub no_plans : ℕ → Plans
no_plans faults = record { read = None; write = None; flush = None; stop = None; faults = faults }

-- the plan for a kind of call
abbrev pub plan_of : CallKind → Plans → Option ℕ
plan_of Read plans = plans.read
plan_of Write plans = plans.write
plan_of Flush plans = plans.flush

-- the plan is for the next call
abbrev pub is_next : Option ℕ → Bool
is_next None = false
is_next (Some calls) = calls == 1

-- no call goes on any more
abbrev pub has_stopped : Option ℕ → Bool
has_stopped None = false
has_stopped (Some calls) = calls == 0

-- the next call of this kind fails, by its plan or by the stop
abbrev pub is_due : CallKind → Plans → Bool
is_due kind plans = is_next (plan_of kind plans) || has_stopped plans.stop

-- a plan after one call of its kind
abbrev pub nearer : Option ℕ → Option ℕ
nearer None = None
nearer (Some calls) = if calls == 1 then None else Some (calls - 1)

-- plans for kinds of calls, and the stop, after one call of this kind
abbrev pub after_call : CallKind → Plans → Plans
after_call Read plans = record plans { read = nearer plans.read; stop = option_map (λ calls. calls - 1) plans.stop }
after_call Write plans = record plans { write = nearer plans.write; stop = option_map (λ calls. calls - 1) plans.stop }
after_call Flush plans = record plans { flush = nearer plans.flush; stop = option_map (λ calls. calls - 1) plans.stop }

-- the count of faults after a call that failed or not
abbrev pub answered : Bool → Plans → Plans
answered failed plans = record plans { faults = if failed then one_more plans.faults else plans.faults }

-- the nth call of this kind from now is to fail, in place of an earlier one
abbrev pub planned : CallKind → ℕ → Plans → Plans
planned Read n plans = record plans { read = Some n }
planned Write n plans = record plans { write = Some n }
planned Flush n plans = record plans { flush = Some n }

-- a stop after n calls, beside an earlier one
abbrev pub sooner : ℕ → Option ℕ → Option ℕ
sooner n None = Some n
sooner n (Some calls) = Some (min calls n)

-- how many failures are planned
abbrev pub left_of : Plans → ℕ
left_of plans =
    (if is_some plans.read then 1 else 0) + (if is_some plans.write then 1 else 0) + (if is_some plans.flush then 1 else 0)

use Rattle.std.proofs.Common.{◌≡◌, ◌≤◌, refl, arith}
use Rattle.f2_disk.specs.Bench.{BenchState, meter_of}
use Rattle.f2_disk.specs.Meter.{IsWithin}
use Rattle.f2_disk.specs.Plans.{is_due, after_call, answered}
use Rattle.f2_disk.specs.declared.bench.CallKind.TheVariants.{Read}
use Rattle.f2_disk.proofs.PlansLaws.{within_call, due_by_plan}
use Rattle.f2_disk.proofs.mem_bench.MemBenchDisk.read.Goals as goal

pub returns-clause-within : goal.returns-clause-within
returns-clause-within c =
    let plans = c.self.inside.plans in
    let old : BenchState = record { lists = c.self.inside.store.lists; spare = c.self.inside.store.spare; plans = plans } in
    let new : BenchState = record { lists = c.self.inside.store.lists; spare = c.self.inside.store.spare; plans = c.answer.new.self } in
    let after : new.plans ≡ answered (is_due Read plans) (after_call Read plans) = grind arith in
    let later : plans.faults ≤ new.plans.faults = rw c.call-due.ensures.after at c.answer.ensures.later in
    let within : IsWithin 0 (meter_of old) (meter_of new) =
    within_call 0 Read (is_due Read plans) old new refl after later (omega arith) (λ running fits due. due_by_plan Read plans running due) in
    rw (← c.self.view_is) within

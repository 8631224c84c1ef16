use Rattle.std.proofs.Common.{◌≡◌, ◌≤◌, length, arith}
use Rattle.std.proofs.lemmas.Grind.{common_steps}
use Rattle.f2_disk.proofs.ContentsLaws.{length-flushed}
use Rattle.f2_disk.specs.Bench.{BenchState, meter_of}
use Rattle.f2_disk.specs.Meter.{IsWithin}
use Rattle.f2_disk.specs.Plans.{is_due, after_call, answered}
use Rattle.f2_disk.specs.declared.bench.CallKind.TheVariants.{Flush}
use Rattle.f2_disk.proofs.PlansLaws.{within_call, due_by_plan}
use Rattle.f2_disk.proofs.mem_bench.MemBenchDisk.flush.Goals as goal

pub returns-clause-within : goal.returns-clause-within
returns-clause-within c =
    let plans = c.self.inside.plans in
    let store = c.if-not-due.self-inside.store in
    let old : BenchState = record { lists = c.self.inside.store.lists; spare = c.self.inside.store.spare; plans = plans } in
    let new : BenchState = record { lists = store.lists; spare = store.spare; plans = c.answer.new.self } in
    let after : new.plans ≡ answered (is_due Flush plans) (after_call Flush plans) = grind arith in
    let later : plans.faults ≤ new.plans.faults = grind (arith, common_steps) in
    let same : length new.lists ≡ length old.lists = grind (arith, length-flushed) in
    let room : old.spare ≡ new.spare = grind (arith, common_steps) in
    let within : IsWithin 0 (meter_of old) (meter_of new) =
    within_call 0 Flush (is_due Flush plans) old new same after later (omega arith) (λ running fits due. due_by_plan Flush plans running due) in
    rw (← c.self.view_is) within

use Rattle.std.proofs.Common.{◌≡◌, ◌≤◌, arith}
use Rattle.std.proofs.lemmas.Grind.{common_steps}
use Rattle.f2_disk.specs.Bench.{BenchState, after_write}
use Rattle.f2_disk.proofs.PlansLaws.{within_write}
use Rattle.f2_disk.proofs.mem_bench.MemBenchDisk.write.Goals as goal

pub returns-clause-within : goal.returns-clause-within
returns-clause-within c =
    let store = c.put-has_room.new.self in
    let new : BenchState = record { lists = store.lists; spare = store.spare; plans = c.answer.new.self } in
    let after : new ≡ after_write c.args.at c.args.from.now c.args.self.now = grind (arith, common_steps) in
    let later : c.args.self.now.plans.faults ≤ new.plans.faults = grind (arith, common_steps) in
    within_write c.args.at c.args.from.now c.args.self.now new after later

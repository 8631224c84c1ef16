use Rattle.std.proofs.Common.{refl, arith}
use Rattle.f2_disk.specs.Contents.{Contents, IsImage}
use Rattle.f2_disk.specs.Pick.{crash_image}
use Rattle.f2_disk.proofs.PickLaws.{crash_is_image, length-crashed}
use Rattle.f2_disk.proofs.mem_bench.MemBenchBench.crash.Goals as goal

pub returns-clause-image : goal.returns-clause-image
returns-clause-image c =
    let lists : Contents = c.self.inside.store.lists in
    let image : IsImage lists (crash_image c.args.pick lists) = crash_is_image c.args.pick lists c.crash.ensures.whole.held in
    rw (← c.self.view_is) image

pub returns-clause-calm : goal.returns-clause-calm
returns-clause-calm c =
    rw (c.crash.ensures.crashed, c.forget.ensures, ← c.self.view_is) (record {
      size = length-crashed c.args.pick c.self.inside.store.lists;
      same_faults = refl;
      none_left = refl;
      not_stopped = refl;
      room = omega arith;
    })

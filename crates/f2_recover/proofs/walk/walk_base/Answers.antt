use Rattle.std.proofs.Common.{◌<◌, ◌≤◌, length, refl, sym, arith}
use Rattle.std.proofs.lemmas.List.{get_or_read}
use Rattle.f2_format.specs.Geometry.{nid_limit}
use Rattle.f2_recover.proofs.Telling.{fault_holds, read_on, reads_then}
use Rattle.f2_recover.proofs.QueueLengths.{length_within}
use Rattle.f2_recover.proofs.WalkSteps.{before_none, before_more, next_fresh, walked_whole}
use Rattle.f2_recover.proofs.walk.walk_base.Goals as goal

pub loop-next-init : goal.loop-next-init
loop-next-init g c = record {
  reads = c.begin.ensures.reads;
  geom = c.in_ok-walk.ensures.geom;
  queue = c.in_ok-walk.ensures.queue;
  walked = λ image ckpt read. before_none image ckpt c.in_ok-walk.walk (c.in_ok-walk.ensures.walked image ckpt read);
}

pub loop-next-smaller : goal.loop-next-smaller
loop-next-smaller g c =
    let order = c.loop-next.walk.order in
    let small : c.loop-next.next < length order.items = omega (arith, c.loop-next-test.true, c.len.ensures, order.ok.0) in
    let most : length order.items ≤ nid_limit c.args.g.now = length_within _ _ _ c.loop-next.invariant.queue in
    omega (arith, small, most)

pub returns-in_err-walk_row-clause-fault : goal.returns-in_err-walk_row-clause-fault
returns-in_err-walk_row-clause-fault g c =
    let before = c.loop-next.invariant in
    let order = c.loop-next.walk.order in
    let small : c.loop-next.next < length order.items = omega (arith, c.loop-next-test.true, c.len.ensures, order.ok.0) in
    let at = sym (get_or_read order.items _ _ small c.index-ino.ensures 0) in
    fault_holds _ _ _ c.from_residual-in_err-walk_row.ensures.1
    (λ image ckpt read.
    let walked = before.walked image ckpt read in
    c.in_err-walk_row.ensures.fault image ckpt walked.done (read_on _ _ _ _ _ image ckpt before.reads.kept refl read)
    (next_fresh image ckpt c.args.g.now c.loop-next.walk c.loop-next.next _ before.queue walked small at) walked.to)

pub loop-next-preserved : goal.loop-next-preserved
loop-next-preserved g c =
    let before = c.loop-next.invariant in
    let order = c.loop-next.walk.order in
    let small : c.loop-next.next < length order.items = omega (arith, c.loop-next-test.true, c.len.ensures, order.ok.0) in
    let at = sym (get_or_read order.items _ _ small c.index-ino.ensures 0) in
    let row = c.in_ok-walk_row.ensures in
    record {
      reads = reads_then _ _ _ _ _ _ before.reads row.reads;
      geom = row.geom;
      queue = row.queue;
      walked = λ image ckpt read. before_more image ckpt c.args.g.now c.loop-next.walk c.loop-next.next _ before.queue (before.walked image ckpt read) small at c.walk_row.new.walk row.longer
          (λ done. row.walked image ckpt done (read_on _ _ _ _ _ image ckpt before.reads.kept refl read)) row.file;
    }

pub returns-clause-walked : goal.returns-clause-walked
returns-clause-walked g c image ckpt read =
    let before = c.loop-next.invariant in
    let order = c.loop-next.walk.order in
    let past : length order.items ≤ c.loop-next.next = omega (arith, c.loop-next-test.false, c.len.ensures, order.ok.0) in
    walked_whole image ckpt c.args.g.now c.loop-next.walk c.loop-next.next before.queue (before.walked image ckpt read) past

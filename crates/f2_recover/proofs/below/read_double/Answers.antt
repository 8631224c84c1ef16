use Rattle.std.proofs.Common.{◌∙◌, ◌+◌, ◌*◌, ◌<◌, arith}
use Rattle.f2_recover.proofs.Offsets.{low_indirect_is}
use Rattle.f2_recover.proofs.Telling.{fault_holds, read_on, reads_then}
use Rattle.f2_recover.proofs.Seen.{seen_at, double_past, double_child}
use Rattle.f2_recover.proofs.below.read_double.Goals as goal

pub returns-then-node-eq0-clause-seen : goal.returns-then-node-eq0-clause-seen
returns-then-node-eq0-clause-seen g c image ckpt inos root read child own seen =
    double_past image ckpt inos c.args.node.ino c.args.node.offset c.args.node.nid c.args.zones.now c.args.file.now c.requires.offset child c.if-node-eq0.true seen

pub read_indirect-requires-clause-indirect : goal.read_indirect-requires-clause-indirect
read_indirect-requires-clause-indirect g c = low_indirect_is c.loop-slot.slot c.loop-slot-test.true

pub loop-slot-init : goal.loop-slot-init
loop-slot-init g c = record {
  reads = c.in_ok-read_node.ensures.reads;
  geom = c.in_ok-read_node.ensures.geom;
  seen = λ image ckpt inos root read child own seen.
      seen_at image ckpt inos c.args.node.ino _ _ _ _ _ _ (omega (arith, c.requires.offset)) (omega arith) (c.in_ok-read_node.ensures.seen image ckpt inos (923 + 1018 * 2038) read (child.named c.if-node-eq0.false) seen);
}

pub returns-in_err-read_indirect-clause-fault : goal.returns-in_err-read_indirect-clause-fault
returns-in_err-read_indirect-clause-fault g c =
    let before = c.loop-slot.invariant in
    let small : c.loop-slot.slot < 1018 = c.loop-slot-test.true in
    fault_holds _ _ _ c.from_residual-in_err-read_indirect.ensures.1
    (λ image ckpt inos root read child own seen.
    c.in_err-read_indirect.ensures.fault image ckpt inos root (read_on _ _ _ _ _ image ckpt before.reads.kept before.geom read)
    (double_child image ckpt c.args.node.ino c.args.node.offset c.args.node.nid c.loop-slot.slot _ _ c.requires.offset (child.named c.if-node-eq0.false) (c.in_ok-read_node.ensures.there image ckpt read) small c.read_word.ensures)
    own (before.seen image ckpt inos root read child own seen))

pub loop-slot-preserved : goal.loop-slot-preserved
loop-slot-preserved g c =
    let before = c.loop-slot.invariant in
    let small : c.loop-slot.slot < 1018 = c.loop-slot-test.true in
    record {
      reads = reads_then _ _ _ _ _ _ before.reads c.in_ok-read_indirect.ensures.reads;
      geom = c.in_ok-read_indirect.ensures.geom ∙ before.geom;
      seen = λ image ckpt inos root read child own seen.
          seen_at image ckpt inos c.args.node.ino _ _ _ _ _ _ (omega arith) (omega arith)
          (c.in_ok-read_indirect.ensures.seen image ckpt inos root (read_on _ _ _ _ _ image ckpt before.reads.kept before.geom read)
          (double_child image ckpt c.args.node.ino c.args.node.offset c.args.node.nid c.loop-slot.slot _ _ c.requires.offset (child.named c.if-node-eq0.false) (c.in_ok-read_node.ensures.there image ckpt read) small c.read_word.ensures)
          own (before.seen image ckpt inos root read child own seen));
    }

pub returns-clause-seen : goal.returns-clause-seen
returns-clause-seen g c image ckpt inos root read child own seen =
    seen_at image ckpt inos c.args.node.ino _ _ _ _ _ _ (omega (arith, c.loop-slot-test.false)) (omega (arith, c.loop-slot-test.false)) (c.loop-slot.invariant.seen image ckpt inos root read child own seen)

pub returns-in_err-read_node-clause-fault : goal.returns-in_err-read_node-clause-fault
returns-in_err-read_node-clause-fault g c =
    fault_holds _ _ _ c.from_residual.ensures.1
    (λ image ckpt inos root read child own seen. c.in_err-read_node.ensures.fault image ckpt inos (923 + 1018 * 2038) read (child.named c.if-node-eq0.false) seen)

use Rattle.std.proofs.Common.{◌∙◌, ◌+◌, ◌*◌, ◌<◌, arith}
use Rattle.f2_recover.proofs.Telling.{fault_holds, read_on, reads_then}
use Rattle.f2_recover.proofs.Seen.{seen_at, indirect_past, child_of, in_node, word_in}
use Rattle.f2_recover.proofs.below.read_indirect.Goals as goal

pub returns-then-node-eq0-clause-seen : goal.returns-then-node-eq0-clause-seen
returns-then-node-eq0-clause-seen g c image ckpt inos root read child own seen =
    indirect_past image ckpt inos c.args.node.ino c.args.node.offset c.args.node.nid c.args.number c.args.zones.now c.args.file.now child c.if-node-eq0.true c.requires.indirect seen

pub loop-slot-init : goal.loop-slot-init
loop-slot-init g c = record {
  reads = c.in_ok-read_node.ensures.reads;
  geom = c.in_ok-read_node.ensures.geom;
  seen = λ image ckpt inos root read child own seen.
      seen_at image ckpt inos c.args.node.ino _ _ _ _ _ _ (omega arith) (omega arith) (c.in_ok-read_node.ensures.seen image ckpt inos (923 + 1018 * c.args.number) read (child.named c.if-node-eq0.false) seen);
}

pub returns-in_err-read_direct-clause-fault : goal.returns-in_err-read_direct-clause-fault
returns-in_err-read_direct-clause-fault g c =
    let before = c.loop-slot.invariant in
    let small : c.loop-slot.slot < 1018 = c.loop-slot-test.true in
    let indirect = c.requires.indirect in
    fault_holds _ _ _ c.from_residual-in_err-read_direct.ensures.1
    (λ image ckpt inos root read child own seen.
    c.in_err-read_direct.ensures.fault image ckpt inos root (read_on _ _ _ _ _ image ckpt before.reads.kept before.geom read)
    (child_of image ckpt c.args.node.ino c.args.node.offset c.args.node.nid c.loop-slot.slot (c.args.node.offset + 1 + c.loop-slot.slot) _ _ (child.named c.if-node-eq0.false) (c.in_ok-read_node.ensures.there image ckpt read)
    (in_node image ckpt c.args.node.offset c.loop-slot.slot indirect.some small) (indirect.names c.loop-slot.slot small) (word_in image ckpt _ c.args.node.offset c.loop-slot.slot _ indirect.some c.read_word.ensures))
    own (before.seen image ckpt inos root read child own seen))

pub loop-slot-preserved : goal.loop-slot-preserved
loop-slot-preserved g c =
    let before = c.loop-slot.invariant in
    let small : c.loop-slot.slot < 1018 = c.loop-slot-test.true in
    let indirect = c.requires.indirect in
    record {
      reads = reads_then _ _ _ _ _ _ before.reads c.in_ok-read_direct.ensures.reads;
      geom = c.in_ok-read_direct.ensures.geom ∙ before.geom;
      seen = λ image ckpt inos root read child own seen.
          seen_at image ckpt inos c.args.node.ino _ _ _ _ _ _ (omega arith) (omega arith)
          (c.in_ok-read_direct.ensures.seen image ckpt inos root (read_on _ _ _ _ _ image ckpt before.reads.kept before.geom read)
          (child_of image ckpt c.args.node.ino c.args.node.offset c.args.node.nid c.loop-slot.slot (c.args.node.offset + 1 + c.loop-slot.slot) _ _ (child.named c.if-node-eq0.false) (c.in_ok-read_node.ensures.there image ckpt read)
          (in_node image ckpt c.args.node.offset c.loop-slot.slot indirect.some small) (indirect.names c.loop-slot.slot small) (word_in image ckpt _ c.args.node.offset c.loop-slot.slot _ indirect.some c.read_word.ensures))
          own (before.seen image ckpt inos root read child own seen));
    }

pub returns-clause-seen : goal.returns-clause-seen
returns-clause-seen g c image ckpt inos root read child own seen =
    seen_at image ckpt inos c.args.node.ino _ _ _ _ _ _ (omega (arith, c.loop-slot-test.false)) (omega (arith, c.loop-slot-test.false)) (c.loop-slot.invariant.seen image ckpt inos root read child own seen)

pub returns-in_err-read_node-clause-fault : goal.returns-in_err-read_node-clause-fault
returns-in_err-read_node-clause-fault g c =
    fault_holds _ _ _ c.from_residual.ensures.1
    (λ image ckpt inos root read child own seen. c.in_err-read_node.ensures.fault image ckpt inos (923 + 1018 * c.args.number) read (child.named c.if-node-eq0.false) seen)

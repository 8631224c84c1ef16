use Rattle.std.proofs.Common.{◌∙◌, ◌+◌, ◌*◌, ◌<◌, sym, refl, arith}
use Rattle.f2_recover.proofs.Telling.{fault_holds}
use Rattle.f2_recover.proofs.Seen.{seen_at, direct_page, direct_past}
use Rattle.f2_recover.proofs.below.read_direct.Goals as goal

pub returns-then-node-eq0-clause-seen : goal.returns-then-node-eq0-clause-seen
returns-then-node-eq0-clause-seen g c image ckpt inos root read child own seen =
    direct_past image ckpt inos c.args.node.ino c.args.node.offset c.args.node.nid c.args.number c.args.zones.now c.args.file.now child c.if-node-eq0.true c.requires.offset c.requires.number seen

pub loop-slot-init : goal.loop-slot-init
loop-slot-init g c = record {
  geom = c.in_ok-read_node.ensures.geom;
  seen = λ image ckpt inos root read child own seen.
      seen_at image ckpt inos c.args.node.ino _ _ _ _ _ _ refl (omega arith) (c.in_ok-read_node.ensures.seen image ckpt inos (923 + 1018 * c.args.number) read (child.named c.if-node-eq0.false) seen);
}

pub returns-in_err-add_page-clause-fault : goal.returns-in_err-add_page-clause-fault
returns-in_err-add_page-clause-fault g c =
    let before = c.loop-slot.invariant in
    let small : c.loop-slot.slot < 1018 = c.loop-slot-test.true in
    fault_holds _ _ _ c.from_residual-in_err-add_page.ensures.1
    (λ image ckpt inos root read child own seen.
    c.in_err-add_page.ensures.fault image ckpt inos c.args.node.ino (c.args.node.offset + 1) (read.geom_is ∙ sym before.geom) read.has
    (direct_page image ckpt c.args.node.ino root c.args.node.offset c.args.node.nid c.args.number c.loop-slot.slot _ _ own (child.named c.if-node-eq0.false) (c.in_ok-read_node.ensures.there image ckpt read) c.requires.offset c.requires.number small c.read_word.ensures)
    (before.seen image ckpt inos root read child own seen))

pub loop-slot-preserved : goal.loop-slot-preserved
loop-slot-preserved g c =
    let before = c.loop-slot.invariant in
    let small : c.loop-slot.slot < 1018 = c.loop-slot-test.true in
    record {
      geom = c.in_ok-add_page.ensures.geom ∙ before.geom;
      seen = λ image ckpt inos root read child own seen.
          seen_at image ckpt inos c.args.node.ino _ _ _ _ _ _ refl (omega arith)
          (c.in_ok-add_page.ensures.seen image ckpt inos c.args.node.ino (c.args.node.offset + 1) (read.geom_is ∙ sym before.geom)
          (direct_page image ckpt c.args.node.ino root c.args.node.offset c.args.node.nid c.args.number c.loop-slot.slot _ _ own (child.named c.if-node-eq0.false) (c.in_ok-read_node.ensures.there image ckpt read) c.requires.offset c.requires.number small c.read_word.ensures)
          (before.seen image ckpt inos root read child own seen));
    }

pub returns-clause-seen : goal.returns-clause-seen
returns-clause-seen g c image ckpt inos root read child own seen =
    seen_at image ckpt inos c.args.node.ino _ _ _ _ _ _ refl (omega (arith, c.loop-slot-test.false)) (c.loop-slot.invariant.seen image ckpt inos root read child own seen)

pub returns-in_err-read_node-clause-fault : goal.returns-in_err-read_node-clause-fault
returns-in_err-read_node-clause-fault g c =
    fault_holds _ _ _ c.from_residual.ensures.1
    (λ image ckpt inos root read child own seen. c.in_err-read_node.ensures.fault image ckpt inos (923 + 1018 * c.args.number) read (child.named c.if-node-eq0.false) seen)

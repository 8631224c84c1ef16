use Rattle.std.proofs.Common.{sym, subst, refl}
use Rattle.f2_recover.specs.Faults.{IsRightFault}
use Rattle.f2_recover.proofs.Telling.{fault_holds}
use Rattle.f2_recover.proofs.Claims.{node_read, node_there, node_misplaced, node_claims}
use Rattle.f2_recover.proofs.Parts.{part_node}
use Rattle.f2_recover.proofs.nodes.read_node.Goals as goal

pub returns-in_err-at-clause-fault : goal.returns-in_err-at-clause-fault
returns-in_err-at-clause-fault g c =
    fault_holds _ _ _ c.from_residual.ensures.1 (λ image ckpt inos page read is seen. c.in_err-at.ensures.fault _ image ckpt inos page read is seen.are)

pub returns-in_err-check_footer-clause-fault : goal.returns-in_err-check_footer-clause-fault
returns-in_err-check_footer-clause-fault g c =
    fault_holds _ _ _ c.from_residual-in_err-check_footer.ensures.1 (λ image ckpt inos page read is seen.
    subst (IsRightFault image ckpt) (sym c.in_err-check_footer.ensures.fault)
    (node_misplaced image ckpt c.args.zones.now.geom c.args.node.ino c.args.node.offset c.args.node.nid c.in_ok-at.at c.read_block.new.into read.geom_is (c.in_ok-at.ensures.address _ image ckpt read) c.in_ok-at.ensures.inside
    (c.in_ok-read_block.ensures.content image read.tells) read.has is c.in_err-check_footer.ensures.misplaced))

pub returns-clause-there : goal.returns-clause-there
returns-clause-there g c image ckpt read =
    node_there image ckpt c.args.zones.now.geom c.args.node.ino c.args.node.offset c.args.node.nid c.in_ok-at.at c.read_block.new.into read.geom_is (c.in_ok-at.ensures.address _ image ckpt read) c.in_ok-at.ensures.inside
    (c.in_ok-read_block.ensures.content image read.tells)

pub returns-clause-seen : goal.returns-clause-seen
returns-clause-seen g c image ckpt inos page read is seen =
    let footer = c.in_ok-check_footer.ensures in
    let address = c.in_ok-at.ensures.address _ image ckpt read in
    let here =
    node_read image ckpt c.args.zones.now.geom c.args.node.ino c.args.node.offset c.args.node.nid c.in_ok-at.at c.read_block.new.into read.geom_is address c.in_ok-at.ensures.inside
    (c.in_ok-read_block.ensures.content image read.tells) c.in_ok-at.ensures.least footer.nid footer.ino footer.offset in
    record {
      are = node_claims image ckpt inos c.args.node.ino c.args.node.offset page c.args.zones.now seen.are c.args.node.nid c.in_ok-at.at _ c.read_block.new.into is here c.in_ok-at.ensures.free c.in_ok-at.ensures.taken;
      part = part_node image ckpt c.args.node.ino c.args.node.offset page c.args.file.now seen.part c.args.node.nid c.in_ok-at.at _ is address c.in_ok-put.ensures.ok c.in_ok-put-2.ensures.ok refl refl;
    }

use Rattle.std.proofs.Common.{◌≢◌, ◌⊎◌, inl, inr}
use Rattle.std.proofs.lemmas.Bool.{and_parts}
use Rattle.f2_format.specs.Geometry.{is_in_node}
use Rattle.f2_model.specs.Tree.{ROOT}
use Rattle.f2_image.specs.Faults as faults
use Rattle.f2_recover.proofs.Claims.{in_node_some, node_shared, unfit_node}
use Rattle.f2_recover.proofs.nodes.take_node.Goals as goal

pub returns-then-node-ne0-clause-fault : goal.returns-then-node-ne0-clause-fault
returns-then-node-ne0-clause-fault c held image ckpt inos page read is are =
    let other : (c.args.node.ino ≢ ROOT) ⊎ (c.args.node.offset ≢ 0) = elim c.if-node-ne0.either [ inl a ↦ inl a | inr b ↦ inr b.1 ] in
    (read.has, faults.too_low c.args.node.ino c.args.node.offset is c.if-node-lt-LEAST_NID.true other)

pub returns-in-Ok-clause-address : goal.returns-in-Ok-clause-address
returns-in-Ok-clause-address c held image ckpt read = c.address_of-at.ensures held _ image ckpt read

pub returns-in-Err-Outside-clause-fault : goal.returns-in-Err-Outside-clause-fault
returns-in-Err-Outside-clause-fault c held image ckpt inos page read is are = (
  read.has,
  faults.nowhere c.args.node.ino c.args.node.offset is
      (unfit_node image ckpt c.args.zones.now.geom c.args.node.nid c.address_of-at.result read.geom_is (c.address_of-at.ensures held _ image ckpt read) (rw c.in-Err-Outside.field-0-is at c.in-Err-Outside.ensures.unfit)),
)

pub returns-in-Err-Used-clause-fault : goal.returns-in-Err-Used-clause-fault
returns-in-Err-Used-clause-fault c held image ckpt inos page read is are =
    let unfit = rw c.in-Err-Used.field-0-is at c.in-Err-Used.ensures.unfit in
    (read.has, node_shared image ckpt inos c.args.node.ino c.args.node.offset page c.args.zones.now are c.args.node.nid c.address_of-at.result is (c.address_of-at.ensures held _ image ckpt read) (in_node_some c.args.zones.now.geom c.address_of-at.result (and_parts (is_in_node c.args.zones.now.geom c.address_of-at.result) _ unfit.0).0) unfit.1)

use Rattle.std.proofs.Common.{subst}
use Rattle.f2_image.specs.Chains.{chain}
use Rattle.f2_scan.specs.Logs.{IsFault}
use Rattle.f2_scan.proofs.Rights.{inode_stands, next_stands}
use Rattle.f2_mount.proofs.logs.fault_of.Goals as goal

pub returns-in-BadInode-clause-right : goal.returns-in-BadInode-clause-right
returns-in-BadInode-clause-right c image ckpt fault =
    inode_stands image ckpt c.in-BadInode.at c.in-BadInode.why (subst (IsFault ckpt.geom (chain image ckpt)) c.in-BadInode.is fault)

pub returns-in-OutOfZone-clause-right : goal.returns-in-OutOfZone-clause-right
returns-in-OutOfZone-clause-right c image ckpt fault =
    next_stands image ckpt c.in-OutOfZone.at (subst (IsFault ckpt.geom (chain image ckpt)) c.in-OutOfZone.is fault)

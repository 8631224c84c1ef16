use Rattle.std.proofs.Common.{refl}
use Rattle.f2_image.specs.Chains.{chain}
use Rattle.f2_scan.proofs.Rights.{none_stands, long_stands, inode_stands, next_stands}
use Rattle.f2_scan.proofs.laws.scans_tell.Goals as goal

pub returns-clause-chain : goal.returns-clause-chain
unfolding chain
returns-clause-chain c = λ image ckpt. refl

pub returns-clause-sound : goal.returns-clause-sound
unfolding chain
returns-clause-sound c = λ image ckpt sound. none_stands image ckpt sound

pub returns-clause-chain_long : goal.returns-clause-chain_long
unfolding chain
returns-clause-chain_long c = λ image ckpt at fault. long_stands image ckpt at fault

pub returns-clause-bad_inode : goal.returns-clause-bad_inode
unfolding chain
returns-clause-bad_inode c = λ image ckpt at why fault. inode_stands image ckpt at why fault

pub returns-clause-out_of_zone : goal.returns-clause-out_of_zone
unfolding chain
returns-clause-out_of_zone c = λ image ckpt at fault. next_stands image ckpt at fault

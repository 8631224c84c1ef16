use Rattle.f2_blocks.proofs.Routed.{route-ends}
use Rattle.f2_blocks.proofs.laws.routes_end_at_addresses.Goals as goal

pub returns : goal.returns
returns c = λ image ckpt row pages nids inode reads are page within. route-ends image ckpt row pages nids are inode reads page within

use Rattle.std.proofs.Common.{arith}
use Rattle.f2_node_block.proofs.Pieces.{put_mid-is}
use Rattle.f2_node_block.proofs.parts.put_bytes.Goals as goal

pub returns : goal.returns
returns c = put_mid-is c.args.at _ c.args.b.now _ c.args.bytes.now c.copy_from_slice.ensures.after (omega arith)

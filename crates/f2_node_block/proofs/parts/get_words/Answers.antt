use Rattle.std.proofs.Common.{length, arith}
use Rattle.f2_node_block.proofs.Pieces.{numbers-of_part}
use Rattle.f2_node_block.proofs.parts.get_words.Goals as goal

pub returns : goal.returns
returns c =
    let long = c.read_u32_into.auto.dst in
    numbers-of_part c.args.at _ (length c.args.into.now) c.args.b.now _ (omega arith) (omega arith) c.read_u32_into.ensures

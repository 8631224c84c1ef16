use Rattle.std.proofs.Common.{arith}
use Rattle.std.specs.List.{flat_map}
use Rattle.f2_format.specs.Bytes.{number_bytes}
use Rattle.f2_format.proofs.BytesLemmas.{length-flat_map_numbers}
use Rattle.f2_node_block.proofs.Pieces.{put_mid-is}
use Rattle.f2_node_block.proofs.parts.put_words.Goals as goal

pub returns-clause-written : goal.returns-clause-written
returns-clause-written c =
    let long = length-flat_map_numbers 4 c.args.words.now in
    put_mid-is c.args.at _ c.args.b.now _ (flat_map (number_bytes 4) c.args.words.now) (unfold number_bytes in c.write_u32_into.ensures) (omega arith)

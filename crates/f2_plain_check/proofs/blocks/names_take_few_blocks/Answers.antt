use Rattle.f2_plain_check.proofs.Sixes.{six_names_a_block}
use Rattle.f2_plain_check.proofs.blocks.names_take_few_blocks.Goals as goal

pub returns : goal.returns
returns c = six_names_a_block

use Rattle.f2_blocks.proofs.Fronts.{ReadsAs-same}
use Rattle.f2_blocks.proofs.laws.footers_change_no_reading.Goals as goal

pub returns : goal.returns
returns c = λ row pages nids offset old new long same reads. ReadsAs-same old new long same row pages nids offset reads

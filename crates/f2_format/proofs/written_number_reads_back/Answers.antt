use Rattle.f2_format.proofs.BytesLemmas.{number_at-with_bytes_same}
use Rattle.f2_format.proofs.written_number_reads_back.Goals as goal

pub returns : goal.returns
returns c n block at number fits small = number_at-with_bytes_same n block at number fits small

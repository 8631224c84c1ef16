use Rattle.f2_top.proofs.PutLemmas.{Puts-after}
use Rattle.f2_top.proofs.output.put_numbered.Goals as goal

pub returns-clause-bytes : goal.returns-clause-bytes
returns-clause-bytes g c = Puts-after _ _ _ _ _ _ c.in_ok-put.ensures.bytes c.put_number.ensures.bytes

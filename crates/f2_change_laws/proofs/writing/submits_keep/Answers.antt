use Rattle.f2_change_laws.proofs.Submits.{submits_keep}
use Rattle.f2_change_laws.proofs.writing.submits_keep.Goals as goal

pub returns : goal.returns
returns c = submits_keep

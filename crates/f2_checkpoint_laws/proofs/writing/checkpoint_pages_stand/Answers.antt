use Rattle.f2_checkpoint_laws.proofs.Writes.{page_stands}
use Rattle.f2_checkpoint_laws.proofs.writing.checkpoint_pages_stand.Goals as goal

pub returns : goal.returns
returns c = page_stands

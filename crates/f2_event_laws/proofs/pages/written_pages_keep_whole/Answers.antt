use Rattle.f2_event_laws.proofs.WholePages.{written_pages_whole}
use Rattle.f2_event_laws.proofs.pages.written_pages_keep_whole.Goals as goal

pub returns : goal.returns
returns c = written_pages_whole

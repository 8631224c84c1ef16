use Rattle.f2_event_laws.proofs.WholePages.{flushed_pages_whole}
use Rattle.f2_event_laws.proofs.pages.flushed_pages_keep_whole.Goals as goal

pub returns : goal.returns
returns c = flushed_pages_whole

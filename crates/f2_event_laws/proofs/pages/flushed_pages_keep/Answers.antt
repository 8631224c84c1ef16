use Rattle.f2_event_laws.proofs.FlushedPages.{flushed_pages}
use Rattle.f2_event_laws.proofs.pages.flushed_pages_keep.Goals as goal

pub returns : goal.returns
returns c = flushed_pages

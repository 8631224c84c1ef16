use Rattle.f2_event_laws.proofs.WrittenPages.{written_pages}
use Rattle.f2_event_laws.proofs.pages.written_pages_keep.Goals as goal

pub returns : goal.returns
returns c = written_pages

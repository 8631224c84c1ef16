use Rattle.f2_zone_laws.proofs.FreePages.{free_pages_are_free}
use Rattle.f2_zone_laws.proofs.free.free_pages_are_free.Goals as goal

pub returns : goal.returns
returns c = free_pages_are_free

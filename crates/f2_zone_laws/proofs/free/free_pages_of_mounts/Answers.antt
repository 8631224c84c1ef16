use Rattle.f2_zone_laws.proofs.FreePages.{free_pages_of_mounts}
use Rattle.f2_zone_laws.proofs.free.free_pages_of_mounts.Goals as goal

pub returns : goal.returns
returns c = free_pages_of_mounts

use Rattle.f2_recover.proofs.Telling.{tells_on}
use Rattle.f2_start.proofs.Newest.{is_start}
use Rattle.f2_start.proofs.reading.read_start.Goals as goal

pub returns-clause-start : goal.returns-clause-start
returns-clause-start g c image t =
    is_start image _ (c.in_ok-geometry.ensures.sized image t) (c.in_ok-pack.ensures.newest image (tells_on _ _ image c.in_ok-geometry.ensures.reads.kept t))

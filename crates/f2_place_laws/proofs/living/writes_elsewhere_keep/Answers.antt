use Rattle.f2_place_laws.proofs.LiveReads.{wrote_elsewhere}
use Rattle.f2_place_laws.proofs.living.writes_elsewhere_keep.Goals as goal

pub returns : goal.returns
returns c lists new geom tree places unwritten at content live free wrote = wrote_elsewhere lists tree places unwritten geom live new at content free wrote

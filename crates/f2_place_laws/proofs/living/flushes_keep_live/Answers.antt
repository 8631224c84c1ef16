use Rattle.f2_place_laws.proofs.LiveReads.{live_flushed}
use Rattle.f2_place_laws.proofs.living.flushes_keep_live.Goals as goal

pub returns : goal.returns
returns c lists geom tree places unwritten whole live = live_flushed lists geom tree places unwritten live

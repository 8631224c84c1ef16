use Rattle.f2_place_laws.proofs.LiveReads.{stands_written}
use Rattle.f2_place_laws.proofs.living.written_trees_stand.Goals as goal

pub returns : goal.returns
returns c lists image ckpt tree places unwritten live out gives table = stands_written lists tree places unwritten image ckpt live out gives table

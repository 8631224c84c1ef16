use Rattle.f2_place_laws.proofs.LivePages.{keyed_pages_stand}
use Rattle.f2_place_laws.proofs.living.written_pages_stand.Goals as goal

pub returns : goal.returns
returns c lists new geom tree places unwritten ino page at row content keyed live of_tree was free within in_zone block written =
    keyed_pages_stand lists new geom tree places unwritten ino page at row content keyed live of_tree was free within in_zone block written

use Rattle.std.proofs.Common.{Some}
use Rattle.f2_disk.specs.Contents.{alone}
use Rattle.f2_leaf_tests.proofs.nat_cache.an_entry_is_read_and_put.Goals as goal

pub get-requires-2-clause-kept : goal.get-requires-2-clause-kept
get-requires-2-clause-kept g = g.in_ok-put.ensures.still_kept (Some (alone g.get.new.disk)) g.in_ok-old.ensures.still_kept

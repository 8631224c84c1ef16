use Rattle.std.proofs.Common.{arith}
use Rattle.std.proofs.lemmas.Bool.Decides.{nat_tests}
use Rattle.f2_format.specs.Offsets.{direct_of, slots_of_page}
use Rattle.f2_shape.proofs.path.route_to.Goals as goal

pub returns-then-page-lt-INODE_PAGES : goal.returns-then-page-lt-INODE_PAGES
unfolding direct_of slots_of_page
returns-then-page-lt-INODE_PAGES c = grind (arith, nat_tests)

pub returns : goal.returns
unfolding direct_of slots_of_page
returns c = grind (arith, nat_tests)

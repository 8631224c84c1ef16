use Rattle.std.proofs.Common.{arith}
use Rattle.std.proofs.lemmas.Bool.Decides.{nat_tests}
use Rattle.f2_format.specs.Offsets.{direct_of}
use Rattle.f2_shape.proofs.direct.direct_of.Goals as goal

pub returns : goal.returns
unfolding direct_of
returns c = grind (arith, nat_tests)

pub returns-then-page-lt-INODE_PAGES : goal.returns-then-page-lt-INODE_PAGES
unfolding direct_of
returns-then-page-lt-INODE_PAGES c = grind (arith, nat_tests)

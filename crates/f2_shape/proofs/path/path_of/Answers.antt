use Rattle.std.proofs.Common.{arith}
use Rattle.std.proofs.lemmas.Bool.Decides.{nat_tests}
use Rattle.f2_shape.specs.Routes.{route_of}
use Rattle.f2_shape.proofs.path.path_of.Goals as goal

pub returns-then-page-lt-PAGE_LIMIT : goal.returns-then-page-lt-PAGE_LIMIT
unfolding route_of
returns-then-page-lt-PAGE_LIMIT c = grind (arith, nat_tests)

pub returns-else-page-lt-PAGE_LIMIT : goal.returns-else-page-lt-PAGE_LIMIT
unfolding route_of
returns-else-page-lt-PAGE_LIMIT c = grind (arith, nat_tests)

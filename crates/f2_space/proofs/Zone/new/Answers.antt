use Rattle.std.proofs.Common.{refl}
use Rattle.f2_space.proofs.Laws.{IsShared-new}
use Rattle.f2_space.proofs.Zone.new.Goals as goal

pub invariant_of-result : goal.invariant_of-result
invariant_of-result c =
    rw (c.in_ok-new.ensures, c.in_ok-new-2.ensures, c.in_ok-new-3.ensures)
    ((refl, refl), (refl, refl), (refl, refl), IsShared-new c.args.first c.args.c c.requires.whole c.requires.fits)

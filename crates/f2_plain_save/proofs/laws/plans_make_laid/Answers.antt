use Rattle.f2_plain_save.proofs.Made.{made}
use Rattle.f2_plain_save.proofs.laws.plans_make_laid.Goals as goal

pub returns : goal.returns
returns c = λ image tree stored old plan tail storable ready is. made image tree stored old.places plan tail storable ready is

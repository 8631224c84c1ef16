use Rattle.f2_plain_check.proofs.Together.{storable, room_of_storable}
use Rattle.f2_plain_check.proofs.storable.is_storable.Goals as goal

pub returns-in_ok-fits : goal.returns-in_ok-fits
returns-in_ok-fits c = (
  λ t. storable c.args.geometry.now c.args.tree.now (c.in_ok-is_good.ensures.0 c.if-branch.true) (c.in_ok-fits.ensures.0 t),
  λ here. c.in_ok-fits.ensures.1 (room_of_storable c.args.geometry.now c.args.tree.now here),
)

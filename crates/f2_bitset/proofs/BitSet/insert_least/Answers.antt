use Rattle.f2_bitset.proofs.Bitmap.{IsBitmap-low}
use Rattle.f2_bitset.proofs.BitSet.insert_least.Goals as goal

pub invariant_of-self : goal.invariant_of-self
invariant_of-self c =
    IsBitmap-low _ _ _ _ _ c.in_ok-number.number c.args.self.now c.self.invariant c.self.view_is c.in_ok-number.ensures.least

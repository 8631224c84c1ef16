use Rattle.std.proofs.Common.{ap, arith}
use Rattle.f2_bitset.proofs.Bitmap.{members_of-zeros, IsBitmap-zeros}
use Rattle.f2_bitset.proofs.BitSet.clear.Goals as goal

pub invariant_of-self : goal.invariant_of-self
invariant_of-self c =
    rw (c.fill.ensures.items (λ y h. h)) (IsBitmap-zeros _ _ _ c.self.invariant.fits (omega (arith, c.self.invariant.sized)))

pub returns : goal.returns
returns c =
    rw (c.fill.ensures.items (λ y h. h), ← c.self.view_is)
    (ap (λ m. record { first = c.self.inside.first; count = c.self.inside.count; members = m }) (members_of-zeros _ _ _))

use Rattle.std.proofs.Common.{◌≡◌, ◌+◌, ◌/◌, refl, ap, ◌∙◌, arith}
use Rattle.f2_bitset.proofs.Bitmap.{members_of-zeros, IsBitmap-zeros}
use Rattle.f2_bitset.proofs.BitSet.new.Goals as goal

pub invariant_of-result : goal.invariant_of-result
invariant_of-result c =
    let whole : c.div_ceil.result ≡ (c.args.count + 63) / 64 = c.div_ceil.ensures ∙ omega arith in
    rw (c.in_ok-words.ensures.items_if_clones_equal (λ y h. h), whole) (IsBitmap-zeros c.args.first c.args.count _ c.requires refl)

pub returns : goal.returns
returns c =
    rw (c.in_ok-words.ensures.items_if_clones_equal (λ y h. h))
    (ap (λ m. record { first = c.args.first; count = c.args.count; members = m }) (members_of-zeros c.args.first c.args.count _))

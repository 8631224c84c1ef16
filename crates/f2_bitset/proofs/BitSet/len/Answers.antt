use Rattle.f2_bitset.specs.Words.{has_bit}
use Rattle.f2_bitset.proofs.Members.{len-where-le}
use Rattle.f2_bitset.proofs.BitSet.len.Goals as goal

pub returns-clause-within : goal.returns-clause-within
returns-clause-within c =
    rw (← c.self.view_is, c.self.invariant.counted) (len-where-le c.self.inside.first c.self.inside.count (has_bit c.self.inside.words.items))

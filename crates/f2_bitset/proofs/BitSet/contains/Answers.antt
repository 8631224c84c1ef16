use Rattle.std.proofs.Common.{◌≡◌, ◌+◌, ◌-◌, ◌/◌, ◌%◌, nat_eq, sym, ap, ◌∙◌, arith}
use Rattle.std.specs.Int.{bit_at}
use Rattle.std.specs.FinSet as set
use Rattle.std.proofs.lemmas.List.{get_or_default}
use Rattle.std.proofs.lemmas.Nat.Bits.{shr_and_one}
use Rattle.f2_bitset.specs.Words.{has_bit, members_of}
use Rattle.f2_bitset.proofs.Members.{contains-where_below, contains-where_above, contains-where_in}
use Rattle.f2_bitset.proofs.Bitmap.{covers_of}
use Rattle.f2_bitset.proofs.BitSet.contains.Goals as goal
use Rattle.f2_bitset.proofs.BitSet.contains.Goals.{then-number-self-via-then-number-self, then-number-self-via-else-number-self+then-number-self-2}

pub returns-then-number-self-clause-member : goal.returns-then-number-self-clause-member
returns-then-number-self-clause-member c =
    rw (← c.self.view_is)
    (elim c.then-number-self.branch [
      | then-number-self-via-then-number-self w ↦ sym (contains-where_below c.self.inside.first c.self.inside.count _ c.args.number (omega arith))
      | then-number-self-via-else-number-self+then-number-self-2 w ↦ sym (contains-where_above c.self.inside.first c.self.inside.count _ c.args.number (omega arith))
    ])

pub returns-clause-member : goal.returns-clause-member
returns-clause-member c =
    let place = c.args.number - c.self.inside.first in
    let words = c.self.inside.words.items in
    let at : c.self.inside.first + (c.args.number - c.self.inside.first) ≡ c.args.number = omega arith in
    let word = c.index.ensures ∙ get_or_default words (place / 64) c.index.result.now 0 (omega (arith, (covers_of c.self.invariant))) in
    rw (← c.self.view_is)
    (ap (λ b. nat_eq b 1) (shr_and_one c.index.result.now (place % 64) ∙ ap (λ w. bit_at w (place % 64)) word)
    ∙ sym (contains-where_in c.self.inside.first c.self.inside.count (has_bit words) place (omega arith))
    ∙ ap (set.contains (members_of c.self.inside.first c.self.inside.count words)) at)

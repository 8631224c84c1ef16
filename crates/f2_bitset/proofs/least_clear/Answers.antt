use Rattle.std.proofs.Common.{◌*◌, nat_eq, get_or, inl, inr, ap, ◌∙◌, arith, w64}
use Rattle.std.proofs.lemmas.Bool.{cases_lt}
use Rattle.std.proofs.lemmas.Nat.Bits.{bit_at-trailing_ones, bit_at_ones}
use Rattle.f2_bitset.proofs.Bits.{has_bit-place, has_bit_before}
use Rattle.f2_bitset.proofs.least_clear.Goals as goal

pub returns-then-word-clause-clear : goal.returns-then-word-clause-clear
returns-then-word-clause-clear c =
    let low = bit_at-trailing_ones w64 (get_or c.args.words.now c.loop-at.at 0) (omega (arith, c.type_inv.words c.loop-at.at)) in
    rw c.trailing_ones.ensures (has_bit-place c.args.words.now c.loop-at.at _ low.0 ∙ ap (λ x. nat_eq x 1) low.1)

pub returns-then-word-clause-before : goal.returns-then-word-clause-before
returns-then-word-clause-before c other from below =
    let low = bit_at-trailing_ones w64 (get_or c.args.words.now c.loop-at.at 0) (omega (arith, c.type_inv.words c.loop-at.at)) in
    elim (cases_lt other (64 * c.loop-at.at)) [
      | inl passed ↦ c.loop-at.invariant other from passed
      | inr here ↦ has_bit_before c.args.words.now c.loop-at.at _ other (omega (arith, low.0)) low.2 here (rw c.trailing_ones.ensures at below)
    ]

pub loop-at-preserved : goal.loop-at-preserved
loop-at-preserved c other from below =
    elim (cases_lt other (64 * c.loop-at.at)) [
      | inl passed ↦ c.loop-at.invariant other from passed
      | inr here ↦ has_bit_before c.args.words.now c.loop-at.at 64 other (omega arith) (λ j h. rw c.if-word.false (bit_at_ones 64 j h)) here (omega arith)
    ]

use Rattle.std.proofs.Common.{◌+◌, ◌-◌, ◌++◌, ◌∷◌, [], ap, sym, ◌∙◌, append_assoc}
use Rattle.std.specs.List.{range_with_len}
use Rattle.f2_spans.proofs.Ranges.{range_step}
use Rattle.f2_reference_calls.proofs.counts.numbers_to.Goals as goal

pub loop-number-preserved : goal.loop-number-preserved
loop-number-preserved c =
    let number = c.loop-number.number in
    let end = c.args.end in
    let rest = range_with_len (number + 1) (end - (number + 1)) in
    ap (λ numbers. numbers ++ rest) c.in_ok-push.ensures.items
    ∙ append_assoc c.loop-number.numbers.items (number ∷ []) rest
    ∙ sym (ap (λ numbers. c.loop-number.numbers.items ++ numbers) (range_step number end c.loop-number-test.true))
    ∙ c.loop-number.invariant

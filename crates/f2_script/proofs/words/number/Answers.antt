use Rattle.std.proofs.Common.{◌≡◌, sym, ◌∙◌, arith}
use Rattle.std.proofs.lemmas.Fmt.{decimal_injective}
use Rattle.f2_script.proofs.words.number.Goals as goal

pub returns-then-number-least : goal.returns-then-number-least
returns-then-number-least c = λ x p.
    let most = c.ranges.most.fits in
    let low = c.in_ok-number.ensures.0 in
    let same : x ≡ c.in_ok-number.number = decimal_injective x c.in_ok-number.number (omega arith) (omega arith) (sym p.2 ∙ c.in_ok-number.ensures.1) in
    let less = c.if-number-least.true in
    omega arith

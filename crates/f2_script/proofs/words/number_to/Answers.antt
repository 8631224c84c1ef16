use Rattle.std.proofs.Common.{◌≡◌, subst, sym, arith}
use Rattle.std.specs.Str.{IsUtf8}
use Rattle.f2_script.proofs.WordLemmas.{differs}
use Rattle.f2_script.proofs.Decimals.{decimal_utf8, parses_decimal}
use Rattle.f2_script.proofs.words.number_to.Goals as goal
use Rattle.f2_script.proofs.words.number_to.Goals.{else-number-limit-via-then-number-limit+else-eq, else-number-limit-via-else-number-limit}

pub returns-in_default : goal.returns-in_default
returns-in_default c = λ x p.
    c.in_default.ensures.cases.0 (subst IsUtf8 (sym p.1) (decimal_utf8 x (omega arith)))

pub returns-in_default-parse : goal.returns-in_default-parse
returns-in_default-parse c = λ x p.
    let e = parses_decimal _ c.args.text.now c.in-Ok.digits.now c.args.limit x c.in-Ok.ensures.cases.0 c.parse.ensures.value.0 (omega arith) p.0 p.1 in
    cc

pub returns-else-number-limit : goal.returns-else-number-limit
returns-else-number-limit c = λ x p.
    let e = parses_decimal _ c.args.text.now c.in-Ok.digits.now c.args.limit x c.in-Ok.ensures.cases.0 c.parse.ensures.value.0 (omega arith) p.0 p.1 in
    let same : c.in-Ok-parse.number ≡ x = cc in
    elim c.else-number-limit.branch [
      | else-number-limit-via-then-number-limit+else-eq w ↦
          let shown : w.as_bytes.result.now ≡ c.args.text.now = cc in
          differs _ _ _ w.eq.ensures w.if-eq.false shown
      | else-number-limit-via-else-number-limit w ↦ omega arith
    ]

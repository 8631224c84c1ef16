use Rattle.std.proofs.Common.{subst}
use Rattle.f2_script.specs.Grammar.{MayStand}
use Rattle.f2_script.proofs.LineKinds.{not_when, one_line}
use Rattle.f2_script.proofs.grammar.line_here.Goals as goal

pub returns-in_default : goal.returns-in_default
returns-in_default c = λ x h. (let none = rw c.in_default.is at c.in_ok-line.ensures in none x h.0)

pub returns-then-not-may_stand : goal.returns-then-not-may_stand
returns-then-not-may_stand c = λ x h.
    let same = one_line c.args.text.now x c.in-Some.line h.0 (rw c.in-Some.is at c.in_ok-line.ensures) in
    not_when c.may_stand.result c.may_stand.ensures c.if-not-may_stand.true (subst (λ l. MayStand c.args.grammar c.args.begun l) same h.1)

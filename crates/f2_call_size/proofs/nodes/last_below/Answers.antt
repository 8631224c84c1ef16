use Rattle.std.proofs.Common.{◌≡◌, ◌+◌, sym, subst, arith}
use Rattle.f2_call_size.specs.Beyond.{IsNear, pages_below}
use Rattle.f2_call_size.proofs.Nearness.{near_below, near_none}
use Rattle.f2_call_size.proofs.nodes.last_below.Goals as goal

pub returns-in-Some : goal.returns-in-Some
returns-in-Some c = λ page past.
    let whole = c.in-Some.ensures in
    let is : c.args.end ≡ c.in-Some.last + 1 = omega (arith, whole) in
    subst (λ before. IsNear (pages_below c.args.own.now c.args.end) page before 0) (sym c.unwrap_or.ensures)
    (near_below c.args.own.now c.in-Some.last c.args.end page c.last_to.result is c.last_to.ensures past)

pub returns-in-None : goal.returns-in-None
returns-in-None c = λ page past.
    let none = c.in-None.ensures in
    near_none c.args.own.now c.args.end page (omega (arith, none))

use Rattle.std.proofs.Common.{◌∙◌, ◌<◌, sym, ap, take, length, get_or, arith}
use Rattle.std.proofs.lemmas.List.{take_more}
use Rattle.std.specs.Ordering.{nat_cmp}
use Rattle.std.specs.Cmp.{nat_cmp_total}
use Rattle.std.specs.FinSet as set
use Rattle.std.specs.FinSet.{FinSet, nat_cmp-IsAntisymmetric, from_list_push}
use Rattle.f2_flights.proofs.inos.Inos.of.Goals as goal

pub loop-number-preserved : goal.loop-number-preserved
loop-number-preserved c =
    let inside : c.loop-number.number-index < length c.args.numbers.now = omega arith in
    let number = get_or c.args.numbers.now c.loop-number.number-index 0 in
    c.in_ok-insert.ensures.ok
    ∙ ap (λ (inos : FinSet nat_cmp). set.insert inos number) c.loop-number.invariant
    ∙ sym (ap (set.from_list {R = nat_cmp}) (take_more c.args.numbers.now c.loop-number.number-index 0 inside) ∙ from_list_push nat_cmp_total nat_cmp-IsAntisymmetric (take c.loop-number.number-index c.args.numbers.now) number)

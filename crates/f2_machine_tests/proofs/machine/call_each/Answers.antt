use Rattle.std.proofs.Common.{refl, ◌∙◌}
use Rattle.f2_machine_tests.proofs.ComeLemmas.{no_calls, call_and_then}
use Rattle.f2_machine_tests.proofs.machine.call_each.Goals as goal

pub returns-clause-came : goal.returns-clause-came
returns-clause-came g c from is =
    let begun = c.begin-begun.ensures in
    let step = c.go-step.ensures in
    let tick = c.tick-tick.ensures in
    call_and_then refl begun.counted (begun.step from is) (λ mid is_mid.
    call_and_then begun.granted step.counted (step.step mid is_mid) (λ late is_late.
    call_and_then (step.granted ∙ begun.granted) tick.counted (tick.step late is_late) (λ to is_to. no_calls is_to)))

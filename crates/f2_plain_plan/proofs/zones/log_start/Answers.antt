use Rattle.std.proofs.Common.{arith}
use Rattle.f2_plain_plan.proofs.ZoneRanges.{is_some_from}
use Rattle.f2_plain_plan.proofs.zones.log_start.Goals as goal

pub unwrap-requires : goal.unwrap-requires
unwrap-requires c =
    is_some_from c.least_missing.result (λ none.
    let full = c.least_missing.ensures.none.0 none in
    let few = c.in_ok-nodes.ensures.few in
    let count = c.in_ok-nodes.ensures.zone.count in
    let some = c.in_ok-nodes.ensures.geometry.zones in
    omega (arith, full, few, count, some))

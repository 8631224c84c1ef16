-- The rows and the files of the log of an open volume leave a number free.
use Rattle.std.proofs.Common.{ap, arith}
use Rattle.f2_model.specs.Step.{is_up}
use Rattle.f2_laws.proofs.FreeInos.{rows_take_nodes, free_ino_found}
use Rattle.f2_room_laws.specs.FreeNumbers.{OpenStatesAreWithinLimits, NumbersAreFree}
use Rattle.f2_room_laws.proofs.Fittings.{runs_fitting}
use Rattle.f2_room_laws.proofs.Roomy.{runs_roomy}

pub within_limits : OpenStatesAreWithinLimits
within_limits limits state numbers fitting roomy up =
    let live = fitting.proper.live in
    let whole = (fitting.marks.based (ap is_up up)).whole in
    let fits = roomy.writes up in
    record {
      numbers = numbers;
      live = omega (arith, rows_take_nodes state.live, live.nodes);
      base = omega (arith, rows_take_nodes state.base, whole.nodes);
      logged = omega (arith, roomy.logged, fits.nodes);
      root = (live.good.root.0, live.good.root.1);
    }

pub free_numbers : NumbersAreFree
free_numbers limits faults format version entries choices state room numbers run up =
    let fitting = runs_fitting limits faults format version entries choices state room run in
    let roomy = runs_roomy limits faults format version entries choices state room run in
    let found = free_ino_found limits state (within_limits limits state numbers fitting roomy up) in
    (found.0, found.1.free)

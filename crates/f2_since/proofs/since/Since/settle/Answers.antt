use Rattle.std.proofs.Common.{sym, subst}
use Rattle.std.specs.FinMap as map
use Rattle.f2_held.specs.Recovered.{IsTakenOf}
use Rattle.f2_since.specs.Counted.{Counted, Parted, IsSince, nothing_since}
use Rattle.f2_model.specs.Goes.{with_base}
use Rattle.f2_since.proofs.Settled.{settled}
use Rattle.f2_since.proofs.since.Since.settle.Goals as goal

pub returns-clause-since : goal.returns-clause-since
returns-clause-since c state format version mode taken rest =
    subst (λ (parted : Parted). IsSince (record nothing_since { held = c.self.inside.held; parted = parted }) (with_base state state.live format version mode)) (sym c.clear.ensures)
    (settled (record nothing_since { held = c.self.inside.held }) state format version mode (subst (λ (counted : Counted). IsTakenOf state.live (map.values state.live) counted.held) (sym c.self.view_is) taken) rest)

use Rattle.std.proofs.Common.{is_some, ap, ◌∙◌}
use Rattle.std.specs.FinMap as map
use Rattle.f2_files.proofs.Thawed.{frozen_same}
use Rattle.f2_files.proofs.pairs.is_frozen.Goals as goal

pub returns : goal.returns
returns c = c.is_some.ensures ∙ ap (λ o. is_some o) c.freezing.ensures ∙ frozen_same c.args.ino (map.entries c.args.flights.now)

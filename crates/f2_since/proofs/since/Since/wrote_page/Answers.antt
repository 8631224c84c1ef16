use Rattle.std.proofs.Common.{◌+◌, ap, sym, subst}
use Rattle.f2_since.specs.Counted.{IsSince}
use Rattle.f2_since.proofs.since.Since.wrote_page.Goals as goal

pub returns-clause-since : goal.returns-clause-since
returns-clause-since c state ino number since =
    let is = subst (λ counted. IsSince counted state) (sym c.self.view_is) since in
    record { held = is.held; nodes = is.nodes; pages = ap (λ n. n + 1) is.pages; parted = is.parted; only = is.only }

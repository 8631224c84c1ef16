use Rattle.std.proofs.Common.{◌+◌, ap, sym, subst}
use Rattle.f2_since.specs.Counted.{IsSince}
use Rattle.f2_since.proofs.Fsyncs.{nodes_drawn}
use Rattle.f2_since.proofs.since.Since.wrote_node.Goals as goal

pub returns-clause-since : goal.returns-clause-since
returns-clause-since c state ino number since =
    let is = subst (λ counted. IsSince counted state) (sym c.self.view_is) since in
    record { held = is.held; nodes = ap (λ n. n + 1) is.nodes; pages = is.pages; parted = is.parted; only = is.only }

pub returns-clause-drawn : goal.returns-clause-drawn
returns-clause-drawn c state seat ino offset since runs fsyncs =
    nodes_drawn _ state seat ino offset (subst (λ counted. IsSince counted state) (sym c.self.view_is) since) runs fsyncs

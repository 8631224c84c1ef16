use Rattle.std.proofs.Common.{sym, subst}
use Rattle.f2_since.specs.Counted.{IsSince}
use Rattle.f2_since.proofs.Fsyncs.{marks_drawn}
use Rattle.f2_since.proofs.since.Since.marked.Goals as goal

pub returns-clause-since : goal.returns-clause-since
returns-clause-since c state seat ino row since runs fsyncs there =
    marks_drawn _ state seat ino row (subst (λ counted. IsSince counted state) (sym c.self.view_is) since) runs fsyncs there

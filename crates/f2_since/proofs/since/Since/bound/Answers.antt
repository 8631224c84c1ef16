use Rattle.std.proofs.Common.{sym, subst}
use Rattle.f2_since.specs.Counted.{Counted, Parted, IsSince}
use Rattle.f2_since.proofs.Parting.{joins_keep}
use Rattle.f2_since.proofs.since.Since.bound.Goals as goal

pub returns-clause-since : goal.returns-clause-since
returns-clause-since c state after since runs joins =
    let inside : Counted = record { held = c.self.inside.held; parted = c.self.inside.parted; nodes = c.self.inside.nodes; pages = c.self.inside.pages } in
    subst (λ (parted : Parted). IsSince (record inside { parted = parted }) after) (sym c.rejoin.ensures)
    (joins_keep inside state after c.args.ino c.args.directory c.args.name.now (subst (λ (counted : Counted). IsSince counted state) (sym c.self.view_is) since) runs joins)

use Rattle.std.proofs.Common.{sym, subst}
use Rattle.f2_files.proofs.Results.{ok_map}
use Rattle.f2_since.specs.Counted.{Counted, Parted, IsSince}
use Rattle.f2_since.proofs.Parting.{parts_keep}
use Rattle.f2_since.proofs.since.Since.unbound.Goals as goal

pub returns-clause-since : goal.returns-clause-since
returns-clause-since c = ok_map c.put.result (λ put state after since runs parts.
    let inside : Counted = record { held = c.self.inside.held; parted = c.self.inside.parted; nodes = c.self.inside.nodes; pages = c.self.inside.pages } in
    subst (λ (parted : Parted). IsSince (record inside { parted = parted }) after) (sym put)
    (parts_keep inside state after c.args.ino c.args.directory c.args.name (subst (λ (counted : Counted). IsSince counted state) (sym c.self.view_is) since) runs c.args.kind parts)) c.put.ensures.ok

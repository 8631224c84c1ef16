use Rattle.std.proofs.Common.{◌∙◌, sym, ap, subst}
use Rattle.std.specs.FinMap as map
use Rattle.f2_files.proofs.Results.{ok_map}
use Rattle.f2_since.specs.Counted.{Counted, IsSince}
use Rattle.f2_since.proofs.Begun.{begun}
use Rattle.f2_since.proofs.since.Since.begin.Goals as goal

pub returns-clause-since : goal.returns-clause-since
returns-clause-since c = ok_map c.add.result (λ added files state seat progress known is runs at kind free.
    begun _ files state c.args.shape.now seat progress c.in_ok-size.size c.add.new.held known (subst (λ (since : Counted). IsSince since state) (sym c.self.view_is) is) runs at kind free
    (ap (λ (since : Counted). map.contains_key since.held.directories c.args.shape.now.parent) c.self.view_is ∙ c.requires.open)
    c.in_ok-size.ensures.nodes c.in_ok-size.ensures.pages added) c.add.ensures.ok

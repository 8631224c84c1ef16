use Rattle.std.proofs.Common.{◌∙◌, not, sym, ap}
use Rattle.std.specs.FinMap as map
use Rattle.f2_since.specs.Counted.{Counted}
use Rattle.f2_since.proofs.Telling.{parent_held}
use Rattle.f2_since.proofs.since.Since.is_parent_new.Goals as goal

pub returns-clause-exact : goal.returns-clause-exact
returns-clause-exact c state row is runs there at =
    ap not (
    c.has_dir.ensures
    ∙ ap (λ (since : Counted). map.contains_key since.held.directories c.args.parent) c.self.view_is
    ∙ ap (map.contains_key c.args.self.now.held.directories) (sym at)
    ∙ parent_held c.args.self.now state row is runs there)

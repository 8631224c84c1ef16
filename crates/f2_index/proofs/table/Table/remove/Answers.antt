use Rattle.std.proofs.Common.{ap, ◌∙◌}
use Rattle.std.specs.FinMap as map
use Rattle.f2_index.proofs.Tables.{view-remove}
use Rattle.f2_index.proofs.table.Table.remove.Goals as goal

pub returns : goal.returns
returns g c =
    view-remove c.self.inside.entries.entries c.remove.new.self.entries c.args.key c.remove.ensures.updates.0
    ∙ ap (λ m. map.remove m c.args.key) c.self.view_is

use Rattle.std.proofs.Common.{ap, sym, ◌∙◌}
use Rattle.std.specs.FinMap as map
use Rattle.f2_index.proofs.Tables.{get-view}
use Rattle.f2_index.proofs.table.Table.get.Goals as goal

pub returns : goal.returns
returns g c =
    c.copied.ensures ∙ c.get.ensures.value ∙ sym (get-view c.self.inside.entries.entries c.args.key) ∙ ap (λ m. map.get m c.args.key) c.self.view_is

use Rattle.std.proofs.Common.{ap, sym, ◌∙◌}
use Rattle.std.specs.FinMap as map
use Rattle.f2_index.proofs.Sorted.{len-view}
use Rattle.f2_index.proofs.table.Table.len.Goals as goal

pub returns-clause-len : goal.returns-clause-len
returns-clause-len g c = c.len.ensures.len ∙ sym (len-view c.self.inside.entries.entries c.len.ensures.ordered) ∙ ap (λ m. map.len m) c.self.view_is

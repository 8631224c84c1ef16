use Rattle.std.proofs.Common.{ap, sym, ◌∙◌}
use Rattle.std.specs.FinMap as map
use Rattle.f2_index.proofs.Tables.{get-view}
use Rattle.f2_blocks.proofs.nids.Nids.get.Goals as goal

pub returns : goal.returns
returns c =
    c.copied.ensures ∙ c.get.ensures.value ∙ sym (get-view c.self.inside.nids.entries c.args.offset) ∙ ap (λ m. map.get m c.args.offset) c.self.view_is

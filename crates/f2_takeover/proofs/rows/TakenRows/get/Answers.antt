use Rattle.std.proofs.Common.{◌∙◌}
use Rattle.f2_model.proofs.MapViews.{lookup-seen}
use Rattle.f2_takeover.proofs.rows.TakenRows.get.Goals as goal

pub returns : goal.returns
returns c = c.get.ensures.value ∙ lookup-seen _ _ c.self.view_is c.args.ino

use Rattle.f2_model.proofs.MapViews.{seen-insert}
use Rattle.f2_found.proofs.names.FoundNames.put.Goals as goal

pub returns-clause-ok : goal.returns-clause-ok
returns-clause-ok c = seen-insert _ _ c.self.view_is _ c.args.directory c.args.names c.in_ok-insert.ensures.updates.0

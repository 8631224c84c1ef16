use Rattle.std.proofs.Common.{ap, ◌∙◌}
use Rattle.std.specs.FinMap as map
use Rattle.f2_model.proofs.MapViews.{seen-insert}
use Rattle.f2_files.proofs.directories.Directories.add.Goals as goal

pub returns-clause-ok : goal.returns-clause-ok
returns-clause-ok c =
    seen-insert _ _ c.self.view_is _ c.args.directory c.new.result c.in_ok-insert.ensures.updates.0
    ∙ ap (map.insert c.args.self.now c.args.directory) c.new.ensures

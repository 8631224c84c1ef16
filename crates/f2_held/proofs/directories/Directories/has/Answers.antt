use Rattle.std.proofs.Common.{◌∙◌, ap}
use Rattle.std.specs.Prelude.{is_some}
use Rattle.f2_model.proofs.MapViews.{lookup-seen}
use Rattle.f2_held.proofs.directories.Directories.has.Goals as goal

pub returns : goal.returns
returns c = c.contains_key.ensures ∙ ap is_some (lookup-seen _ _ c.self.view_is c.args.ino)

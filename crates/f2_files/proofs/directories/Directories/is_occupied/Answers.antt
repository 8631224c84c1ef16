use Rattle.std.proofs.Common.{not, ap, ◌∙◌}
use Rattle.f2_model.proofs.MapViews.{lookup-seen}
use Rattle.f2_files.specs.Led.{has_names}
use Rattle.f2_files.proofs.directories.Directories.is_occupied.Goals as goal

pub returns-in-Some : goal.returns-in-Some
returns-in-Some c = ap not c.is_empty.ensures ∙ ap has_names (c.in-Some.ensures.value ∙ lookup-seen _ _ c.self.view_is c.args.directory)

pub returns-in-None : goal.returns-in-None
returns-in-None c = ap has_names (c.in-None.ensures.value ∙ lookup-seen _ _ c.self.view_is c.args.directory)

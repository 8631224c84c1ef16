use Rattle.std.proofs.Common.{◌∙◌, ap}
use Rattle.f2_model.proofs.MapViews.{lookup-seen}
use Rattle.f2_files.specs.Led.{among}
use Rattle.f2_files.proofs.directories.Directories.get.Goals as goal

pub returns-in_err-get : goal.returns-in_err-get
returns-in_err-get c = c.from_residual.ensures ∙ ap (among c.args.name.now) (c.in_err-get.ensures.value ∙ lookup-seen _ _ c.self.view_is c.args.directory)

pub returns : goal.returns
returns c = c.get-2.ensures ∙ ap (among c.args.name.now) (c.in_ok-get.ensures.value ∙ lookup-seen _ _ c.self.view_is c.args.directory)

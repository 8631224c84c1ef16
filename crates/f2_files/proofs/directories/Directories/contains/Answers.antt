use Rattle.std.proofs.Common.{is_some, ap, ◌∙◌}
use Rattle.f2_model.proofs.MapViews.{lookup-seen}
use Rattle.f2_files.proofs.Results.{there_copied}
use Rattle.f2_files.proofs.directories.Directories.contains.Goals as goal

pub returns : goal.returns
returns c = c.is_some.ensures ∙ there_copied c.get.result ∙ ap (λ o. is_some o) (c.get.ensures.value ∙ lookup-seen _ _ c.self.view_is c.args.directory)

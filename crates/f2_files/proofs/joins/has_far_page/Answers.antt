use Rattle.std.proofs.Common.{◌∙◌}
use Rattle.f2_format.specs.Offsets.{page_limit}
use Rattle.f2_files.proofs.Nearest.{first_any}
use Rattle.f2_files.proofs.joins.has_far_page.Goals as goal

pub returns : goal.returns
returns c = c.is_some.ensures ∙ first_any c.args.pages.now page_limit c.first_from.result c.first_from.ensures

use Rattle.std.proofs.Common.{◌∙◌}
use Rattle.f2_plain_check.specs.Parts.{IsGoodPage}
use Rattle.f2_plain_check.proofs.Keys.{by_keys}
use Rattle.f2_plain_check.proofs.pages.has_good_file.Goals as goal

pub returns : goal.returns
returns c = by_keys c.args.row.now.pages (IsGoodPage c.args.row.now.size) c.are_good_pages.result c.as_slice.result.now (c.as_slice.ensures ∙ c.in_ok-numbers.ensures) c.are_good_pages.ensures

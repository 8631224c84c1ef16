use Rattle.std.proofs.Common.{◌<◌, ◌∙◌}
use Rattle.f2_format.specs.Offsets.{inode_pages}
use Rattle.f2_plain_check.proofs.Keys.{by_keys_alone}
use Rattle.f2_plain_check.proofs.pages.has_short_file.Goals as goal

pub returns : goal.returns
returns c = by_keys_alone c.args.row.now.pages (λ page. page < inode_pages) c.are_short.result c.as_slice.result.now (c.as_slice.ensures ∙ c.in_ok-numbers.ensures) c.are_short.ensures

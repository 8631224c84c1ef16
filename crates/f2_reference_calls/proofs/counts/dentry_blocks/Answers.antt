use Rattle.std.proofs.Common.{ap, ◌∙◌}
use Rattle.f2_format.specs.Packing.{blocks_of_names}
use Rattle.f2_reference_calls.specs.Given.{rows_at}
use Rattle.f2_reference_calls.proofs.Listed.{listed-rising}
use Rattle.f2_reference_calls.proofs.counts.dentry_blocks.Goals as goal

pub returns : goal.returns
returns c = c.blocks_of_names.ensures ∙ ap blocks_of_names (c.as_slice.ensures ∙ c.in_ok-names.ensures ∙ listed-rising (rows_at c.args.rows.now) c.args.directory)

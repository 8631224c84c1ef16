use Rattle.std.proofs.Common.{ap, sym, ◌∙◌}
use Rattle.std.specs.List.{range_with_len}
use Rattle.f2_model.specs.Count.{page_numbers}
use Rattle.f2_reference_calls.specs.Given.{rows_at}
use Rattle.f2_reference_calls.proofs.Results.{ok_after}
use Rattle.f2_reference_calls.proofs.counts.page_numbers.Goals as goal

pub returns-in_ok-dentry_blocks-in-Directory : goal.returns-in_ok-dentry_blocks-in-Directory
returns-in_ok-dentry_blocks-in-Directory c =
    ok_after c.numbers_to.result (λ numbers is.
    is ∙ ap (range_with_len 0) (c.in_ok-dentry_blocks-in-Directory.ensures) ∙ ap (λ kind. page_numbers kind (rows_at c.args.rows.now) c.args.row.now) (sym c.in-Directory.is)) c.numbers_to.ensures

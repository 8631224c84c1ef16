use Rattle.std.proofs.Common.{◌∙◌}
use Rattle.f2_reference_calls.proofs.Found.{found_key}
use Rattle.f2_reference_calls.proofs.touches.number_of.Goals as goal

pub returns : goal.returns
returns c = c.find_number.ensures ∙ found_key c.args.pages.now c.as_slice.result.now c.args.page (c.as_slice.ensures ∙ c.in_ok-numbers.ensures)

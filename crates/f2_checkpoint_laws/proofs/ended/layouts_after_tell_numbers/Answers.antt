use Rattle.f2_checkpoint_laws.proofs.WholeAfter.{layouts_after_tell_numbers}
use Rattle.f2_checkpoint_laws.proofs.ended.layouts_after_tell_numbers.Goals as goal

pub returns : goal.returns
returns c = layouts_after_tell_numbers

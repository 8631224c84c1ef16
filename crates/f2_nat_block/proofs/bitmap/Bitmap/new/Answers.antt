use Rattle.std.proofs.Common.{refl}
use Rattle.f2_format.specs.Bytes.{zeros}
use Rattle.f2_nat_block.proofs.BitmapLemmas.{is_second_copy-zeros}
use Rattle.f2_nat_block.proofs.bitmap.Bitmap.new.Goals as goal

pub returns-clause-value : goal.returns-clause-value
unfolding zeros
returns-clause-value c = refl

pub returns-clause-first_copies : goal.returns-clause-first_copies
returns-clause-first_copies c block = rw (returns-clause-value c) (is_second_copy-zeros 128 block)

use Rattle.std.proofs.Common.{arith}
use Rattle.f2_nat_block.proofs.BitmapLemmas.{mask_is, is_second_copy-with_other_copy_same, is_second_copy-with_other_copy_other}
use Rattle.f2_nat_block.proofs.bitmap.Bitmap.flip.Goals as goal

pub returns-clause-other_copy : goal.returns-clause-other_copy
returns-clause-other_copy c = rw (mask_is c.args.block, ← c.self.view_is) (is_second_copy-with_other_copy_same c.self.inside.bytes c.args.block (omega arith))

pub returns-clause-others : goal.returns-clause-others
returns-clause-others c other apart = rw (mask_is c.args.block, ← c.self.view_is) (is_second_copy-with_other_copy_other c.self.inside.bytes c.args.block other (omega arith) apart)

use Rattle.f2_plain_check.proofs.Zeros.{empty_by_len}
use Rattle.f2_plain_check.proofs.pages.is_empty.Goals as goal

pub returns : goal.returns
returns c = empty_by_len c.args.pages.now c.len.result c.len.ensures.len

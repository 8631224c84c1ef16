use Rattle.std.proofs.Common.{◌*◌, ◌-◌, arith}
use Rattle.f2_model.specs.Content.{PAGE}
use Rattle.f2_plain_check.proofs.Zeros.{zeros_past}
use Rattle.f2_plain_check.proofs.pages.ends_in_zeros.Goals as goal

pub returns : goal.returns
returns c = zeros_past c.args.content.now (c.args.page * PAGE) c.args.size c.min-used.result (omega arith) (omega arith) c.are_zeros.result (PAGE - c.min-used.result) (omega arith) c.are_zeros.ensures

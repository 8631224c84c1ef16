use Rattle.std.proofs.Common.{◌∙◌, ap, sym}
use Rattle.std.specs.FinSet as set
use Rattle.f2_call_size.proofs.Listed.{len_sorted}
use Rattle.f2_call_size.proofs.numbers.Numbers.len.Goals as goal

pub returns-clause-len : goal.returns-clause-len
returns-clause-len c = c.len.ensures.len ∙ sym (len_sorted c.self.inside.numbers.keys c.len.ensures.ordered) ∙ ap set.len c.self.view_is

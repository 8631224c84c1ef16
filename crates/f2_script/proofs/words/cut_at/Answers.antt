use Rattle.std.proofs.Common.{rules}
use Rattle.f2_script.proofs.CutLemmas.{cut_none, cut_found}
use Rattle.f2_script.proofs.words.cut_at.Goals as goal

pub returns-in_err-at : goal.returns-in_err-at
returns-in_err-at c = rw c.from_residual.ensures (cut_none c.args.byte c.args.text.now (search rules))

pub returns : goal.returns
returns c = cut_found c.args.byte c.args.text.now c.in_ok-at.at (search rules)

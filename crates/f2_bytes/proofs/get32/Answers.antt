use Rattle.std.proofs.Common.{◌-◌, ◌∙◌, arith}
use Rattle.f2_format.proofs.Slices.{number_at-rest}
use Rattle.f2_bytes.proofs.get32.Goals as goal

pub returns : goal.returns
returns c = c.read_u32.ensures ∙ number_at-rest 4 c.args.at (4096 - c.args.at) c.args.b.now (omega arith)

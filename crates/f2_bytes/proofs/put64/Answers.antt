use Rattle.std.proofs.Common.{◌-◌, ◌∙◌, ap, arith}
use Rattle.f2_format.specs.Bytes.{number_at}
use Rattle.f2_format.proofs.Slices.{put_mid-number}
use Rattle.f2_format.proofs.BytesLemmas.{number_at-with_bytes_same}
use Rattle.f2_bytes.proofs.put64.Goals as goal

pub returns-clause-written : goal.returns-clause-written
returns-clause-written c =
    put_mid-number 8 c.args.v c.args.at (4096 - c.args.at) c.args.b.now _ (omega arith) (omega arith) c.write_u64.ensures

pub returns-clause-reads_back : goal.returns-clause-reads_back
returns-clause-reads_back c =
    ap (λ b. number_at 8 b c.args.at) (returns-clause-written c)
    ∙ number_at-with_bytes_same 8 c.args.b.now c.args.at c.args.v (omega arith) (omega arith)

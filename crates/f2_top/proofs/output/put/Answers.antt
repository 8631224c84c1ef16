use Rattle.std.proofs.Common.{arith}
use Rattle.f2_top.proofs.PutLemmas.{PutSoFar-next, PutSoFar-cut}
use Rattle.f2_top.proofs.output.put.Goals as goal

pub returns-in-Err-clause-bytes : goal.returns-in-Err-clause-bytes
returns-in-Err-clause-bytes g c =
    let e = c.in-Err.ensures.bytes in
    PutSoFar-cut _ _ _ _ _ e.0 c.loop-left.invariant.so_far e.1

pub loop-left-preserved : goal.loop-left-preserved
loop-left-preserved g c = record {
  so_far = PutSoFar-next _ _ _ _ _ _ _ c.split_at.ensures.back c.loop-left.invariant.so_far c.in-Ok.ensures.bytes;
  later = omega (arith, c.loop-left.invariant.later, c.in-Ok.ensures.cause.later);
}

use Rattle.std.proofs.KnownBytes.{Consumes-trans}
use Rattle.f2_top.proofs.input.read_script.Goals as goal

pub returns-then-is_err-clause-err : goal.returns-then-is_err-clause-err
returns-then-is_err-clause-err g c = (_, Consumes-trans _ _ _ _ _ c.loop-page.invariant.taken c.in-Ok.ensures.bytes.0)

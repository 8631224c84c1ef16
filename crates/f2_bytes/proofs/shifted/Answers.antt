use Rattle.f2_bytes.proofs.SealLemmas.{shifted_of-odd, shifted_of-even}
use Rattle.f2_bytes.proofs.shifted.Goals as goal

pub returns-then-register-eq1 : goal.returns-then-register-eq1
returns-then-register-eq1 c = shifted_of-odd c.args.register c.if-register-eq1.true

pub returns-else-register-eq1 : goal.returns-else-register-eq1
returns-else-register-eq1 c = shifted_of-even c.args.register c.if-register-eq1.false

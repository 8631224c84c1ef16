use Rattle.f2_change_laws.proofs.Forgotten.{numbers_may_be_forgotten}
use Rattle.f2_change_laws.proofs.forgetting.numbers_may_be_forgotten.Goals as goal

-- src/forgetting.rt:6:1
pub returns : goal.returns
returns c = numbers_may_be_forgotten

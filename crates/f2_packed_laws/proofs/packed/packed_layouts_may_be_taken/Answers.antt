use Rattle.f2_packed_laws.proofs.May.{may_be_taken}
use Rattle.f2_packed_laws.proofs.packed.packed_layouts_may_be_taken.Goals as goal

pub returns : goal.returns
returns c = may_be_taken

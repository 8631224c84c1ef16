use Rattle.f2_packed_laws.proofs.Laid.{exist}
use Rattle.f2_packed_laws.proofs.packed.packed_layouts_exist.Goals as goal

pub returns : goal.returns
returns c = exist

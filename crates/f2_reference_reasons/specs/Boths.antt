-- A number for each zone, as the abstract machine has it.
use Rattle.f2_model.specs.Fallback as machine
use Rattle.f2_reference_reasons.specs.declared.boths.Both.{Both}

abbrev pub both_of : Both → machine.Both
both_of both = record { nodes = both.nodes; pages = both.pages }

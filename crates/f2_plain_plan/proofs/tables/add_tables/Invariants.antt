use Rattle.f2_plain_plan.specs.Tables.{AddsTables}
use Rattle.f2_plain_plan.proofs.tables.add_tables.Given as goal

abbrev pub invariant-loop-block : goal.invariant-loop-block
invariant-loop-block l = AddsTables l.geometry l.second l.places l.block l.initial.blocks.items l.blocks.items

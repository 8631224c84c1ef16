use Rattle.f2_plain_read.specs.Points.{HasEntriesMore}
use Rattle.f2_plain_read.proofs.table.add_entries.Given as goal

abbrev pub invariant-loop-place : goal.invariant-loop-place
invariant-loop-place l = HasEntriesMore l.block l.initial.table.items l.table.items l.place

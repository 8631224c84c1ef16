use Rattle.f2_recover.specs.Tables.{HasEntriesMore}
use Rattle.f2_recover.proofs.table.add_entries.Given as goal

abbrev pub invariant-loop-place : goal.invariant-loop-place
invariant-loop-place l = HasEntriesMore l.journal l.block l.initial.table.items l.table.items l.place

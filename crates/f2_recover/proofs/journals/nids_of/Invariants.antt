use Rattle.std.proofs.Common.{◌≡◌, map}
use Rattle.std.specs.List.{range_with_len}
use Rattle.f2_format.specs.Journal.{journal_entry}
use Rattle.f2_recover.proofs.journals.nids_of.Given as goal

abbrev pub invariant-loop-place : goal.invariant-loop-place
invariant-loop-place l = l.nids.items ≡ map (λ place. (journal_entry l.summary place).0) (range_with_len 0 l.place)

use Rattle.std.proofs.Common.{◌≡◌, length, map}
use Rattle.std.specs.List.{range_with_len}
use Rattle.f2_format.specs.Journal.{journal_entry}
use Rattle.f2_nat_journal.specs.Item.{journal_list}
use Rattle.f2_nat_journal.proofs.Journal.read.Given as goal

abbrev pub invariant-loop-place : goal.invariant-loop-place
invariant-loop-place l =
    (length l.items.items ≡ l.place) × (journal_list l.items.items ≡ map (journal_entry l.b) (range_with_len 0 l.place))

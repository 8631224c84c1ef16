use Rattle.std.proofs.Common.{◌≡◌, ◌<◌, ℕ, take, get_or}
use Rattle.std.specs.List.{flat_map}
use Rattle.f2_format.specs.Bytes.{with_bytes}
use Rattle.f2_format.specs.Journal.{journal_entry_bytes}
use Rattle.f2_nat_journal.specs.Item.{pair_of, journal_list}
use Rattle.f2_nat_journal.specs.Round.{IsEntry}
use Rattle.f2_nat_journal.proofs.Journal.write.Given as goal

abbrev pub invariant-loop-place : goal.invariant-loop-place
invariant-loop-place l =
    (l.b ≡ with_bytes l.initial.b 3586 (flat_map journal_entry_bytes (journal_list (take l.place l.items))))
    × ((k : ℕ) → k < l.place → IsEntry (pair_of (get_or l.items k (record { nid = 0; entry = record { ino = 0; addr = 0 } }))))

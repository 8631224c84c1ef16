-- The journal that a summary has is the journal that was written into it.
use Rattle.std.specs.Prelude.{◌≡◌, ◌≤◌, ◌<◌, ◌^◌, ℕ, length, All}
use Rattle.f2_format.specs.Nat.{NodePlace}
use Rattle.f2_format.specs.Journal.{JournalList, MOST_JOURNAL_ENTRIES, journal_of, summary_block}

-- nid, ino and address fit their four bytes
abbrev pub IsEntry : ℕ × NodePlace → Type 0
IsEntry entry = (entry.0 < 2 ^ 32) × (entry.1.0 < 2 ^ 32) × (entry.1.1 < 2 ^ 32)

-- a journal that a summary has place for
pub record IsJournal (journal : JournalList) : Type 0 where
  pub count : length journal ≤ MOST_JOURNAL_ENTRIES
  pub entries : All IsEntry journal

-- a journal that was written is read
abbrev pub WrittenJournalReadsBack : Type 0
WrittenJournalReadsBack = (journal : JournalList) → IsJournal journal → journal_of (summary_block journal) ≡ journal

-- The summary of a checkpoint pack with its journal of node address table entries: `struct f2fs_summary_block`,
-- `struct f2fs_journal` and `struct nat_journal_entry` of f2fs_fs.h. The summary entries and the footer are
-- written as 0 and not looked at. An entry of the journal goes before the node address table.
use Rattle.std.specs.Prelude.{ℕ, ◌+◌, ◌*◌, ◌==◌, if◌then◌else◌, List, [], ◌∷◌, ◌++◌, map, length, Option, Some, None}
use Rattle.std.specs.List.{flat_map, range_with_len}
use Rattle.f2_format.specs.Bytes.{BLOCK_BYTES, number_at, number_bytes, with_fields, zeros}
use Rattle.f2_format.specs.Nat.{NodePlace, nat_entry_at, nat_entry_bytes}

-- where the journal's count of entries stands (f2fs_journal.n_nats, after ENTRIES_IN_SUM summaries of 7 bytes)
abbrev pub JOURNAL_COUNT : ℕ
JOURNAL_COUNT = 3584

-- where the journal's entries begin (nat_journal.entries)
abbrev pub JOURNAL_ENTRIES : ℕ
JOURNAL_ENTRIES = 3586

-- the bytes of an entry: nid (4), then an entry of the node address table (9)
abbrev pub JOURNAL_ENTRY_BYTES : ℕ
JOURNAL_ENTRY_BYTES = 13

-- the most entries of the journal (NAT_JOURNAL_ENTRIES)
abbrev pub MOST_JOURNAL_ENTRIES : ℕ
MOST_JOURNAL_ENTRIES = 38

-- nids with what the journal says of them, in the order in which they stand
abbrev pub JournalList : Type 0
JournalList = List (ℕ × NodePlace)

-- the entries that the summary says it has
abbrev pub journal_count : List ℕ → ℕ
journal_count block = number_at 2 block JOURNAL_COUNT

-- where the entry of this place begins
abbrev pub journal_entry_start : ℕ → ℕ
journal_entry_start place = JOURNAL_ENTRIES + JOURNAL_ENTRY_BYTES * place

-- the entry of this place
abbrev pub journal_entry : List ℕ → ℕ → ℕ × NodePlace
journal_entry block place =
    (number_at 4 block (journal_entry_start place), nat_entry_at block (journal_entry_start place + 4))

-- the journal of a summary whose count is right
abbrev pub journal_of : List ℕ → JournalList
journal_of block = map (journal_entry block) (range_with_len 0 (journal_count block))

-- the bytes of an entry
abbrev pub journal_entry_bytes : ℕ × NodePlace → List ℕ
journal_entry_bytes entry = number_bytes 4 entry.0 ++ nat_entry_bytes entry.1

-- the summary with this journal
abbrev pub summary_block : JournalList → List ℕ
summary_block journal =
    with_fields (zeros BLOCK_BYTES)
    ((JOURNAL_COUNT, number_bytes 2 (length journal))
    ∷ (JOURNAL_ENTRIES, flat_map journal_entry_bytes journal)
    ∷ [])

-- what the journal says of a nid: its first entry of it
abbrev pub journal_find : JournalList → ℕ → Option NodePlace
journal_find [] nid = None
journal_find (entry ∷ rest) nid = if entry.0 == nid then Some entry.1 else journal_find rest nid

-- the journal once it says this of a nid: in the place of its first entry of it, else at its end
abbrev pub journal_with : JournalList → ℕ → NodePlace → JournalList
journal_with [] nid place = (nid, place) ∷ []
journal_with (entry ∷ rest) nid place =
    if entry.0 == nid then (nid, place) ∷ rest else entry ∷ journal_with rest nid place

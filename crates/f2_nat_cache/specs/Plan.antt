-- What a checkpoint writes of the node address table (f2fs_flush_nat_entries of node.c): all that changed into the
-- journal, where that has room for it, else each block with a change.
use Rattle.std.specs.Prelude.{◌≡◌, ℕ, ◌+◌, ◌<◌, ◌==◌, Bool, false, IsTrue, Option, Some, ◌&&◌, ◌||◌, not, nat_lt, nat_le, if◌then◌else◌, List, [], ◌++◌, map as list_map, filter, fold, length}
use Rattle.std.specs.List.{count_by, list_any, range_with_len}
use Rattle.std.specs.Option.{is_none, option_map, unwrap_or}
use Rattle.std.specs.FinMap as map
use Rattle.f2_disk.specs.Contents.{Contents}
use Rattle.f2_format.specs.Nat.{NodePlace, nat_block_of, with_other_copy}
use Rattle.f2_format.specs.Journal.{JournalList, MOST_JOURNAL_ENTRIES, journal_find}
use Rattle.f2_nat_block.specs.NatEntry.{place_of}
use Rattle.f2_nat_cache.specs.declared.cache.CpNat.{CpNat}
use Rattle.f2_nat_cache.specs.Entries.{Entries, count_in, nids_of}
use Rattle.f2_nat_cache.specs.Table.{Table, copy_in, held_block, with_pending}

-- a nid that a journal has no entry of
abbrev pub is_new : JournalList → ℕ → Bool
is_new journal nid = is_none (journal_find journal nid)

-- what is pending of the nid of a journal's entry
abbrev pub latest_of : Entries → ℕ × NodePlace → NodePlace
latest_of dirty entry = unwrap_or (option_map place_of (map.get dirty entry.0)) entry.1

-- entries as a journal has them, by rising nid
abbrev pub listed : Entries → JournalList
listed entries = list_map (λ e. (e.0, place_of e.1)) (map.entries entries)

-- the dirty entries of new nids
abbrev pub new_entries : Entries → JournalList → JournalList
new_entries dirty journal = listed (map.retain_keys dirty (is_new journal))

-- those of the nids below n
abbrev pub new_below : Entries → JournalList → ℕ → JournalList
new_below dirty journal n = listed (map.retain_keys dirty (λ nid. is_new journal nid && nat_lt nid n))

-- a journal with what is pending of its nids
abbrev pub renewed : Entries → JournalList → JournalList
renewed dirty journal = list_map (λ entry. (entry.0, latest_of dirty entry)) journal

-- THE JOURNAL WITH ALL CHANGES: its entries renewed, each in its place, and then the new ones by rising nid
abbrev pub merged : Entries → JournalList → JournalList
merged dirty journal = renewed dirty journal ++ new_entries dirty journal

-- the same with the new ones below n alone
abbrev pub merged_below : Entries → JournalList → ℕ → JournalList
merged_below dirty journal n = renewed dirty journal ++ new_below dirty journal n

-- each block that has dirty entries, and how many, by rising block
abbrev pub dirty_sets : Table → List (ℕ × ℕ)
dirty_sets table = filter (λ set. nat_lt 0 set.1) (list_map (λ block. (block, count_in table.dirty block)) (range_with_len 0 table.geom.nat))

-- the entries of a journal with all changes: the dirty ones, and those of the journal's other nids
abbrev pub needed : Table → ℕ
needed table = map.len table.dirty + count_by (λ nid. not (map.contains_key table.dirty nid)) (nids_of table.journal)

-- they have room in the journal
abbrev pub fits_journal : Table → Bool
fits_journal table = nat_le (needed table) MOST_JOURNAL_ENTRIES

-- a block has a pending entry
abbrev pub is_pending_block : Table → ℕ → Bool
is_pending_block table block = nat_lt 0 (count_in table.dirty block) || list_any (λ nid. nat_block_of nid == block) (nids_of table.journal)

-- the blocks with a pending entry, rising
abbrev pub pending_blocks : Table → List ℕ
pending_blocks table = filter (is_pending_block table) (range_with_len 0 table.geom.nat)

-- how many entries go into the journal, and how many blocks are written
abbrev pub plan_of : Table → CpNat
plan_of table = if fits_journal table then record { journal = needed table; blocks = 0 } else record { journal = 0; blocks = length (pending_blocks table) }

-- a bitmap with the bit of each of these blocks flipped
abbrev pub flipped : List ℕ → List ℕ → List ℕ
flipped bitmap blocks = fold with_other_copy bitmap blocks

-- the bitmap of the checkpoint: the other copies of the blocks that it writes count
abbrev pub bitmap_after : Table → List ℕ
bitmap_after table = if fits_journal table then table.bitmap else flipped table.bitmap (pending_blocks table)

-- the journal of the checkpoint: that with all changes, or an empty one where blocks are written
abbrev pub journal_after : Table → JournalList
journal_after table = if fits_journal table then merged table.dirty table.journal else []

-- a checkpoint writes the block: it has a pending entry, and not all that changed has room in the journal
abbrev pub is_written : Table → ℕ → Bool
is_written table block = not (fits_journal table) && is_pending_block table block

-- what is held of a block, with its pending entries
abbrev pub held_with_pending : Table → ℕ → Option (List ℕ)
held_with_pending table block = option_map (with_pending table.dirty table.journal block) (held_block table block)

-- what is held of a block once all blocks with a pending entry have theirs
abbrev pub held_then : Table → ℕ → Option (List ℕ)
held_then table block = if is_pending_block table block then held_with_pending table block else held_block table block

-- what is held after the checkpoint, block by block: of the blocks that it writes what it wrote
abbrev pub held_after : Table → List (Option (List ℕ))
held_after table = if fits_journal table then table.held else list_map (held_then table) (range_with_len 0 table.geom.nat)

-- THE TABLE AFTER THE CHECKPOINT: nothing is dirty, and bitmap, journal and held blocks are what it wrote
abbrev pub checkpointed : Table → Table
checkpointed table = record table { bitmap = bitmap_after table; journal = journal_after table; dirty = map.empty; held = held_after table }

-- What the checkpoint does to the contents of a disk: what is held of each block that it writes stands, with the block's
-- pending entries, in the copy that counts from then on, and of each other block the copy that counts is as before.
pub record HasWritten (table : Table) (before after : Contents) : Type 0 where
  pub written : (block : ℕ) (content : List ℕ) → block < table.geom.nat → IsTrue (is_written table block) → held_block table block ≡ Some content
      → copy_in (checkpointed table) after block ≡ with_pending table.dirty table.journal block content
  pub others : (block : ℕ) → block < table.geom.nat → is_written table block ≡ false → copy_in table after block ≡ copy_in table before block

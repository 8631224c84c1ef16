-- Entries of the node address table by their nids: those that are dirty, and those that are kept from the disk.
use Rattle.std.specs.Prelude.{◌≡◌, ℕ, ◌*◌, ◌<◌, ◌≤◌, ◌⊎◌, ◌==◌, List, length, map as list_map, slice_index, Some, IsSome, refl}
use Rattle.std.specs.List.{count_by}
use Rattle.std.specs.Ordering.{nat_cmp}
use Rattle.std.specs.Coded.{Coded, code_by, coded×, coded_ℕ}
use Rattle.std.specs.FinMap as map
use Rattle.f2_format.specs.Geometry.{ENTRIES_A_NAT_BLOCK}
use Rattle.f2_format.specs.Nat.{nat_block_of}
use Rattle.f2_format.specs.Journal.{JournalList}
use Rattle.f2_nat_block.specs.declared.entries.NatEntry.{NatEntry}

-- entries by their nids
abbrev pub Entries : Type 0
Entries = map.FinMap nat_cmp NatEntry

-- the entries of a list of nids with their entries
abbrev pub entries_from : List (ℕ × NatEntry) → Entries
entries_from list = map.from_entries list

-- entries are stored as pairs of numbers by their nids
abbrev pub entry_code : Coded NatEntry
entry_code = code_by (ℕ × ℕ) (coded× coded_ℕ coded_ℕ) (λ e. (e.ino, e.addr)) (λ p. record { ino = p.0; addr = p.1 }) (λ _. refl)

abbrev pub entries_code : Coded Entries
entries_code = map.code coded_ℕ entry_code

-- how many entries there are of a block of the table
abbrev pub count_in : Entries → ℕ → ℕ
count_in entries block = map.len (map.retain_keys entries (λ nid. nat_block_of nid == block))

-- The dirty entries of a table of `nat` blocks. So many entries more as `spare` says may become dirty without memory.
pub record DirtyTable : Type 0 where
  pub nat : ℕ
  pub entries : Entries
  pub spare : ℕ

abbrev pub dirty_code : Coded DirtyTable
dirty_code =
    code_by (ℕ × (Entries × ℕ)) (coded× coded_ℕ (coded× entries_code coded_ℕ))
    (λ d. (d.nat, (d.entries, d.spare)))
    (λ q. record { nat = q.0; entries = q.1.0; spare = q.1.1 })
    (λ _. refl)

-- these numbers count the entries of each block, and no entry is past the table
pub record AreCounts (entries : Entries) (counts : List ℕ) : Type 0 where
  pub counted : (block : ℕ) → block < length counts → slice_index counts block ≡ count_in entries block
  pub within : (nid : ℕ) → IsSome (map.get entries nid) → nid < ENTRIES_A_NAT_BLOCK * length counts

-- what the parts of a dirty table keep: the counts, and places for what `spare` says
pub record IsDirtyTable (entries : Entries) (counts : List ℕ) (spare places : ℕ) : Type 0 where
  pub right : AreCounts entries counts
  pub places_enough : spare ≤ places

-- The clean entries, which were read from the disk: at most `room` of them are kept.
pub record CleanTable : Type 0 where
  pub entries : Entries
  pub room : ℕ

abbrev pub clean_code : Coded CleanTable
clean_code = code_by (Entries × ℕ) (coded× entries_code coded_ℕ) (λ c. (c.entries, c.room)) (λ q. record { entries = q.0; room = q.1 }) (λ _. refl)

-- there is room for a clean entry, and there are no more than that
pub record IsBounded (clean : CleanTable) : Type 0 where
  pub room_there : 1 ≤ clean.room
  pub bounded : map.len clean.entries ≤ clean.room

-- each entry was kept before, or is this one of this nid
abbrev pub MayAdd : ℕ → NatEntry → Entries → Entries → Type 0
MayAdd nid entry old new = (other : ℕ) (kept : NatEntry) → map.get new other ≡ Some kept → (map.get old other ≡ Some kept) ⊎ ((other ≡ nid) × (kept ≡ entry))

-- the nids of a journal, in the order in which they stand
abbrev pub nids_of : JournalList → List ℕ
nids_of journal = list_map (λ entry. entry.0) journal

-- no nid stands in the journal twice
abbrev pub EachOnce : JournalList → Type 0
EachOnce journal = (nid : ℕ) → count_by (λ entry. entry.0 == nid) journal ≤ 1

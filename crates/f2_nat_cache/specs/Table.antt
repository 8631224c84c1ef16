-- The node address table of a running volume: one map from nid to entry, kept in parts (struct f2fs_nm_info of f2fs.h
-- and f2fs_get_node_info of node.c).
use Rattle.std.specs.Prelude.{◌≡◌, ℕ, zero, suc, ◌+◌, ◌*◌, ◌<◌, ◌≤◌, List, length, Option, Some, None, IsSome, slice_index_or, refl}
use Rattle.std.specs.Option.{unwrap_or, option_or, option_map}
use Rattle.std.specs.Coded.{Coded, code_by, coded×, coded_ℕ, coded_list, coded_option}
use Rattle.std.specs.FinMap as map
use Rattle.f2_disk.specs.Contents.{Contents, list_at, last_of}
use Rattle.f2_format.specs.Geometry.{ENTRIES_A_NAT_BLOCK, ImageGeometry, IsGeometry, nat_address, nid_limit}
use Rattle.f2_format.specs.Nat.{nat_entry, with_nat_entry, nat_block_of, nat_place_of, is_second_copy}
use Rattle.f2_format.specs.Journal.{JournalList, journal_find}
use Rattle.f2_nat_block.specs.declared.entries.NatEntry.{NatEntry}
use Rattle.f2_nat_block.specs.NatEntry.{entry_of, place_of}
use Rattle.f2_nat_cache.specs.Entries.{Entries, entries_code}

-- What is kept. `bitmap` and `journal` are those of the last checkpoint, `dirty` are the entries that were put since
-- then. `held` has, block by block, the copy that counts, where it is held. `clean` are at most `room` entries of other
-- blocks. So many entries more as `spare` says may become dirty without memory.
pub record Table : Type 0 where
  pub geom : ImageGeometry
  pub bitmap : List ℕ
  pub journal : JournalList
  pub dirty : Entries
  pub held : List (Option (List ℕ))
  pub clean : Entries
  pub spare : ℕ
  pub room : ℕ

-- it is stored as these fields
abbrev pub geom_code : Coded ImageGeometry
geom_code = code_by (ℕ × ℕ) (coded× coded_ℕ coded_ℕ) (λ e. (e.blocks, e.nat)) (λ p. record { blocks = p.0; nat = p.1 }) (λ _. refl)

abbrev pub journal_code : Coded JournalList
journal_code = coded_list (coded× coded_ℕ (coded× coded_ℕ coded_ℕ))

abbrev pub held_code : Coded (List (Option (List ℕ)))
held_code = coded_list (coded_option (coded_list coded_ℕ))

abbrev pub table_code : Coded Table
table_code =
    code_by (ImageGeometry × (List ℕ × (JournalList × (Entries × (List (Option (List ℕ)) × (Entries × (ℕ × ℕ)))))))
    (coded× geom_code (coded× (coded_list coded_ℕ) (coded× journal_code (coded× entries_code (coded× held_code (coded× entries_code (coded× coded_ℕ coded_ℕ)))))))
    (λ t. (t.geom, (t.bitmap, (t.journal, (t.dirty, (t.held, (t.clean, (t.spare, t.room))))))))
    (λ q. record { geom = q.0; bitmap = q.1.0; journal = q.1.1.0; dirty = q.1.1.1.0; held = q.1.1.1.1.0; clean = q.1.1.1.1.1.0; spare = q.1.1.1.1.1.1.0; room = q.1.1.1.1.1.1.1 })
    (λ _. refl)

-- what is held of a block
abbrev pub held_block : Table → ℕ → Option (List ℕ)
held_block table block = slice_index_or table.held block None

-- the entry of a nid in its block
abbrev pub entry_in : List ℕ → ℕ → NatEntry
entry_in block nid = entry_of (nat_entry block (nat_place_of nid))

-- the entry of a nid that goes before its block: the dirty one, else the journal's first
abbrev pub pending : Entries → JournalList → ℕ → Option NatEntry
pending dirty journal nid = option_or (map.get dirty nid) (option_map entry_of (journal_find journal nid))

-- the entry of a nid that needs no disk: the pending one, else that of the held block
abbrev pub known : Table → ℕ → Option NatEntry
known table nid = option_or (pending table.dirty table.journal nid) (option_map (λ block. entry_in block nid) (held_block table (nat_block_of nid)))

-- where the copy of a block that counts stands
abbrev pub copy_address : Table → ℕ → ℕ
copy_address table block = nat_address table.geom block (is_second_copy table.bitmap block)

-- the copy of a block that counts, in the last contents of a disk
abbrev pub copy_in : Table → Contents → ℕ → List ℕ
copy_in table lists block = last_of (list_at lists (copy_address table block))

-- THE MAP: the entry of a nid. It is dirty, or in the journal, or in the held block, or in the copy that counts.
abbrev pub entry_at : Table → Contents → ℕ → NatEntry
entry_at table lists nid = unwrap_or (known table nid) (entry_in (copy_in table lists (nat_block_of nid)) nid)

-- what is kept of blocks is what the copies that count have in the last contents of a disk
pub record IsKept (table : Table) (lists : Contents) : Type 0 where
  pub held : (block : ℕ) (content : List ℕ) → held_block table block ≡ Some content → content ≡ copy_in table lists block
  pub clean : (nid : ℕ) (entry : NatEntry) → map.get table.clean nid ≡ Some entry → entry ≡ entry_in (copy_in table lists (nat_block_of nid)) nid

-- What the parts of a table keep: dirty entries and held blocks are counted by the same sizes, no dirty and no clean
-- entry is past the table, and no clean entry is of a nid with a pending one.
pub record IsTable (table : Table) (nat : ℕ) : Type 0 where
  pub sizes : nat ≡ table.geom.nat
  pub geometry : IsGeometry table.geom
  pub blocks : length table.held ≡ table.geom.nat
  pub within : (nid : ℕ) → IsSome (map.get table.dirty nid) → nid < nid_limit table.geom
  pub bounded : map.len table.clean ≤ table.room
  pub clean_within : (nid : ℕ) → IsSome (map.get table.clean nid) → nid < nid_limit table.geom
  pub apart : (nid : ℕ) → IsSome (map.get table.clean nid) → pending table.dirty table.journal nid ≡ None

-- the nid of a place of a block
abbrev pub nid_at : ℕ → ℕ → ℕ
nid_at block place = ENTRIES_A_NAT_BLOCK * block + place

-- a block with the pending entry of one of its places, where it has one
abbrev pub with_entry : List ℕ → ℕ → Option NatEntry → List ℕ
with_entry content place None = content
with_entry content place (Some entry) = with_nat_entry content place (place_of entry)

-- a block with the pending entries of its first places
unfoldable pub with_pending_below : Entries → JournalList → ℕ → List ℕ → ℕ → List ℕ
with_pending_below dirty journal block content zero = content
with_pending_below dirty journal block content (suc place) = with_entry (with_pending_below dirty journal block content place) place (pending dirty journal (nid_at block place))

-- a block with all its pending entries, each at its place
abbrev pub with_pending : Entries → JournalList → ℕ → List ℕ → List ℕ
with_pending dirty journal block content = with_pending_below dirty journal block content ENTRIES_A_NAT_BLOCK

-- a block with its pending entries tells each of them, and of the other nids what it told
pub record TellsPending (table : Table) (block : ℕ) (content : List ℕ) : Type 0 where
  pub told : (place : ℕ) → place < ENTRIES_A_NAT_BLOCK → entry_of (nat_entry (with_pending table.dirty table.journal block content) place) ≡ unwrap_or (pending table.dirty table.journal (nid_at block place)) (entry_of (nat_entry content place))

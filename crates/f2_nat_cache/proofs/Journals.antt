-- The nids of a journal, read from its summary.
use Rattle.std.proofs.Common.{◌≡◌, ℕ, ◌+◌, ◌*◌, ◌≤◌, List, [], ◌∷◌, ◌++◌, length, take, drop, map, refl, ap, sym, ◌∙◌, arith, length-append}
use Rattle.std.specs.List.{flat_map, range_with_len}
use Rattle.std.proofs.lemmas.List.{length-take-le, length-replicate}
use Rattle.f2_format.specs.Bytes.{number_bytes, with_bytes, zeros}
use Rattle.f2_format.specs.Journal.{JournalList, journal_of, journal_count, journal_entry, journal_entry_bytes, summary_block}
use Rattle.f2_format.proofs.BytesLemmas.{length-number_bytes, length-with_bytes}
use Rattle.f2_nat_journal.proofs.ItemBytes.{length-entries}
use Rattle.f2_nat_cache.specs.Entries.{nids_of}

-- what is written has its place
bytes-fit : (block : List ℕ) (at : ℕ) (bytes : List ℕ) → at ≤ length block → at + length bytes ≤ length (with_bytes block at bytes)
unfolding with_bytes
bytes-fit block at bytes h =
    omega (arith, length-append (take at block) (bytes ++ drop (at + length bytes) block), length-append bytes (drop (at + length bytes) block), length-take-le at block h)

-- so a summary that is a block has its entries in it
pub entries-fit : (block : List ℕ) (journal : JournalList) → block ≡ summary_block journal → length block ≡ 4096 → 3586 + 13 * length journal ≤ 4096
unfolding zeros
entries-fit block journal is long =
    let first = length-with_bytes (zeros 4096) 3584 (number_bytes 2 (length journal)) (omega (arith, length-replicate {A = ℕ} 4096 0, length-number_bytes 2 (length journal))) in
    let whole = ap (λ (b : List ℕ). length b) is in
    omega (arith, bytes-fit (with_bytes (zeros 4096) 3584 (number_bytes 2 (length journal))) 3586 (flat_map journal_entry_bytes journal) (omega (arith, first, length-replicate {A = ℕ} 4096 0)), length-entries journal, whole, long)

nids-map : (block : List ℕ) (places : List ℕ) → nids_of (map (journal_entry block) places) ≡ map (λ place. (journal_entry block place).0) places
nids-map block [] = refl
nids-map block (place ∷ places) = ap (λ rest. (journal_entry block place).0 ∷ rest) (nids-map block places)

-- the nids that a summary tells are those of its journal
pub nids-read : (block : List ℕ) (journal : JournalList) (count : ℕ) → journal_of block ≡ journal → count ≡ journal_count block → map (λ place. (journal_entry block place).0) (range_with_len 0 count) ≡ nids_of journal
nids-read block journal count is counts =
    ap (λ n. map (λ place. (journal_entry block place).0) (range_with_len 0 n)) counts
    ∙ sym (nids-map block (range_with_len 0 (journal_count block))) ∙ ap nids_of is

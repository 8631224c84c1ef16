-- The bytes of the entries of a journal.
use Rattle.std.proofs.Common.{◌≡◌, ℕ, ◌+◌, ◌*◌, ◌<◌, ◌≤◌, List, [], ◌∷◌, ◌++◌, length, set, refl, sym, ap, ◌∙◌, arith, length-append, append_assoc, take, drop, get_or}
use Rattle.std.proofs.lemmas.List.{take-append-drop, flat_map_more, map-append, take_more, length-map, length-take-le}
use Rattle.f2_nat_journal.specs.declared.Item.{Item}
use Rattle.f2_nat_journal.specs.Item.{pair_of, journal_list}
use Rattle.std.specs.List.{flat_map}
use Rattle.f2_format.specs.Bytes.{number_bytes, with_bytes}
use Rattle.f2_format.specs.Nat.{NodePlace, nat_entry_bytes}
use Rattle.f2_format.specs.Journal.{JournalList, journal_entry_bytes}
use Rattle.f2_format.proofs.BytesLemmas.{length-number_bytes, length-with_bytes, slice_set-is, with_bytes-next}
use Rattle.f2_nat_block.proofs.EntryLemmas.{length-nat_entry_bytes}

-- an entry has 13 bytes
pub length-journal_entry_bytes : (entry : ℕ × NodePlace) → length (journal_entry_bytes entry) ≡ 13
length-journal_entry_bytes entry =
    omega (arith, length-append (number_bytes 4 entry.0) (nat_entry_bytes entry.1), length-number_bytes 4 entry.0, length-nat_entry_bytes entry.1)

-- entries have 13 bytes each
pub length-entries : (journal : JournalList) → length (flat_map journal_entry_bytes journal) ≡ 13 * length journal
length-entries [] = refl
length-entries (entry ∷ rest) =
    omega (arith, length-entries rest, length-journal_entry_bytes entry, length-append (journal_entry_bytes entry) (flat_map journal_entry_bytes rest))

-- nid, version, ino and address, one after another
pub with_bytes-item : (block : List ℕ) (at : ℕ) (entry : ℕ × NodePlace) → at + 13 ≤ length block
    → with_bytes (with_bytes (set (with_bytes block at (number_bytes 4 entry.0)) (at + 4) 0) (at + 5) (number_bytes 4 entry.1.0)) (at + 9) (number_bytes 4 entry.1.1)
    ≡ with_bytes block at (journal_entry_bytes entry)
with_bytes-item block at entry fits =
    let nid = number_bytes 4 entry.0 in
    let ino = number_bytes 4 entry.1.0 in
    let addr = number_bytes 4 entry.1.1 in
    let nid_length = length-number_bytes 4 entry.0 in
    let ino_length = length-number_bytes 4 entry.1.0 in
    let first = with_bytes block at nid in
    let first_length = length-with_bytes block at nid (omega arith) in
    let both = length-append nid (0 ∷ []) in
    let three = length-append (nid ++ 0 ∷ []) ino in
    let version : set first (at + 4) 0 ≡ with_bytes block at (nid ++ 0 ∷ []) =
    slice_set-is first (at + 4) 0 (omega arith) ∙ with_bytes-next block at (at + 4) nid (0 ∷ []) (omega arith) (omega arith) in
    ap (λ (b : List ℕ). with_bytes (with_bytes b (at + 5) ino) (at + 9) addr) version
    ∙ ap (λ (b : List ℕ). with_bytes b (at + 9) addr) (with_bytes-next block at (at + 5) (nid ++ 0 ∷ []) ino (omega arith) (omega arith))
    ∙ with_bytes-next block at (at + 9) ((nid ++ 0 ∷ []) ++ ino) addr (omega arith) (omega arith)
    ∙ ap (with_bytes block at) (append_assoc (nid ++ 0 ∷ []) ino addr ∙ append_assoc nid (0 ∷ []) (ino ++ addr))

-- no bytes change nothing
pub with_bytes-nothing : (block : List ℕ) (at : ℕ) → with_bytes block at [] ≡ block
unfolding with_bytes
with_bytes-nothing block at = ap (λ (j : ℕ). take at block ++ drop j block) (omega arith) ∙ take-append-drop at block

-- the bytes of one item more
pub entries-more : (items : List Item) (place : ℕ) (d : Item) → place < length items
    → flat_map journal_entry_bytes (journal_list (take place items)) ++ journal_entry_bytes (pair_of (get_or items place d)) ≡ flat_map journal_entry_bytes (journal_list (take (place + 1) items))
entries-more items place d within =
    flat_map_more journal_entry_bytes [] (journal_list (take place items)) (pair_of (get_or items place d))
    ∙ ap (flat_map journal_entry_bytes) (sym (map-append pair_of (take place items) (get_or items place d ∷ [])) ∙ ap journal_list (sym (take_more items place d within)))

-- one item more, written behind the others
pub with_bytes-more : (block : List ℕ) (items : List Item) (place : ℕ) (d : Item) → place < length items → 3586 + 13 * place ≤ length block
    → with_bytes (with_bytes block 3586 (flat_map journal_entry_bytes (journal_list (take place items)))) (3586 + 13 * place) (journal_entry_bytes (pair_of (get_or items place d)))
    ≡ with_bytes block 3586 (flat_map journal_entry_bytes (journal_list (take (place + 1) items)))
with_bytes-more block items place d within fits =
    let front = journal_list (take place items) in
    let count : length front ≡ place = length-map (take place items) pair_of ∙ length-take-le place items (omega arith) in
    let bytes = length-entries front in
    with_bytes-next block 3586 (3586 + 13 * place) (flat_map journal_entry_bytes front) (journal_entry_bytes (pair_of (get_or items place d))) (omega arith) fits
    ∙ ap (with_bytes block 3586) (entries-more items place d within)

-- The entries of a journal that was written are those that are read.
use Rattle.std.proofs.Common.{◌≡◌, All, subst, ℕ, zero, suc, ◌+◌, ◌*◌, ◌^◌, ◌<◌, ◌≤◌, List, [], ◌∷◌, ◌++◌, map, length, drop, get_or, refl, sym, ap, ◌∙◌, arith, append_assoc, length-append, get_or-append-add, get_or-drop}
use Rattle.std.specs.List.{flat_map, range_with_len}
use Rattle.std.proofs.lemmas.List.{append-nil, ext_get_or, get_or_append_left, get_or-map, length-map, length-replicate}
use Rattle.std.proofs.lemmas.List.Elements.{All-from_get_or}
use Rattle.std.proofs.lemmas.List.FromFn.{get_or-map-range_with_len, length-map-range_with_len}
use Rattle.f2_format.specs.Bytes.{number_at, number_bytes, with_bytes, zeros}
use Rattle.f2_format.specs.Nat.{NodePlace}
use Rattle.f2_format.specs.Journal.{JournalList, journal_count, journal_entry, journal_entry_bytes, journal_of, summary_block}
use Rattle.f2_format.proofs.BytesLemmas.{length-number_bytes, length-with_bytes, drop-with_bytes, number_at-same, number_at-with_bytes_before, number_at-with_bytes_same}
use Rattle.f2_nat_journal.specs.declared.Item.{Item}
use Rattle.f2_nat_journal.specs.Item.{pair_of, journal_list}
use Rattle.f2_nat_journal.specs.Round.{IsEntry, IsJournal}
use Rattle.f2_nat_journal.proofs.ItemBytes.{length-entries, length-journal_entry_bytes}

-- an item of zeros
abbrev blank : Item
blank = record { nid = 0; entry = record { ino = 0; addr = 0 } }

-- there are so many zeros
length-zeros : (n : ℕ) → length (zeros n) ≡ n
unfolding zeros
length-zeros n = length-replicate n 0

-- four bytes in front of others, written over four
bytes-in_front : (x : ℕ) (rest : List ℕ) → with_bytes (0 ∷ 0 ∷ 0 ∷ 0 ∷ rest) 0 (number_bytes 4 x) ≡ number_bytes 4 x ++ rest
unfolding with_bytes
bytes-in_front x rest =
    let width : 0 + length (number_bytes 4 x) ≡ 4 = omega (arith, length-number_bytes 4 x) in
    ap (λ (n : ℕ). number_bytes 4 x ++ drop n (0 ∷ 0 ∷ 0 ∷ 0 ∷ rest)) width

-- the number at the front is read
number_at-front : (x : ℕ) (rest : List ℕ) → x < 2 ^ 32 → number_at 4 (number_bytes 4 x ++ rest) 0 ≡ x
number_at-front x rest small =
    ap (λ (b : List ℕ). number_at 4 b 0) (sym (bytes-in_front x rest))
    ∙ number_at-with_bytes_same 4 (0 ∷ 0 ∷ 0 ∷ 0 ∷ rest) 0 x (omega arith) small

-- the number past so many bytes is the one at the front of what follows them
number_at-behind : (front rest : List ℕ) (n : ℕ) → length front ≡ n → number_at 4 (front ++ rest) n ≡ number_at 4 rest 0
number_at-behind front rest n long =
    number_at-same 4 (front ++ rest) rest n 0
    (λ k h.
    let place : n + k ≡ length front + k = omega arith in
    let start : k ≡ 0 + k = omega arith in
    ap (λ (j : ℕ). get_or (front ++ rest) j 0) place ∙ get_or-append-add front rest k 0 ∙ ap (λ (j : ℕ). get_or rest j 0) start)

-- the three numbers of an entry
entry-nid : (entry : ℕ × NodePlace) → IsEntry entry → number_at 4 (journal_entry_bytes entry) 0 ≡ entry.0
entry-nid entry fits = number_at-front entry.0 _ fits.0

entry-ino : (entry : ℕ × NodePlace) → IsEntry entry → number_at 4 (journal_entry_bytes entry) 5 ≡ entry.1.0
entry-ino entry fits =
    let nid = number_bytes 4 entry.0 in
    let ino = number_bytes 4 entry.1.0 in
    let addr = number_bytes 4 entry.1.1 in
    let width = length-number_bytes 4 entry.0 in
    let front : length (nid ++ 0 ∷ []) ≡ 5 = omega (arith, length-append nid (0 ∷ [])) in
    ap (λ (b : List ℕ). number_at 4 b 5) (sym (append_assoc nid (0 ∷ []) (ino ++ addr)))
    ∙ number_at-behind (nid ++ 0 ∷ []) (ino ++ addr) 5 front
    ∙ number_at-front entry.1.0 addr fits.1

entry-addr : (entry : ℕ × NodePlace) → IsEntry entry → number_at 4 (journal_entry_bytes entry) 9 ≡ entry.1.1
entry-addr entry fits =
    let nid = number_bytes 4 entry.0 in
    let ino = number_bytes 4 entry.1.0 in
    let addr = number_bytes 4 entry.1.1 in
    let nid_width = length-number_bytes 4 entry.0 in
    let ino_width = length-number_bytes 4 entry.1.0 in
    let one = length-append nid (0 ∷ []) in
    let front : length ((nid ++ 0 ∷ []) ++ ino) ≡ 9 = omega (arith, length-append (nid ++ 0 ∷ []) ino) in
    ap (λ (b : List ℕ). number_at 4 b 9) (sym (append_assoc nid (0 ∷ []) (ino ++ addr)) ∙ sym (append_assoc (nid ++ 0 ∷ []) ino addr))
    ∙ number_at-behind ((nid ++ 0 ∷ []) ++ ino) addr 9 front
    ∙ ap (λ (b : List ℕ). number_at 4 b 0) (sym (append-nil addr))
    ∙ number_at-front entry.1.1 [] fits.2

-- a byte of the entries is a byte of one entry, by 13 to each
byte-of_entry : (journal : JournalList) (rest : List ℕ) (k i : ℕ) (d : ℕ × NodePlace) → k < length journal → i < 13
    → get_or (flat_map journal_entry_bytes journal ++ rest) (13 * k + i) 0 ≡ get_or (journal_entry_bytes (get_or journal k d)) i 0
byte-of_entry [] rest k i d within small = absurd (omega arith)
byte-of_entry (entry ∷ entries) rest zero i d within small =
    let bytes = journal_entry_bytes entry in
    let width = length-journal_entry_bytes entry in
    let place : 13 * 0 + i ≡ i = omega arith in
    ap (λ (b : List ℕ). get_or b (13 * 0 + i) 0) (append_assoc bytes (flat_map journal_entry_bytes entries) rest)
    ∙ ap (λ (j : ℕ). get_or (bytes ++ (flat_map journal_entry_bytes entries ++ rest)) j 0) place
    ∙ get_or_append_left bytes (flat_map journal_entry_bytes entries ++ rest) 0 i (omega arith)
byte-of_entry (entry ∷ entries) rest (suc k) i d within small =
    let bytes = journal_entry_bytes entry in
    let back = flat_map journal_entry_bytes entries ++ rest in
    let width = length-journal_entry_bytes entry in
    let place : 13 * suc k + i ≡ length bytes + (13 * k + i) = omega arith in
    ap (λ (b : List ℕ). get_or b (13 * suc k + i) 0) (append_assoc bytes (flat_map journal_entry_bytes entries) rest)
    ∙ ap (λ (j : ℕ). get_or (bytes ++ back) j 0) place
    ∙ get_or-append-add bytes back (13 * k + i) 0
    ∙ byte-of_entry entries rest k i d (omega arith) small

-- a number of an entry that was written
number-of_entry : (block : List ℕ) (journal : JournalList) (k o : ℕ) (d : ℕ × NodePlace) (at : ℕ) → 3586 ≤ length block → k < length journal → o + 4 ≤ 13 → at ≡ 3586 + 13 * k + o
    → number_at 4 (with_bytes block 3586 (flat_map journal_entry_bytes journal)) at ≡ number_at 4 (journal_entry_bytes (get_or journal k d)) o
number-of_entry block journal k o d at room within small is =
    let bytes = flat_map journal_entry_bytes journal in
    let rest = drop (3586 + length bytes) block in
    number_at-same 4 (with_bytes block 3586 bytes) (journal_entry_bytes (get_or journal k d)) at o
    (λ i h.
    let place : at + i ≡ 3586 + (13 * k + (o + i)) = omega arith in
    ap (λ (j : ℕ). get_or (with_bytes block 3586 bytes) j 0) place
    ∙ sym (get_or-drop 3586 (with_bytes block 3586 bytes) (13 * k + (o + i)) 0)
    ∙ ap (λ (b : List ℕ). get_or b (13 * k + (o + i)) 0) (drop-with_bytes block 3586 bytes room)
    ∙ byte-of_entry journal rest k (o + i) d within (omega arith))

-- an entry that was written is read
entry-reads : (block : List ℕ) (journal : JournalList) (k : ℕ) (d : ℕ × NodePlace) → 3586 ≤ length block → k < length journal → IsEntry (get_or journal k d)
    → journal_entry (with_bytes block 3586 (flat_map journal_entry_bytes journal)) k ≡ get_or journal k d
entry-reads block journal k d room within fits =
    let entry = get_or journal k d in
    let nid = number-of_entry block journal k 0 d (3586 + 13 * k) room within (omega arith) (omega arith) ∙ entry-nid entry fits in
    let ino = number-of_entry block journal k 5 d (3586 + 13 * k + 4 + 1) room within (omega arith) (omega arith) ∙ entry-ino entry fits in
    let addr = number-of_entry block journal k 9 d (3586 + 13 * k + 4 + 5) room within (omega arith) (omega arith) ∙ entry-addr entry fits in
    rw (nid, ino, addr) refl

-- a journal that was written is read
pub journal_of-summary_block : (journal : JournalList) → IsJournal journal → journal_of (summary_block journal) ≡ journal
journal_of-summary_block journal sound =
    let most = sound.count in
    let bytes = flat_map journal_entry_bytes journal in
    let count = number_bytes 2 (length journal) in
    let width = length-number_bytes 2 (length journal) in
    let blank = length-zeros 4096 in
    let counted = with_bytes (zeros 4096) 3584 count in
    let long = length-with_bytes (zeros 4096) 3584 count (omega arith) in
    let block = with_bytes counted 3586 bytes in
    let entries_width = length-entries journal in
    let count_is : journal_count block ≡ length journal =
    number_at-with_bytes_before 2 counted 3586 bytes 3584 (omega arith) (omega arith)
    ∙ number_at-with_bytes_same 2 (zeros 4096) 3584 (length journal) (omega arith) (omega arith) in
    let none : ℕ × NodePlace = (0, (0, 0)) in
    ap (λ (n : ℕ). map (journal_entry block) (range_with_len 0 n)) count_is
    ∙ ext_get_or none (map (journal_entry block) (range_with_len 0 (length journal))) journal
    (length-map-range_with_len (journal_entry block) 0 (length journal))
    (λ k h.
    let same = length-map-range_with_len (journal_entry block) 0 (length journal) in
    let within : k < length journal = omega arith in
    get_or-map-range_with_len (journal_entry block) 0 (length journal) k k none within (omega arith)
    ∙ entry-reads counted journal k none (omega arith) within (sound.entries k none within))

-- the entries of a journal are those of its items
pub IsEntry-each : (items : List Item) → ((k : ℕ) → k < length items → IsEntry (pair_of (get_or items k blank))) → All IsEntry (journal_list items)
IsEntry-each items each =
    All-from_get_or IsEntry (journal_list items) (pair_of blank)
    (λ k h.
    let within : k < length items = omega (arith, length-map items pair_of) in
    subst IsEntry (sym (get_or-map pair_of items k blank (pair_of blank) within)) (each k within))

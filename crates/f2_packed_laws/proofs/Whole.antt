-- The packed blocks of dentries whose names are bytes are whole blocks.
use Rattle.std.proofs.Common.{◌≡◌, ℕ, zero, suc, ◌+◌, ◌-◌, ◌/◌, ◌%◌, ◌^◌, ◌<◌, ◌≤◌, List, [], ◌∷◌, ◌++◌, length, take, drop, get_or, All, inl, inr, refl, sym, ap, subst, arith}
use Rattle.std.specs.Prelude.{bit_or}
use Rattle.std.specs.Int.{byte_at, bytes_low_first}
use Rattle.std.proofs.Math.Pow.{pow-lt}
use Rattle.std.proofs.lemmas.Bool.{cases_lt}
use Rattle.std.proofs.lemmas.List.{append-nil, append_assoc, get_or_past}
use Rattle.std.proofs.lemmas.List.Elements.{All-nil, All-cons, All-append, All-take, All-drop, All-set, All-replicate}
use Rattle.std.proofs.lemmas.Nat.{or_of_8}
use Rattle.f2_format.specs.Bytes.{with_bytes, number_bytes, zeros}
use Rattle.f2_format.specs.Dentry.{Dentry, with_slot_used, with_slots_used, with_dentry, entry_start, name_start}
use Rattle.f2_format.specs.Packing.{slots_of_name}
use Rattle.f2_disk.specs.Contents.{IsBlock}
use Rattle.f2_dentry_block.specs.Packed.{IsFitting, HasNameLength, packed_blocks}
use Rattle.f2_dentry_block.proofs.Added.{IsAdded-with_dentry}
use Rattle.f2_dentry_block.proofs.Filled.{length-zeros}
use Rattle.f2_dentry_block.proofs.PackedBlocks.{IsPackedTo, IsPackedTo-nothing, IsPackedTo-fits, IsPackedTo-next, length-packed_blocks, packed_blocks-fits, packed_blocks-next}

abbrev pub IsByte : ℕ → Type 0
IsByte byte = byte < 256

-- each byte of a list of bytes, and past its end 0
pub byte_in : (xs : List ℕ) → All IsByte xs → (k : ℕ) → get_or xs k 0 < 256
byte_in xs all k = elim (cases_lt k (length xs)) [
  | inl small ↦ all k 0 small
  | inr past ↦ subst IsByte (sym (get_or_past xs k 0 past)) (omega arith)
]

-- what is put into a block leaves bytes
slot_put : (block : List ℕ) (slot : ℕ) → All IsByte block → All IsByte (with_slot_used block slot)
slot_put block slot all =
    All-set IsByte block (slot / 8) (bit_or (get_or block (slot / 8) 0) (2 ^ (slot % 8))) (or_of_8 (get_or block (slot / 8) 0) (2 ^ (slot % 8)) (byte_in block all (slot / 8)) (pow-lt {i = slot % 8} {j = 8} (omega arith))) all

slots_put : (block : List ℕ) (slot n : ℕ) → All IsByte block → All IsByte (with_slots_used block slot n)
slots_put block slot zero all = all
slots_put block slot (suc n) all = slots_put (with_slot_used block slot) (slot + 1) n (slot_put block slot all)

bytes_put : (block : List ℕ) (at : ℕ) (bytes : List ℕ) → All IsByte block → All IsByte bytes → All IsByte (with_bytes block at bytes)
unfolding with_bytes
bytes_put block at bytes all new =
    All-append IsByte (take at block) (bytes ++ drop (at + length bytes) block) (All-take IsByte at block all) (All-append IsByte bytes (drop (at + length bytes) block) new (All-drop IsByte (at + length bytes) block all))

rest_small : (n : ℕ) → n % 256 < 256
rest_small n = omega arith

byte_small : (i n : ℕ) → IsByte (byte_at i n)
byte_small zero n = rest_small n
byte_small (suc i) n = rest_small (n / 256 ^ suc i)

low_bytes : (i n number : ℕ) → All IsByte (bytes_low_first i n number)
low_bytes i zero number = All-nil IsByte
low_bytes i (suc n) number = All-cons IsByte (byte_at i number) (bytes_low_first (suc i) n number) (byte_small i number) (low_bytes (suc i) n number)

number_is_bytes : (n number : ℕ) → All IsByte (number_bytes n number)
unfolding number_bytes
number_is_bytes n number = low_bytes 0 n number

-- a dentry that a block can take
pub record IsWritable (dentry : Dentry) : Type 0 where
  pub fitting : IsFitting dentry
  pub name : All IsByte dentry.name

-- a block of bytes
record IsBytes (block : List ℕ) : Type 0 where
  size : length block ≡ 4096
  bytes : All IsByte block

type_small : (dentry : Dentry) → IsFitting dentry → IsByte dentry.type
type_small dentry fitting = elim fitting.type [ inl is ↦ omega (arith, is) | inr is ↦ omega (arith, is) ]

dentry_put : (block : List ℕ) (slot : ℕ) (dentry : Dentry) → All IsByte block → IsWritable dentry → All IsByte (with_dentry block slot dentry)
dentry_put block slot dentry all may =
    let used = with_slots_used block slot (slots_of_name dentry.name) in
    let one = with_bytes used (entry_start slot + 4) (number_bytes 4 dentry.ino) in
    let two = with_bytes one (entry_start slot + 8) (number_bytes 2 (length dentry.name)) in
    let three = with_bytes two (entry_start slot + 10) (dentry.type ∷ []) in
    bytes_put three (name_start slot) dentry.name
    (bytes_put two (entry_start slot + 10) (dentry.type ∷ [])
    (bytes_put one (entry_start slot + 8) (number_bytes 2 (length dentry.name))
    (bytes_put used (entry_start slot + 4) (number_bytes 4 dentry.ino) (slots_put block slot (slots_of_name dentry.name) all) (number_is_bytes 4 dentry.ino))
    (number_is_bytes 2 (length dentry.name)))
    (All-cons IsByte dentry.type [] (type_small dentry may.fitting) (All-nil IsByte)))
    may.name

put_in : (block : List ℕ) (slot : ℕ) (dentry : Dentry) → IsBytes block → slot + slots_of_name dentry.name ≤ 214 → IsWritable dentry → IsBytes (with_dentry block slot dentry)
put_in block slot dentry own fits may = record {
  size = (IsAdded-with_dentry block slot dentry own.size fits may.fitting.name.some may.fitting.name.most may.fitting.ino).long;
  bytes = dentry_put block slot dentry own.bytes may;
}

all_zeros : (n : ℕ) → All IsByte (zeros n)
unfolding zeros
all_zeros n = All-replicate IsByte n 0 (omega arith)

zeros_are : IsBytes (zeros 4096)
zeros_are = record { size = length-zeros 4096; bytes = all_zeros 4096 }

-- a block has been begun
begun : (dentries : List Dentry) (count taken : ℕ) (dentry : Dentry) → IsPackedTo dentries count taken → HasNameLength dentry.name → taken + slots_of_name dentry.name ≤ 214 → 1 ≤ count
begun dentries zero taken dentry packed long fits = let full = packed.first refl in let some = long.some in absurd (omega arith)
begun dentries (suc count) taken dentry packed long fits = omega arith

module _ (dentries : List Dentry) (count taken : ℕ) (dentry : Dentry) (packed : IsPackedTo dentries count taken) (may : IsWritable dentry) (so_far : All IsBytes (packed_blocks dentries)) where
  fits_in : taken + slots_of_name dentry.name ≤ 214 → All IsBytes (packed_blocks (dentries ++ dentry ∷ []))
  fits_in fits =
      let some = begun dentries count taken dentry packed may.fitting.name fits in
      let long = length-packed_blocks dentries in
      let reach = ap (λ (r : ℕ × ℕ). r.0) packed.reach in
      let last = get_or (packed_blocks dentries) (count - 1) [] in
      subst (All IsBytes) (sym (packed_blocks-fits dentries count taken dentry packed may.fitting.name fits))
      (All-set IsBytes (packed_blocks dentries) (count - 1) (with_dentry last taken dentry) (put_in last taken dentry (so_far (count - 1) [] (omega (arith, some, long, reach))) fits may) so_far)

  goes_on : 214 < taken + slots_of_name dentry.name → All IsBytes (packed_blocks (dentries ++ dentry ∷ []))
  goes_on full =
      let name = may.fitting.name in
      let most = name.most in
      subst (All IsBytes) (sym (packed_blocks-next dentries count taken dentry packed name full))
      (All-append IsBytes (packed_blocks dentries) (with_dentry (zeros 4096) 0 dentry ∷ []) so_far (All-cons IsBytes (with_dentry (zeros 4096) 0 dentry) [] (put_in (zeros 4096) 0 dentry zeros_are (omega (arith, most)) may) (All-nil IsBytes)))

all_bytes : (dentries rest : List Dentry) (count taken : ℕ) → All IsWritable rest → IsPackedTo dentries count taken → All IsBytes (packed_blocks dentries) → All IsBytes (packed_blocks (dentries ++ rest))
all_bytes dentries [] count taken may packed so_far = subst (λ (ds : List Dentry). All IsBytes (packed_blocks ds)) (sym (append-nil dentries)) so_far
all_bytes dentries (dentry ∷ rest) count taken may packed so_far =
    let here : IsWritable dentry = may 0 dentry (omega arith) in
    let others : All IsWritable rest = λ k d h. may (suc k) d (omega (arith, h)) in
    subst (λ (ds : List Dentry). All IsBytes (packed_blocks ds)) (append_assoc dentries (dentry ∷ []) rest) (elim (cases_lt 214 (taken + slots_of_name dentry.name)) [
      | inl full ↦ all_bytes (dentries ++ dentry ∷ []) rest (count + 1) (slots_of_name dentry.name) others (IsPackedTo-next dentries count taken dentry packed here.fitting.name full) (goes_on dentries count taken dentry packed here so_far full)
      | inr fits ↦ all_bytes (dentries ++ dentry ∷ []) rest count (taken + slots_of_name dentry.name) others (IsPackedTo-fits dentries count taken dentry packed here.fitting.name fits) (fits_in dentries count taken dentry packed here so_far fits)
    ])

pub packed_whole : (dentries : List Dentry) → All IsWritable dentries → All IsBlock (packed_blocks dentries)
packed_whole dentries may = λ k d small. (
    let own : IsBytes (get_or (packed_blocks dentries) k d) = all_bytes [] dentries 0 214 may IsPackedTo-nothing (All-nil IsBytes) k d small in
    record { size = own.size; bytes = byte_in (get_or (packed_blocks dentries) k d) own.bytes }
    )

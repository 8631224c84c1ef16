-- A head that was written is read, and its seal is right.
use Rattle.std.proofs.Common.{◌≡◌, ℕ, ◌+◌, ◌^◌, ◌<◌, ◌≤◌, IsTrue, List, [], ◌∷◌, ◌++◌, length, take, drop, slice_range, refl, sym, ap, ◌∙◌, arith, subst, drop-drop}
use Rattle.std.proofs.lemmas.List.{length-replicate}
use borrow.Rule.Slice.PartMut.{put_mid}
use Rattle.f2_format.specs.Bytes.{number_at, number_bytes, with_bytes, zeros}
use Rattle.f2_format.specs.Geometry.{ImageGeometry, is_in_node}
use Rattle.f2_format.specs.Pack.{HeadFields, IsPack, head_block, head_of, unsealed_head}
use Rattle.f2_format.specs.Seal.{seal_of, seal_of_bytes, stored_seal}
use Rattle.f2_format.proofs.BytesLemmas.{get_or-with_bytes_before, length-number_bytes, length-with_bytes, number_at-with_bytes_before, slice_range-same, slice_range-with_bytes_same, take-with_bytes_before}
use Rattle.f2_format.proofs.FieldLemmas.{Number, length-with_numbers, num, part_reads, with_numbers}

-- bytes copied over a part of a block
pub put_mid-bytes : (block bytes written : List ℕ) (at n : ℕ) → written ≡ bytes → n ≡ length bytes → put_mid at n block written ≡ with_bytes block at bytes
unfolding with_bytes
put_mid-bytes block bytes written at n is count =
    ap (λ (xs : List ℕ). take at block ++ (xs ++ drop n (drop at block))) is
    ∙ ap (λ (xs : List ℕ). take at block ++ (bytes ++ xs)) (drop-drop n at block ∙ ap (λ (k : ℕ). drop (at + k) block) count)

length-zeros : (n : ℕ) → length (zeros n) ≡ n
unfolding zeros
length-zeros n = length-replicate n 0

-- the numbers of a head
abbrev numbers : HeadFields → List Number
numbers head = num 0 8 head.version ∷ num 8 4 head.nat ∷ num 12 4 head.log_start ∷ num 16 4 head.flags ∷ []

-- a head whose fields fit
pub record IsFitting (head : HeadFields) : Type 0 where
  pub version : head.version < 2 ^ 64
  pub nat : head.nat < 2 ^ 32
  pub log_start : head.log_start < 2 ^ 32
  pub flags : head.flags < 2 ^ 32
  pub bitmap : length head.bitmap ≡ 128

-- a block has so many bytes once its head was written
length-numbered : (head : HeadFields) → length (with_numbers (zeros 4096) (numbers head)) ≡ 4096
length-numbered head = length-with_numbers 4096 (zeros 4096) (numbers head) (length-zeros 4096) refl

pub length-unsealed : (head : HeadFields) → length head.bitmap ≡ 128 → length (unsealed_head head) ≡ 4096
length-unsealed head long =
    let before = length-numbered head in
    length-with_bytes (with_numbers (zeros 4096) (numbers head)) 64 head.bitmap (omega arith) ∙ before

-- a number of the head stays once bitmap and seal are written
number-stays : (head : HeadFields) (seal : List ℕ) (n at : ℕ) → length head.bitmap ≡ 128 → at + n ≤ 64
    → number_at n (with_bytes (unsealed_head head) 4092 seal) at ≡ number_at n (with_numbers (zeros 4096) (numbers head)) at
number-stays head seal n at long before =
    let middle = length-unsealed head long in
    let first = length-numbered head in
    number_at-with_bytes_before n (unsealed_head head) 4092 seal at (omega arith) (omega arith)
    ∙ number_at-with_bytes_before n (with_numbers (zeros 4096) (numbers head)) 64 head.bitmap at (omega arith) before

pub head_of-head_block : (head : HeadFields) → IsFitting head → head_of (head_block head) ≡ head
head_of-head_block head fits =
    let block = unsealed_head head in
    let seal = number_bytes 4 (seal_of block) in
    let seal_long = length-number_bytes 4 (seal_of block) in
    let long = fits.bitmap in
    let block_long = length-unsealed head long in
    let first = length-numbered head in
    let all_long = length-with_bytes block 4092 seal (omega arith) in
    let version : number_at 8 (head_block head) 0 ≡ head.version =
    number-stays head seal 8 0 long (omega arith) ∙ part_reads 8 0 4096 (zeros 4096) (numbers head) (length-zeros 4096) refl fits.version in
    let nat : number_at 4 (head_block head) 8 ≡ head.nat =
    number-stays head seal 4 8 long (omega arith) ∙ part_reads 4 8 4096 (zeros 4096) (numbers head) (length-zeros 4096) refl fits.nat in
    let log_start : number_at 4 (head_block head) 12 ≡ head.log_start =
    number-stays head seal 4 12 long (omega arith) ∙ part_reads 4 12 4096 (zeros 4096) (numbers head) (length-zeros 4096) refl fits.log_start in
    let flags : number_at 4 (head_block head) 16 ≡ head.flags =
    number-stays head seal 4 16 long (omega arith) ∙ part_reads 4 16 4096 (zeros 4096) (numbers head) (length-zeros 4096) refl fits.flags in
    let bitmap : slice_range (head_block head) 64 192 ≡ head.bitmap =
    slice_range-same (head_block head) block 64 192 all_long (λ k low high. get_or-with_bytes_before block 4092 seal k (omega arith) (omega arith))
    ∙ slice_range-with_bytes_same (with_numbers (zeros 4096) (numbers head)) 64 head.bitmap 192 (omega arith) (omega arith) in
    let made : ℕ → ℕ → ℕ → ℕ → List ℕ → HeadFields = λ v n l f b. record { version = v; nat = n; log_start = l; flags = f; bitmap = b } in
    ap (λ (v : ℕ). made v (number_at 4 (head_block head) 8) (number_at 4 (head_block head) 12) (number_at 4 (head_block head) 16) (slice_range (head_block head) 64 192)) version
    ∙ ap (λ (n : ℕ). made head.version n (number_at 4 (head_block head) 12) (number_at 4 (head_block head) 16) (slice_range (head_block head) 64 192)) nat
    ∙ ap (λ (l : ℕ). made head.version head.nat l (number_at 4 (head_block head) 16) (slice_range (head_block head) 64 192)) log_start
    ∙ ap (λ (f : ℕ). made head.version head.nat head.log_start f (slice_range (head_block head) 64 192)) flags
    ∙ ap (made head.version head.nat head.log_start head.flags) bitmap

-- the seal covers nothing of itself
pub seal_of-sealed : (block seal : List ℕ) → length block ≡ 4096 → seal_of (with_bytes block 4092 seal) ≡ seal_of block
seal_of-sealed block seal long = ap seal_of_bytes (take-with_bytes_before 4092 block 4092 seal (omega arith) (omega arith))

-- a head whose seal is right makes a valid pack with itself as its tail, where its fields are those of one
pub IsPack-alone : (geom : ImageGeometry) (block : List ℕ) (head : HeadFields) → stored_seal block ≡ seal_of block → head_of block ≡ head → 1 ≤ head.version → head.nat ≡ geom.nat
    → IsTrue (is_in_node geom head.log_start) → IsPack geom block block
IsPack-alone geom block head seal is version nat log_start = record {
  seal = seal;
  same = refl;
  version = subst (λ (h : HeadFields). 1 ≤ h.version) (sym is) version;
  nat = ap (λ (h : HeadFields). h.nat) is ∙ nat;
  log_start = subst (λ (h : HeadFields). IsTrue (is_in_node geom h.log_start)) (sym is) log_start;
}

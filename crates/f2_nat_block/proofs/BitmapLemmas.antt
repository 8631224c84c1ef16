-- What a flipped bit does to a bitmap.
use Rattle.std.proofs.Common.{◌≡◌, ◌≢◌, ℕ, zero, suc, ◌+◌, ◌*◌, ◌/◌, ◌%◌, ◌^◌, ◌<◌, ◌≤◌, false, not, eqb, replicate, List, length, get_or, refl, ap, ◌∙◌, inl, inr, arith}
use Rattle.std.specs.Prelude.{bit_xor}
use Rattle.std.specs.Int.{bit_at}
use Rattle.std.proofs.lemmas.Bool.{cases_eq, cases_lt}
use Rattle.std.proofs.lemmas.List.{get_or-set_same, get_or-set_other, get_or-replicate, get_or_past, length-replicate}
use Rattle.std.proofs.lemmas.Nat.Bits.{bit_at_xor, bit_at-pow_same, bit_at-pow_other, bit_at-lt, bit_at-zero}
use Rattle.std.proofs.Math.Nat.{pow-le-pow_right}
use Rattle.f2_format.specs.Bytes.{zeros}
use Rattle.f2_format.specs.Nat.{is_second_copy, with_other_copy, bitmap_shift}

-- the mask of a bit fits its byte
pub mask_is : (block : ℕ) → 1 * 2 ^ bitmap_shift block % 256 ≡ 2 ^ bitmap_shift block
mask_is block =
    let top : 2 ^ bitmap_shift block ≤ 2 ^ 7 = pow-le-pow_right {n = 2} (omega arith) {i = bitmap_shift block} {j = 7} (omega arith) in
    omega arith

-- a bit with 1 added
flipped : (bit : ℕ) → bit < 2 → eqb ((bit + 1) % 2) 1 ≡ not (eqb bit 1)
flipped zero small = refl
flipped (suc zero) small = refl
flipped (suc (suc bit)) small = absurd (omega arith)

pub is_second_copy-with_other_copy_same : (bitmap : List ℕ) (block : ℕ) → block / 8 < length bitmap
    → is_second_copy (with_other_copy bitmap block) block ≡ not (is_second_copy bitmap block)
is_second_copy-with_other_copy_same bitmap block within =
    let shift = bitmap_shift block in
    let byte = get_or bitmap (block / 8) 0 in
    let read = get_or-set_same bitmap (block / 8) (bit_xor byte (2 ^ shift)) 0 within in
    let bit = bit_at_xor byte (2 ^ shift) shift ∙ ap (λ (b : ℕ). (bit_at byte shift + b) % 2) (bit_at-pow_same shift) in
    ap (λ (x : ℕ). eqb (bit_at x shift) 1) read
    ∙ ap (λ (b : ℕ). eqb b 1) bit
    ∙ flipped (bit_at byte shift) (bit_at-lt byte shift)

pub is_second_copy-with_other_copy_other : (bitmap : List ℕ) (block other : ℕ) → block / 8 < length bitmap → other ≢ block
    → is_second_copy (with_other_copy bitmap block) other ≡ is_second_copy bitmap other
is_second_copy-with_other_copy_other bitmap block other within apart =
    let shift = bitmap_shift block in
    let byte = get_or bitmap (block / 8) 0 in
    elim (cases_eq (other / 8) (block / 8)) [
      | inl same ↦
          let differ : bitmap_shift other ≢ shift = omega arith in
          let read : get_or (with_other_copy bitmap block) (other / 8) 0 ≡ bit_xor byte (2 ^ shift) =
          ap (λ (i : ℕ). get_or (with_other_copy bitmap block) i 0) same ∙ get_or-set_same bitmap (block / 8) (bit_xor byte (2 ^ shift)) 0 within in
          let bit = bit_at_xor byte (2 ^ shift) (bitmap_shift other) in
          let none = bit_at-pow_other shift (bitmap_shift other) differ in
          let small = bit_at-lt byte (bitmap_shift other) in
          let stays : bit_at (bit_xor byte (2 ^ shift)) (bitmap_shift other) ≡ bit_at byte (bitmap_shift other) = omega arith in
          ap (λ (x : ℕ). eqb (bit_at x (bitmap_shift other)) 1) read
          ∙ ap (λ (b : ℕ). eqb b 1) stays
          ∙ ap (λ (i : ℕ). eqb (bit_at (get_or bitmap i 0) (bitmap_shift other)) 1) (omega arith)
      | inr differ ↦
          let elsewhere : other / 8 ≢ block / 8 = differ in
          ap (λ (x : ℕ). eqb (bit_at x (bitmap_shift other)) 1) (get_or-set_other bitmap (block / 8) (other / 8) (bit_xor byte (2 ^ shift)) 0 elsewhere)
    ]

-- a list of zeros has no other number
get_or-zeros : (n i : ℕ) → get_or (zeros n) i 0 ≡ 0
unfolding zeros
get_or-zeros n i = elim (cases_lt i n) [
  | inl within ↦ get_or-replicate n i 0 0 within
  | inr past ↦ get_or_past (replicate n 0) i 0 (omega (arith, length-replicate {A = ℕ} n 0))
]

-- no second copy counts where every bit is 0
pub is_second_copy-zeros : (n block : ℕ) → is_second_copy (zeros n) block ≡ false
is_second_copy-zeros n block =
    ap (λ (x : ℕ). eqb (bit_at x (bitmap_shift block)) 1) (get_or-zeros n (block / 8))
    ∙ ap (λ (b : ℕ). eqb b 1) (bit_at-zero (bitmap_shift block))

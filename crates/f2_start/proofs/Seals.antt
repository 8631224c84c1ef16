-- The seal that stands in a head that was written.
use Rattle.std.proofs.Common.{◌≡◌, ℕ, zero, suc, ◌+◌, ◌*◌, ◌-◌, ◌^◌, ◌<◌, ◌≤◌, Bool, true, false, List, [], ◌∷◌, ◌++◌, length, take, drop, replicate, refl, ap, ◌∙◌, arith, length-append, length-drop}
use Rattle.std.specs.List.{flat_map}
use Rattle.std.proofs.lemmas.List.{length-replicate, length-take-le}
use Rattle.std.proofs.Math.Nat.{pow-suc}
use Rattle.f2_format.specs.Bytes.{number_at, number_bytes, with_bytes, zeros}
use Rattle.f2_format.specs.Pack.{HeadFields, head_block, unsealed_head}
use Rattle.f2_format.specs.Seal.{add_to_front, coefficients, divided, divisor, number_of_bits, seal_of, seal_of_bytes, sealed_polynomial, SEAL_SEED}
use Rattle.f2_format.proofs.BytesLemmas.{number_at-with_bytes_same}

-- so many bits make a number of so many bits
number_of_bits-lt : (bits : List Bool) → number_of_bits bits < 2 ^ length bits
number_of_bits-lt [] = omega arith
number_of_bits-lt (true ∷ bits) = omega (arith, number_of_bits-lt bits, pow-suc 2 (length bits))
number_of_bits-lt (false ∷ bits) = omega (arith, number_of_bits-lt bits, pow-suc 2 (length bits))

length-add_to_front : (front others : List Bool) → length (add_to_front front others) ≡ length front
length-add_to_front [] others = refl
length-add_to_front (f ∷ front) [] = refl
length-add_to_front (f ∷ front) (o ∷ others) = ap suc (length-add_to_front front others)

-- each step of the division takes one power away
length-divided : (steps : ℕ) (dividend : List Bool) → length (divided steps dividend) ≡ length dividend - steps
length-divided zero dividend = omega arith
length-divided (suc steps) [] = omega arith
length-divided (suc steps) (true ∷ rest) = omega (arith, length-divided steps (add_to_front rest divisor), length-add_to_front rest divisor)
length-divided (suc steps) (false ∷ rest) = omega (arith, length-divided steps rest)

length-coefficients : (bytes : List ℕ) → length (flat_map (coefficients 8) bytes) ≡ 8 * length bytes
length-coefficients [] = refl
length-coefficients (byte ∷ bytes) = omega (arith, length-append (coefficients 8 byte) (flat_map (coefficients 8) bytes), length-coefficients bytes)

pub seal_of-lt : (block : List ℕ) → seal_of block < 2 ^ 32
unfolding seal_of_bytes
seal_of-lt block =
    let bytes = take 4092 block in
    let polynomial = sealed_polynomial bytes in
    let front = flat_map (coefficients 8) bytes ++ replicate 32 false in
    let long : length polynomial ≡ 8 * length bytes + 32 =
    length-add_to_front front (coefficients 32 SEAL_SEED)
    ∙ length-append (flat_map (coefficients 8) bytes) (replicate 32 false)
    ∙ ap (λ (n : ℕ). n + 32) (length-coefficients bytes) in
    let left : length (divided (8 * length bytes) polynomial) ≡ 32 = omega (arith, length-divided (8 * length bytes) polynomial, long) in
    omega (arith, number_of_bits-lt (divided (8 * length bytes) polynomial), ap (λ (n : ℕ). 2 ^ n) left)

-- bytes that are written make no block shorter
no_shorter : (block bytes : List ℕ) (at : ℕ) → at ≤ length block → length block ≤ length (with_bytes block at bytes)
unfolding with_bytes
no_shorter block bytes at within =
    let rest = drop (at + length bytes) block in
    omega (arith, length-append (take at block) (bytes ++ rest), length-append bytes rest, length-take-le at block within, length-drop (at + length bytes) block)

unsealed_long : (head : HeadFields) → 4096 ≤ length (unsealed_head head)
unfolding zeros
unsealed_long head =
    let blank = zeros 4096 in
    let first = with_bytes blank 0 (number_bytes 8 head.version) in
    let second = with_bytes first 8 (number_bytes 4 head.nat) in
    let third = with_bytes second 12 (number_bytes 4 head.log_start) in
    let fourth = with_bytes third 16 (number_bytes 4 head.flags) in
    let long : length blank ≡ 4096 = length-replicate {A = ℕ} 4096 0 in
    let a = no_shorter blank (number_bytes 8 head.version) 0 (omega arith) in
    let b = no_shorter first (number_bytes 4 head.nat) 8 (omega (arith, long, a)) in
    let c = no_shorter second (number_bytes 4 head.log_start) 12 (omega (arith, long, a, b)) in
    let d = no_shorter third (number_bytes 4 head.flags) 16 (omega (arith, long, a, b, c)) in
    let e = no_shorter fourth head.bitmap 64 (omega (arith, long, a, b, c, d)) in
    omega (arith, long, a, b, c, d, e)

-- the seal that is read of a head is the one that was written
pub seal_in_head : (head : HeadFields) → number_at 4 (head_block head) 4092 ≡ seal_of (unsealed_head head)
seal_in_head head =
    let block = unsealed_head head in
    number_at-with_bytes_same 4 block 4092 (seal_of block) (omega (arith, unsealed_long head)) (omega (arith, seal_of-lt block))

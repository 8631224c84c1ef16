-- The register that takes in one byte after another holds the remainder of the division.
use Rattle.std.proofs.Common.{◌≡◌, ◌≢◌, ℕ, zero, suc, ◌+◌, ◌*◌, ◌/◌, ◌%◌, ◌^◌, ◌<◌, ◌≤◌, Bool, true, false, cond, eqb, List, [], ◌∷◌, ◌++◌, map, length, get_or, take, replicate, refl, sym, ap, ◌∙◌, inl, inr, arith, append_assoc}
use Rattle.std.specs.Prelude.{bit_and, bit_xor, fold, if◌then◌else◌}
use Rattle.std.specs.Int.{bit_at}
use Rattle.std.specs.List.{flat_map, range_with_len}
use Rattle.std.proofs.lemmas.Bool.{cond-true, cond-false, eq-eqb, ne_eqb, cases_lt}
use Rattle.std.proofs.lemmas.List.{get_or-take, get_or_past, length-take}
use Rattle.std.proofs.lemmas.Nat.{xor_lt}
use Rattle.std.proofs.lemmas.Nat.Bits.{bit_at_xor, bit_at-suc, bit_at-lt, bit_at-zero, same_from_bits, bit_at_lowest, and_pow}
use Rattle.std.proofs.Math.Nat.{div-div-eq-div-mul, div-one, pow-suc}
use Rattle.f2_format.specs.Seal.{coefficients, number_of_bits, xor, add_to_front, divisor, divided, sealed_polynomial, seal_of_bytes, SEAL_SEED, SEAL_POLYNOMIAL}
use Rattle.f2_bytes.specs.Register.{shifted_of, shifted_times, register_with, register_after}

-- the lowest n bits, by halves
bits : ℕ → ℕ → List Bool
bits zero r = []
bits (suc n) r = eqb (r % 2) 1 ∷ bits n (r / 2)

-- the bits from bit k on
bits_from : (n k r : ℕ) → map (λ i. eqb (bit_at r i) 1) (range_with_len k n) ≡ bits n (r / 2 ^ k)
unfolding bits
bits_from zero k r = refl
bits_from (suc n) k r =
    let next : k + 1 ≡ suc k = omega arith in
    let half : r / 2 ^ (k + 1) ≡ r / 2 ^ k / 2 =
    ap (λ (j : ℕ). r / 2 ^ j) next ∙ ap (λ (p : ℕ). r / p) (pow-suc 2 k) ∙ sym (div-div-eq-div-mul r (2 ^ k) 2) in
    ap (λ (bs : List Bool). eqb (bit_at r k) 1 ∷ bs) (bits_from n (k + 1) r ∙ ap (bits n) half)

coefficients-bits : (n r : ℕ) → coefficients n r ≡ bits n r
coefficients-bits n r = bits_from n 0 r ∙ ap (bits n) (div-one r)

-- half of a sum, bit by bit
xor-half : (a b : ℕ) → bit_xor a b / 2 ≡ bit_xor (a / 2) (b / 2)
xor-half a b =
    same_from_bits (bit_xor a b / 2) (bit_xor (a / 2) (b / 2))
    (λ i.
    sym (bit_at-suc (bit_xor a b) i)
    ∙ bit_at_xor a b (suc i)
    ∙ ap (λ (x : ℕ). (x + bit_at b (suc i)) % 2) (bit_at-suc a i)
    ∙ ap (λ (x : ℕ). (bit_at (a / 2) i + x) % 2) (bit_at-suc b i)
    ∙ sym (bit_at_xor (a / 2) (b / 2) i))

-- the sum of two bits
sum_of_bits : (p q : ℕ) → p < 2 → q < 2 → eqb ((p + q) % 2) 1 ≡ xor (eqb p 1) (eqb q 1)
sum_of_bits zero zero a b = refl
sum_of_bits zero (suc zero) a b = refl
sum_of_bits (suc zero) zero a b = refl
sum_of_bits (suc zero) (suc zero) a b = refl
sum_of_bits (suc (suc p)) q a b = absurd (omega arith)
sum_of_bits p (suc (suc q)) a b = absurd (omega arith)

-- the lowest bit of a sum
xor-lowest : (a b : ℕ) → eqb (bit_xor a b % 2) 1 ≡ xor (eqb (a % 2) 1) (eqb (b % 2) 1)
xor-lowest a b =
    let sum : bit_xor a b % 2 ≡ (a % 2 + b % 2) % 2 =
    sym (bit_at_lowest (bit_xor a b)) ∙ bit_at_xor a b 0
    ∙ ap (λ (x : ℕ). (x + bit_at b 0) % 2) (bit_at_lowest a)
    ∙ ap (λ (x : ℕ). (a % 2 + x) % 2) (bit_at_lowest b) in
    ap (λ (x : ℕ). eqb x 1) sum ∙ sum_of_bits (a % 2) (b % 2) (omega arith) (omega arith)

xor-zero : (a : ℕ) → bit_xor a 0 ≡ a
xor-zero a =
    same_from_bits (bit_xor a 0) a
    (λ i.
    let sum = bit_at_xor a 0 i in
    let none = bit_at-zero i in
    let small = bit_at-lt a i in
    omega arith)

xor_assoc : (a b c : Bool) → xor (xor a b) c ≡ xor a (xor b c)
xor_assoc true true true = refl
xor_assoc true true false = refl
xor_assoc true false c = refl
xor_assoc false b c = refl

xor_comm : (a b : Bool) → xor a b ≡ xor b a
xor_comm true true = refl
xor_comm true false = refl
xor_comm false true = refl
xor_comm false false = refl

xor-false : (a : Bool) → xor a false ≡ a
xor-false true = refl
xor-false false = refl

-- nothing added changes nothing
add_to_front-none : (front : List Bool) → add_to_front front [] ≡ front
add_to_front-none [] = refl
add_to_front-none (f ∷ fs) = refl

-- adding two numbers' bits to the front is adding those of their sum
add_to_front-twice : (n : ℕ) (front : List Bool) (a b : ℕ) → add_to_front (add_to_front front (bits n a)) (bits n b) ≡ add_to_front front (bits n (bit_xor a b))
unfolding bits
add_to_front-twice zero front a b = add_to_front-none (add_to_front front [])
add_to_front-twice (suc n) [] a b = refl
add_to_front-twice (suc n) (f ∷ fs) a b =
    let head = xor_assoc f (eqb (a % 2) 1) (eqb (b % 2) 1) ∙ ap (xor f) (sym (xor-lowest a b)) in
    let tail = add_to_front-twice n fs (a / 2) (b / 2) ∙ ap (λ (x : ℕ). add_to_front fs (bits n x)) (sym (xor-half a b)) in
    ap (λ (x : Bool). x ∷ add_to_front (add_to_front fs (bits n (a / 2))) (bits n (b / 2))) head
    ∙ ap (λ (xs : List Bool). xor f (eqb (bit_xor a b % 2) 1) ∷ xs) tail

-- a byte in front of the rest goes into the register
add_to_front-byte : (k n : ℕ) (rest : List Bool) (byte r : ℕ) → k ≤ n → byte < 2 ^ k
    → add_to_front (bits k byte ++ rest) (bits n r) ≡ add_to_front (replicate k false ++ rest) (bits n (bit_xor r byte))
unfolding bits
add_to_front-byte zero n rest byte r fits small =
    let none : byte ≡ 0 = omega arith in
    ap (λ (x : ℕ). add_to_front rest (bits n x)) (sym (xor-zero r) ∙ ap (bit_xor r) (sym none))
add_to_front-byte (suc k) zero rest byte r fits small = absurd (omega arith)
add_to_front-byte (suc k) (suc n) rest byte r fits small =
    let power = pow-suc 2 k in
    let head = xor_comm (eqb (byte % 2) 1) (eqb (r % 2) 1) ∙ sym (xor-lowest r byte) in
    let tail = add_to_front-byte k n rest (byte / 2) (r / 2) (omega arith) (omega arith) ∙ ap (λ (x : ℕ). add_to_front (replicate k false ++ rest) (bits n x)) (sym (xor-half r byte)) in
    ap (λ (x : Bool). x ∷ add_to_front (bits k (byte / 2) ++ rest) (bits n (r / 2))) head
    ∙ ap (λ (xs : List Bool). eqb (bit_xor r byte % 2) 1 ∷ xs) tail

-- a bit more of a number that has no such bit
add_to_front-one_more : (n : ℕ) (front : List Bool) (r : ℕ) → r < 2 ^ n → add_to_front front (bits (suc n) r) ≡ add_to_front front (bits n r)
unfolding bits
add_to_front-one_more n [] r small = refl
add_to_front-one_more zero (f ∷ fs) r small =
    let none : r ≡ 0 = omega arith in
    ap (λ (x : ℕ). xor f (eqb (x % 2) 1) ∷ add_to_front fs []) none
    ∙ ap (λ (x : Bool). x ∷ add_to_front fs []) (xor-false f)
    ∙ ap (λ (xs : List Bool). f ∷ xs) (add_to_front-none fs)
add_to_front-one_more (suc n) (f ∷ fs) r small =
    let power = pow-suc 2 n in
    ap (λ (xs : List Bool). xor f (eqb (r % 2) 1) ∷ xs) (add_to_front-one_more n fs (r / 2) (omega arith))

-- the register stays below 2 ^ 32
shifted_of-lt : (r : ℕ) → r < 2 ^ 32 → shifted_of r < 2 ^ 32
unfolding shifted_of
shifted_of-lt r small =
    let half : r / 2 < 2 ^ 32 = omega arith in
    elim (eqb (r % 2) 1) as (λ b. cond b (bit_xor (r / 2) SEAL_POLYNOMIAL) (r / 2) < 2 ^ 32) [
      | true ↦ xor_lt 32 (r / 2) SEAL_POLYNOMIAL half (omega arith)
      | false ↦ half
    ]

-- one step of the division
divided-step : (s : ℕ) (rest : List Bool) (r : ℕ) → r < 2 ^ 32 → divided (suc s) (add_to_front (false ∷ rest) (bits 32 r)) ≡ divided s (add_to_front rest (bits 32 (shifted_of r)))
unfolding shifted_of
divided-step s rest r small =
    let whole : bits 32 r ≡ eqb (r % 2) 1 ∷ bits 31 (r / 2) = unfold bits in refl in
    let short = add_to_front rest (bits 31 (r / 2)) in
    let longer : short ≡ add_to_front rest (bits 32 (r / 2)) = sym (add_to_front-one_more 31 rest (r / 2) (omega arith)) in
    let taken : add_to_front short divisor ≡ add_to_front rest (bits 32 (bit_xor (r / 2) SEAL_POLYNOMIAL)) =
    ap (λ (xs : List Bool). add_to_front xs divisor) longer
    ∙ ap (add_to_front (add_to_front rest (bits 32 (r / 2)))) (coefficients-bits 32 SEAL_POLYNOMIAL)
    ∙ add_to_front-twice 32 rest (r / 2) SEAL_POLYNOMIAL in
    ap (λ (xs : List Bool). divided (suc s) (add_to_front (false ∷ rest) xs)) whole
    ∙ ap (divided s)
    (elim (eqb (r % 2) 1) as (λ b. cond b (add_to_front short divisor) short ≡ add_to_front rest (bits 32 (cond b (bit_xor (r / 2) SEAL_POLYNOMIAL) (r / 2)))) [
      | true ↦ taken
      | false ↦ longer
    ])

-- n and s, so that it computes
plus : ℕ → ℕ → ℕ
plus zero s = s
plus (suc n) s = suc (plus n s)

plus-is : (n s : ℕ) → plus n s ≡ n + s
unfolding plus
plus-is zero s = omega arith
plus-is (suc n) s = omega (arith, plus-is n s)

-- the first step first or last
shifted_times-first : (n r : ℕ) → shifted_times n (shifted_of r) ≡ shifted_of (shifted_times n r)
unfolding shifted_times
shifted_times-first zero r = refl
shifted_times-first (suc n) r = ap shifted_of (shifted_times-first n r)

shifted_times-lt : (n r : ℕ) → r < 2 ^ 32 → shifted_times n r < 2 ^ 32
unfolding shifted_times
shifted_times-lt zero r small = small
shifted_times-lt (suc n) r small = shifted_of-lt (shifted_times n r) (shifted_times-lt n r small)

-- n steps of the division
divided-steps : (n s : ℕ) (rest : List Bool) (r : ℕ) → r < 2 ^ 32
    → divided (plus n s) (add_to_front (replicate n false ++ rest) (bits 32 r)) ≡ divided s (add_to_front rest (bits 32 (shifted_times n r)))
unfolding plus shifted_times
divided-steps zero s rest r small = refl
divided-steps (suc n) s rest r small =
    divided-step (plus n s) (replicate n false ++ rest) r small
    ∙ divided-steps n s rest (shifted_of r) (shifted_of-lt r small)
    ∙ ap (λ (x : ℕ). divided s (add_to_front rest (bits 32 x))) (shifted_times-first n r)

-- a byte
divided-byte : (s byte : ℕ) (rest : List Bool) (r : ℕ) → r < 2 ^ 32 → byte < 256
    → divided (8 + s) (add_to_front (coefficients 8 byte ++ rest) (bits 32 r)) ≡ divided s (add_to_front rest (bits 32 (register_with r byte)))
unfolding register_with
divided-byte s byte rest r small fits =
    ap (λ (xs : List Bool). divided (8 + s) (add_to_front (xs ++ rest) (bits 32 r))) (coefficients-bits 8 byte)
    ∙ ap (divided (8 + s)) (add_to_front-byte 8 32 rest byte r (omega arith) (omega arith))
    ∙ ap (λ (n : ℕ). divided n (add_to_front (replicate 8 false ++ rest) (bits 32 (bit_xor r byte)))) (sym (plus-is 8 s))
    ∙ divided-steps 8 s rest (bit_xor r byte) (xor_lt 32 r byte small (omega arith))

-- bytes
divided-bytes : (bytes : List ℕ) (rest : List Bool) (r : ℕ) → r < 2 ^ 32 → ((k : ℕ) → get_or bytes k 0 < 256)
    → divided (8 * length bytes) (add_to_front (flat_map (coefficients 8) bytes ++ rest) (bits 32 r)) ≡ add_to_front rest (bits 32 (fold register_with r bytes))
divided-bytes [] rest r small fits = refl
divided-bytes (byte ∷ bytes) rest r small fits =
    let count : 8 * length (byte ∷ bytes) ≡ 8 + 8 * length bytes = omega arith in
    let others = flat_map (coefficients 8) bytes ++ rest in
    let next : register_with r byte < 2 ^ 32 = unfold register_with in shifted_times-lt 8 (bit_xor r byte) (xor_lt 32 r byte small (omega (arith, fits 0))) in
    ap (λ (n : ℕ). divided n (add_to_front ((coefficients 8 byte ++ flat_map (coefficients 8) bytes) ++ rest) (bits 32 r))) count
    ∙ ap (λ (xs : List Bool). divided (8 + 8 * length bytes) (add_to_front xs (bits 32 r))) (append_assoc (coefficients 8 byte) (flat_map (coefficients 8) bytes) rest)
    ∙ divided-byte (8 * length bytes) byte others r small (fits 0)
    ∙ divided-bytes bytes rest (register_with r byte) next (λ k. fits (suc k))

-- zeros take the register's bits
add_to_front-zeros : (n r : ℕ) → add_to_front (replicate n false) (bits n r) ≡ bits n r
unfolding bits
add_to_front-zeros zero r = refl
add_to_front-zeros (suc n) r = ap (λ (xs : List Bool). eqb (r % 2) 1 ∷ xs) (add_to_front-zeros n (r / 2))

-- a bit's worth
bit_value : (x : ℕ) → x < 2 → (if eqb x 1 then 1 else 0) ≡ x
bit_value zero small = refl
bit_value (suc zero) small = refl
bit_value (suc (suc x)) small = absurd (omega arith)

-- the number of the bits of a number
number_of_bits-bits : (n r : ℕ) → r < 2 ^ n → number_of_bits (bits n r) ≡ r
unfolding bits
number_of_bits-bits zero r small = omega arith
number_of_bits-bits (suc n) r small =
    let power = pow-suc 2 n in
    let rest = number_of_bits-bits n (r / 2) (omega arith) in
    let lowest = bit_value (r % 2) (omega arith) in
    omega arith

fold-lt : (bytes : List ℕ) (r : ℕ) → r < 2 ^ 32 → ((k : ℕ) → get_or bytes k 0 < 256) → fold register_with r bytes < 2 ^ 32
unfolding register_with
fold-lt [] r small fits = small
fold-lt (byte ∷ bytes) r small fits =
    fold-lt bytes (register_with r byte) (shifted_times-lt 8 (bit_xor r byte) (xor_lt 32 r byte small (omega (arith, fits 0)))) (λ k. fits (suc k))

-- the register holds the seal once it took in the bytes
pub register_after-seal : (bytes : List ℕ) → ((k : ℕ) → get_or bytes k 0 < 256) → register_after bytes ≡ seal_of_bytes bytes
unfolding seal_of_bytes
register_after-seal bytes fits =
    let seed : SEAL_SEED < 2 ^ 32 = omega arith in
    let small = fold-lt bytes SEAL_SEED seed fits in
    let start : sealed_polynomial bytes ≡ add_to_front (flat_map (coefficients 8) bytes ++ replicate 32 false) (bits 32 SEAL_SEED) =
    ap (add_to_front (flat_map (coefficients 8) bytes ++ replicate 32 false)) (coefficients-bits 32 SEAL_SEED) in
    sym (ap (λ (xs : List Bool). number_of_bits (divided (8 * length bytes) xs)) start
    ∙ ap number_of_bits (divided-bytes bytes (replicate 32 false) SEAL_SEED seed fits ∙ add_to_front-zeros 32 (register_after bytes))
    ∙ number_of_bits-bits 32 (register_after bytes) small)

-- the lowest bit, as a program tests it
and-one : (r : ℕ) → bit_and r 1 ≡ r % 2
and-one r = omega (arith, and_pow r 0, bit_at_lowest r)

pub shifted_of-odd : (r : ℕ) → bit_and r 1 ≡ 1 → bit_xor (r / 2) SEAL_POLYNOMIAL ≡ shifted_of r
unfolding shifted_of
shifted_of-odd r odd = sym (cond-true (eqb (r % 2) 1) _ _ (eq-eqb (r % 2) 1 (omega (arith, and-one r))))

pub shifted_of-even : (r : ℕ) → bit_and r 1 ≢ 1 → r / 2 ≡ shifted_of r
unfolding shifted_of
shifted_of-even r even = sym (cond-false (eqb (r % 2) 1) _ _ (ne_eqb (r % 2) 1 (λ odd. even (and-one r ∙ odd))))

-- the first bytes are bytes
pub get_or-take-lt : (n : ℕ) (xs : List ℕ) → ((k : ℕ) → get_or xs k 0 < 256) → (k : ℕ) → get_or (take n xs) k 0 < 256
get_or-take-lt n xs fits k = elim (cases_lt k n) [
  | inl within ↦
      let byte = fits k in
      let same = get_or-take n xs k 0 within in
      omega arith
  | inr past ↦
      let none = get_or_past (take n xs) k 0 (omega (arith, length-take n xs)) in
      omega arith
]

-- What a block reads as once bytes were written into it.
use Rattle.std.proofs.Common.{min, ◌*◌, [], ◌∷◌, slice_range, slice_set, append_assoc, drop-drop, get_or-append-add, ◌≡◌, ℕ, zero, suc, ◌+◌, ◌-◌, ◌^◌, ◌<◌, ◌≤◌, List, ◌++◌, length, take, drop, get_or, sym, ap, ◌∙◌, refl, arith, length-append, length-drop, get_or-drop}
use Rattle.std.proofs.lemmas.List.{length-take, set_split, take_at, take-append-le, drop_at, get_or-take, get_or-append_right, get_or_append_left, length-take-le, take-take}
use Rattle.std.proofs.lemmas.List.FromFn.{length-map-range_with_len, get_or-map-range_with_len}
use Rattle.std.specs.List.{flat_map}
use Rattle.std.proofs.lemmas.Grind.{same_number_lists}
use Rattle.std.proofs.Math.Nat.{mul-le-mul_left}
use Rattle.byteorder.specs.Endian.{little_from, little_number}
use Rattle.byteorder.specs.Numbers.{length-bytes_low_first, little_from-lt, little_number-reads_back}
use Rattle.f2_format.specs.Bytes.{numbers_at, number_at, number_bytes, with_bytes}

-- a number of n bytes has n bytes
pub length-number_bytes : (n number : ℕ) → length (number_bytes n number) ≡ n
unfolding number_bytes
length-number_bytes n number = length-bytes_low_first 0 n number

-- the block keeps its length
pub length-with_bytes : (block : List ℕ) (at : ℕ) (bytes : List ℕ) → at + length bytes ≤ length block → length (with_bytes block at bytes) ≡ length block
unfolding with_bytes
length-with_bytes block at bytes fits =
    let front = length-take-le {A = ℕ} at block (omega arith) in
    omega (arith, length-append (take at block) (bytes ++ drop (at + length bytes) block), length-append bytes (drop (at + length bytes) block), length-drop (at + length bytes) block, front)

-- a byte before the bytes written stays
pub get_or-with_bytes_before : (block : List ℕ) (at : ℕ) (bytes : List ℕ) (k : ℕ) → at ≤ length block → k < at → get_or (with_bytes block at bytes) k 0 ≡ get_or block k 0
unfolding with_bytes
get_or-with_bytes_before block at bytes k fits before =
    let front = length-take-le {A = ℕ} at block (omega arith) in
    get_or_append_left (take at block) (bytes ++ drop (at + length bytes) block) 0 k (omega arith)
    ∙ get_or-take at block k 0 before

-- a byte past the bytes written stays
pub get_or-with_bytes_past : (block : List ℕ) (at : ℕ) (bytes : List ℕ) (k : ℕ) → at + length bytes ≤ length block → at + length bytes ≤ k → get_or (with_bytes block at bytes) k 0 ≡ get_or block k 0
unfolding with_bytes
get_or-with_bytes_past block at bytes k fits past =
    let front = length-take-le {A = ℕ} at block (omega arith) in
    get_or-append_right (take at block) (bytes ++ drop (at + length bytes) block) at k 0 front (omega arith)
    ∙ get_or-append_right bytes (drop (at + length bytes) block) (length bytes) (k - at) 0 refl (omega arith)
    ∙ get_or-drop (at + length bytes) block (k - at - length bytes) 0
    ∙ ap (λ (j : ℕ). get_or block j 0) (omega arith)

-- what begins with the bytes written
pub drop-with_bytes : (block : List ℕ) (at : ℕ) (bytes : List ℕ) → at ≤ length block → drop at (with_bytes block at bytes) ≡ bytes ++ drop (at + length bytes) block
unfolding with_bytes
drop-with_bytes block at bytes fits = drop_at (take at block) (bytes ++ drop (at + length bytes) block) at (length-take-le at block fits)

-- the number in n bytes from i on reads these alone
little_from-same : (i n : ℕ) (xs ys : List ℕ) → ((k : ℕ) → i ≤ k → k < i + n → get_or xs k 0 ≡ get_or ys k 0) → little_from i n xs ≡ little_from i n ys
little_from-same i zero xs ys same = refl
little_from-same i (suc n) xs ys same =
    let byte = same i (omega arith) (omega arith) in
    let rest = little_from-same (suc i) n xs ys (λ k low high. same k (omega arith) (omega arith)) in
    rw (byte, rest) refl

-- a number reads its own bytes alone
pub number_at-same : (n : ℕ) (xs ys : List ℕ) (i j : ℕ) → ((k : ℕ) → k < n → get_or xs (i + k) 0 ≡ get_or ys (j + k) 0) → number_at n xs i ≡ number_at n ys j
unfolding number_at
number_at-same n xs ys i j same =
    little_from-same 0 n (drop i xs) (drop j ys)
    (λ k low high. get_or-drop i xs k 0 ∙ same k (omega arith) ∙ sym (get_or-drop j ys k 0))

-- a number that was written is read
pub number_at-with_bytes_same : (n : ℕ) (block : List ℕ) (at number : ℕ) → at ≤ length block → number < 256 ^ n → number_at n (with_bytes block at (number_bytes n number)) at ≡ number
unfolding number_at number_bytes
number_at-with_bytes_same n block at number fits small =
    ap (λ (xs : List ℕ). little_number n xs) (drop-with_bytes block at (number_bytes n number) fits)
    ∙ little_number-reads_back n number _ small

-- a number elsewhere stays
pub number_at-with_bytes_before : (n : ℕ) (block : List ℕ) (at : ℕ) (bytes : List ℕ) (j : ℕ) → at ≤ length block → j + n ≤ at → number_at n (with_bytes block at bytes) j ≡ number_at n block j
number_at-with_bytes_before n block at bytes j fits before =
    number_at-same n _ _ j j (λ k h. get_or-with_bytes_before block at bytes (j + k) fits (omega arith))

pub number_at-with_bytes_past : (n : ℕ) (block : List ℕ) (at : ℕ) (bytes : List ℕ) (j : ℕ) → at + length bytes ≤ length block → at + length bytes ≤ j → number_at n (with_bytes block at bytes) j ≡ number_at n block j
number_at-with_bytes_past n block at bytes j fits past =
    number_at-same n _ _ j j (λ k h. get_or-with_bytes_past block at bytes (j + k) fits (omega arith))

-- a number of n bytes is below 256 ^ n
pub number_at-lt : (n : ℕ) (block : List ℕ) (at : ℕ) → ((k : ℕ) → get_or block k 0 < 256) → number_at n block at < 256 ^ n
unfolding number_at
number_at-lt n block at bytes =
    little_from-lt 0 n (drop at block) (λ k. rw (get_or-drop at block k 0) (bytes (at + k)))

-- what stands before the bytes written stays
pub take-with_bytes_before : (k : ℕ) (block : List ℕ) (at : ℕ) (bytes : List ℕ) → at ≤ length block → k ≤ at → take k (with_bytes block at bytes) ≡ take k block
unfolding with_bytes
take-with_bytes_before k block at bytes fits before =
    let front = length-take-le {A = ℕ} at block fits in
    take-append-le k (take at block) (bytes ++ drop (at + length bytes) block) (omega arith) ∙ take-take k at block before

-- what stands past the bytes written stays
pub drop-with_bytes_past : (k : ℕ) (block : List ℕ) (at : ℕ) (bytes : List ℕ) → at + length bytes ≤ length block → at + length bytes ≤ k → drop k (with_bytes block at bytes) ≡ drop k block
drop-with_bytes_past k block at bytes fits past =
    let len = length-with_bytes block at bytes fits in
    same_number_lists (drop k (with_bytes block at bytes)) (drop k block)
    (omega (arith, length-drop k (with_bytes block at bytes), length-drop k block))
    (λ i h. get_or-drop k (with_bytes block at bytes) i 0 ∙ get_or-with_bytes_past block at bytes (k + i) fits (omega arith) ∙ sym (get_or-drop k block i 0))

-- one byte written is that byte set
pub slice_set-is : (block : List ℕ) (at byte : ℕ) → at < length block → slice_set block at byte ≡ with_bytes block at (byte ∷ [])
unfolding with_bytes
slice_set-is block at byte within =
    let next : suc at ≡ at + 1 = omega arith in
    set_split block at byte within ∙ ap (λ (j : ℕ). take at block ++ byte ∷ drop j block) next

-- bytes written next to bytes are one row of bytes
pub with_bytes-next : (block : List ℕ) (at next : ℕ) (xs ys : List ℕ) → next ≡ at + length xs → next ≤ length block
    → with_bytes (with_bytes block at xs) next ys ≡ with_bytes block at (xs ++ ys)
unfolding with_bytes
with_bytes-next block at next xs ys is fits =
    let rest = drop (at + length xs) block in
    let front_length : length (take at block ++ xs) ≡ next =
    length-append (take at block) xs ∙ ap (λ (n : ℕ). n + length xs) (length-take-le at block (omega arith)) ∙ sym is in
    let regrouped = sym (append_assoc (take at block) xs rest) in
    let front : take next (take at block ++ (xs ++ rest)) ≡ take at block ++ xs =
    ap (take next) regrouped ∙ take_at (take at block ++ xs) rest next front_length in
    let past : drop next (take at block ++ (xs ++ rest)) ≡ rest =
    ap (drop next) regrouped ∙ drop_at (take at block ++ xs) rest next front_length in
    let back : drop (next + length ys) (take at block ++ (xs ++ rest)) ≡ drop (at + length (xs ++ ys)) block =
    sym (drop-drop (length ys) next (take at block ++ (xs ++ rest)))
    ∙ ap (drop (length ys)) past
    ∙ drop-drop (length ys) (at + length xs) block
    ∙ ap (λ (j : ℕ). drop j block) (omega (arith, length-append xs ys)) in
    ap (λ (zs : List ℕ). zs ++ (ys ++ drop (next + length ys) (take at block ++ (xs ++ rest)))) front
    ∙ ap (λ (zs : List ℕ). (take at block ++ xs) ++ (ys ++ zs)) back
    ∙ append_assoc (take at block) xs (ys ++ drop (at + length (xs ++ ys)) block)
    ∙ ap (λ (zs : List ℕ). take at block ++ zs) (sym (append_assoc xs ys (drop (at + length (xs ++ ys)) block)))

-- the bytes that were written are read
pub slice_range-with_bytes_same : (block : List ℕ) (at : ℕ) (bytes : List ℕ) (to : ℕ) → at ≤ length block → to ≡ at + length bytes
    → slice_range (with_bytes block at bytes) at to ≡ bytes
slice_range-with_bytes_same block at bytes to fits is =
    ap (λ (xs : List ℕ). take (to - at) xs) (drop-with_bytes block at bytes fits)
    ∙ take_at bytes (drop (at + length bytes) block) (to - at) (omega arith)

-- a range reads its own bytes alone
pub slice_range-same : (xs ys : List ℕ) (i j : ℕ) → length xs ≡ length ys → ((k : ℕ) → i ≤ k → k < j → get_or xs k 0 ≡ get_or ys k 0) → slice_range xs i j ≡ slice_range ys i j
slice_range-same xs ys i j long same =
    let lx = length-take (j - i) (drop i xs) ∙ ap (λ (n : ℕ). min (j - i) n) (length-drop i xs) in
    let ly = length-take (j - i) (drop i ys) ∙ ap (λ (n : ℕ). min (j - i) n) (length-drop i ys) in
    same_number_lists (slice_range xs i j) (slice_range ys i j) (omega arith)
    (λ k h.
    get_or-take (j - i) (drop i xs) k 0 (omega arith) ∙ get_or-drop i xs k 0 ∙ same (i + k) (omega arith) (omega arith)
    ∙ sym (get_or-take (j - i) (drop i ys) k 0 (omega arith) ∙ get_or-drop i ys k 0))

-- so many numbers
pub length-numbers_at : (n : ℕ) (block : List ℕ) (at count : ℕ) → length (numbers_at n block at count) ≡ count
unfolding numbers_at
length-numbers_at n block at count = length-map-range_with_len (λ k. number_at n block (at + n * k)) 0 count

-- one of the numbers
pub get_or-numbers_at : (n : ℕ) (block : List ℕ) (at count k : ℕ) → k < count → get_or (numbers_at n block at count) k 0 ≡ number_at n block (at + n * k)
unfolding numbers_at
get_or-numbers_at n block at count k h =
    get_or-map-range_with_len (λ k. number_at n block (at + n * k)) 0 count k k 0 h (omega arith)

-- a list whose numbers stand there
pub numbers_at-is : (n : ℕ) (block : List ℕ) (at count : ℕ) (xs : List ℕ) → length xs ≡ count → ((k : ℕ) → k < count → get_or xs k 0 ≡ number_at n block (at + n * k)) → xs ≡ numbers_at n block at count
numbers_at-is n block at count xs long each =
    same_number_lists xs (numbers_at n block at count) (long ∙ sym (length-numbers_at n block at count))
    (λ k h. each k (omega arith) ∙ sym (get_or-numbers_at n block at count k (omega arith)))

-- the bytes of numbers, one after another, have their length
pub length-flat_map_numbers : (n : ℕ) (xs : List ℕ) → length (flat_map (number_bytes n) xs) ≡ n * length xs
length-flat_map_numbers n [] = omega arith
length-flat_map_numbers n (x ∷ xs) =
    omega (arith, length-flat_map_numbers n xs, length-number_bytes n x, length-append (number_bytes n x) (flat_map (number_bytes n) xs))

-- the number at the front is read
number_at-front : (n x : ℕ) (rest : List ℕ) → x < 256 ^ n → number_at n (number_bytes n x ++ rest) 0 ≡ x
unfolding number_at number_bytes
number_at-front n x rest small = little_number-reads_back n x rest small

-- numbers that were written one after another are read
pub number_at-flat_map : (n : ℕ) (xs rest : List ℕ) (k : ℕ) → k < length xs → get_or xs k 0 < 256 ^ n → number_at n (flat_map (number_bytes n) xs ++ rest) (n * k) ≡ get_or xs k 0
number_at-flat_map n [] rest k within small = absurd (omega arith)
number_at-flat_map n (x ∷ xs) rest zero within small =
    let start : n * 0 ≡ 0 = omega arith in
    ap (number_at n ((number_bytes n x ++ flat_map (number_bytes n) xs) ++ rest)) start
    ∙ ap (λ (b : List ℕ). number_at n b 0) (append_assoc (number_bytes n x) (flat_map (number_bytes n) xs) rest)
    ∙ number_at-front n x (flat_map (number_bytes n) xs ++ rest) small
number_at-flat_map n (x ∷ xs) rest (suc k) within small =
    let front = length-number_bytes n x in
    let back = flat_map (number_bytes n) xs ++ rest in
    ap (λ (b : List ℕ). number_at n b (n * suc k)) (append_assoc (number_bytes n x) (flat_map (number_bytes n) xs) rest)
    ∙ number_at-same n (number_bytes n x ++ back) back (n * suc k) (n * k)
    (λ i h.
    let place : n * suc k + i ≡ length (number_bytes n x) + (n * k + i) = omega arith in
    ap (λ (j : ℕ). get_or (number_bytes n x ++ back) j 0) place ∙ get_or-append-add (number_bytes n x) back (n * k + i) 0)
    ∙ number_at-flat_map n xs rest k (omega arith) small

-- numbers written one after another into a block are read
pub numbers_at-with_bytes_same : (n : ℕ) (block : List ℕ) (at : ℕ) (xs : List ℕ) (count : ℕ) → at ≤ length block → length xs ≡ count → ((k : ℕ) → k < count → get_or xs k 0 < 256 ^ n)
    → numbers_at n (with_bytes block at (flat_map (number_bytes n) xs)) at count ≡ xs
numbers_at-with_bytes_same n block at xs count fits long small =
    let bytes = flat_map (number_bytes n) xs in
    let rest = drop (at + length bytes) block in
    sym (numbers_at-is n (with_bytes block at bytes) at count xs long
    (λ k h.
    sym (number_at-flat_map n xs rest k (omega arith) (small k h))
    ∙ number_at-same n (bytes ++ rest) (with_bytes block at bytes) (n * k) (at + n * k)
    (λ i l.
    ap (λ (b : List ℕ). get_or b (n * k + i) 0) (sym (drop-with_bytes block at bytes fits))
    ∙ get_or-drop at (with_bytes block at bytes) (n * k + i) 0
    ∙ ap (λ (j : ℕ). get_or (with_bytes block at bytes) j 0) (omega arith))))

-- numbers read their own bytes alone
pub numbers_at-same : (n : ℕ) (xs ys : List ℕ) (at count : ℕ) → ((k : ℕ) → at ≤ k → k < at + n * count → get_or xs k 0 ≡ get_or ys k 0) → numbers_at n xs at count ≡ numbers_at n ys at count
numbers_at-same n xs ys at count same =
    numbers_at-is n ys at count (numbers_at n xs at count) (length-numbers_at n xs at count)
    (λ k h.
    get_or-numbers_at n xs at count k h
    ∙ number_at-same n xs ys (at + n * k) (at + n * k)
    (λ i l.
    let room : n * suc k ≤ n * count = mul-le-mul_left n h in
    same (at + n * k + i) (omega arith) (omega arith)))

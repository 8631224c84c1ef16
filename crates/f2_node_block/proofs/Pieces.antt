-- Parts of a block that were written and read as slices.
use Rattle.std.proofs.Common.{◌≡◌, ℕ, ◌+◌, ◌-◌, ◌*◌, ◌<◌, ◌≤◌, List, ◌++◌, length, take, drop, get_or, replicate, sym, ap, ◌∙◌, arith, length-drop, get_or-drop}
use Rattle.std.proofs.lemmas.List.{drop-drop, get_or-take, get_or-replicate, length-replicate}
use Rattle.std.proofs.lemmas.Grind.{same_number_lists}
use borrow.Rule.Slice.PartMut.{put_mid, mid_of}
use Rattle.byteorder.specs.Endian.{IsRead, little_number}
use Rattle.f2_format.specs.Bytes.{number_at, numbers_at, with_bytes, zeros}
use Rattle.f2_format.proofs.BytesLemmas.{number_at-same, numbers_at-is}

-- there are so many zeros
pub length-zeros : (n : ℕ) → length (zeros n) ≡ n
unfolding zeros
length-zeros n = length-replicate n 0

-- each of them is 0
pub get_or-zeros : (n k : ℕ) → k < n → get_or (zeros n) k 0 ≡ 0
unfolding zeros
get_or-zeros n k within = get_or-replicate n k 0 0 within

-- a part that was written
pub put_mid-is : (at k : ℕ) (block written bytes : List ℕ) → written ≡ bytes → k ≡ length bytes → put_mid at k block written ≡ with_bytes block at bytes
unfolding with_bytes
put_mid-is at k block written bytes same long =
    ap (λ (xs : List ℕ). take at block ++ (xs ++ drop k (drop at block))) same
    ∙ ap (λ (xs : List ℕ). take at block ++ (bytes ++ xs)) (drop-drop k at block ∙ ap (λ (j : ℕ). drop (at + j) block) long)

-- numbers that were read from a part
pub numbers-of_part : (at k count : ℕ) (block read : List ℕ) → length read ≡ count → k ≡ 4 * count → IsRead little_number 4 (mid_of at k block) read → read ≡ numbers_at 4 block at count
numbers-of_part at k count block read long whole each =
    numbers_at-is 4 block at count read long
    (λ i h.
    each i (omega arith)
    ∙ unfold number_at in
    number_at-same 4 (mid_of at k block) block (4 * i) (at + 4 * i)
    (λ j l.
    get_or-take k (drop at block) (4 * i + j) 0 (omega arith)
    ∙ get_or-drop at block (4 * i + j) 0
    ∙ ap (λ (m : ℕ). get_or block m 0) (omega arith)))

-- what is left of zeros
pub drop-zeros : (k n : ℕ) → k ≤ n → drop k (replicate n 0) ≡ zeros (n - k)
unfolding zeros
drop-zeros k n within =
    let left = length-drop {A = ℕ} k (replicate n 0) in
    let right = length-replicate {A = ℕ} (n - k) 0 in
    let all = length-replicate {A = ℕ} n 0 in
    same_number_lists (drop k (replicate n 0)) (replicate (n - k) 0) (omega arith)
    (λ i h. get_or-drop k (replicate n 0) i 0 ∙ get_or-replicate n (k + i) 0 0 (omega arith) ∙ sym (get_or-replicate (n - k) i 0 0 (omega arith)))

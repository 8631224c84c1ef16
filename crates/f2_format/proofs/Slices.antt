-- A number read from, or written to, the rest of a block from a place on.
use Rattle.std.proofs.Common.{◌≡◌, ℕ, ◌+◌, ◌≤◌, List, [], ◌++◌, length, take, drop, sym, ap, ◌∙◌, arith, length-drop}
use Rattle.std.proofs.lemmas.List.{take_all, drop_all, drop-drop, append-nil}
use borrow.Rule.Slice.PartMut.{put_mid, mid_of}
use Rattle.byteorder.specs.Endian.{little_number, little_bytes}
use Rattle.byteorder.specs.Numbers.{length-bytes_low_first}
use Rattle.f2_format.specs.Bytes.{number_at, number_bytes, with_bytes}

-- the part up to the end is the rest
mid_of-rest : (at k : ℕ) (b : List ℕ) → at + k ≡ length b → mid_of at k b ≡ drop at b
mid_of-rest at k b h = take_all k (drop at b) (omega (arith, length-drop at b))

-- a number read from the rest is the number at the place
pub number_at-rest : (n at k : ℕ) (b : List ℕ) → at + k ≡ length b → little_number n (mid_of at k b) ≡ number_at n b at
unfolding number_at
number_at-rest n at k b h = ap (λ (xs : List ℕ). little_number n xs) (mid_of-rest at k b h)

-- a number written to the front of the rest is the number at the place
pub put_mid-number : (n v at k : ℕ) (b written : List ℕ) → at + k ≡ length b → at + n ≤ length b
    → written ≡ little_bytes n v ++ drop n (mid_of at k b) → put_mid at k b written ≡ with_bytes b at (number_bytes n v)
unfolding with_bytes number_bytes
put_mid-number n v at k b written whole room is =
    let len = length-bytes_low_first 0 n v in
    let rest : drop n (mid_of at k b) ≡ drop (at + length (little_bytes n v)) b =
    ap (drop n) (mid_of-rest at k b whole) ∙ drop-drop n at b ∙ ap (λ (j : ℕ). drop (at + j) b) (sym len) in
    let past : drop k (drop at b) ≡ [] = drop_all k (drop at b) (omega (arith, length-drop at b)) in
    let all : written ++ drop k (drop at b) ≡ little_bytes n v ++ drop (at + length (little_bytes n v)) b =
    ap (λ (xs : List ℕ). written ++ xs) past ∙ append-nil written ∙ is ∙ ap (λ (xs : List ℕ). little_bytes n v ++ xs) rest in
    ap (λ (xs : List ℕ). take at b ++ xs) all

-- the same over a block that is known in another form
pub put_mid-number_on : (n v at k : ℕ) (b known written : List ℕ) → at + k ≡ length known → at + n ≤ length known → b ≡ known
    → written ≡ little_bytes n v ++ drop n (mid_of at k b) → put_mid at k b written ≡ with_bytes known at (number_bytes n v)
put_mid-number_on n v at k b known written whole room same is =
    let same_length = ap length same in
    put_mid-number n v at k b written (omega arith) (omega arith) is
    ∙ ap (λ (xs : List ℕ). with_bytes xs at (number_bytes n v)) same

-- What a bit that is set or cleared does to the set.
use Rattle.std.proofs.Common.{◌≡◌, ◌≢◌, ℕ, ◌+◌, ◌-◌, ◌*◌, ◌/◌, ◌%◌, ◌^◌, ◌<◌, ◌≤◌, min, true, false, List, length, get_or, set, replicate, bit_or, bit_and, nat_eq, cond, inl, inr, sym, ap, subst, ◌∙◌, arith, length-set, w64, nat_cmp}
use Rattle.std.specs.Int.{bit_at, bit_not}
use Rattle.std.specs.Cmp.{nat_cmp_total}
use Rattle.std.specs.FinSet as sets
use Rattle.std.specs.FinSet.{len-insert, len-remove, len-empty}
use Rattle.std.proofs.lemmas.Bool.{cases_eq, false≢true}
use Rattle.std.proofs.lemmas.Nat.Bits.{bit_at_set_same, bit_at_set_other, bit_at_clear_same, bit_at_clear_other}
use Rattle.f2_bitset.specs.Words.{has_bit, members_of, IsBitmap}
use Rattle.f2_bitset.proofs.Bits.{has_bit-set_same, has_bit-set_other}
use Rattle.std.proofs.lemmas.Bool.{cases_lt}
use Rattle.std.proofs.lemmas.List.{get_or-replicate, get_or_past, length-replicate}
use Rattle.std.proofs.lemmas.Nat.Bits.{bit_at-zero}
use Rattle.f2_bitset.specs.Numbers.{Numbers, IsInRange, IsFull, IsLeastMissing}
use Rattle.f2_bitset.proofs.Members.{where-insert, where-remove, where-none, contains-where_in, len-where_all, len-where-le, len-contained, all-of_len}

-- the words with the bit of the place set
abbrev pub with_bit : List ℕ → ℕ → List ℕ
with_bit words place = set words (place / 64) (bit_or (get_or words (place / 64) 0) (1 * 2 ^ (place % 64) % 2 ^ 64))

-- the words with the bit of the place cleared
abbrev pub without_bit : List ℕ → ℕ → List ℕ
without_bit words place =
    set words (place / 64) (bit_and (get_or words (place / 64) 0) (bit_not w64 (1 * 2 ^ (place % 64) % 2 ^ 64)))

has_bit-with_bit_same : (words : List ℕ) (place : ℕ) → place < 64 * length words → has_bit (with_bit words place) place ≡ true
has_bit-with_bit_same words place within =
    has_bit-set_same words place _ 1 within (bit_at_set_same w64 _ (place % 64) (omega arith))

has_bit-with_bit_other : (words : List ℕ) (place other : ℕ) → place < 64 * length words → other ≢ place → has_bit (with_bit words place) other ≡ has_bit words other
has_bit-with_bit_other words place other within ne =
    has_bit-set_other words place _ other within (λ i _ apart. bit_at_set_other w64 _ (place % 64) (omega arith) i apart) ne

has_bit-without_bit_same : (words : List ℕ) (place : ℕ) → place < 64 * length words → has_bit (without_bit words place) place ≡ false
has_bit-without_bit_same words place within =
    has_bit-set_same words place _ 0 within (bit_at_clear_same w64 _ (place % 64) (omega arith))

has_bit-without_bit_other : (words : List ℕ) (place other : ℕ) → place < 64 * length words → other ≢ place → has_bit (without_bit words place) other ≡ has_bit words other
has_bit-without_bit_other words place other within ne =
    has_bit-set_other words place _ other within (λ i small apart. bit_at_clear_other w64 _ (place % 64) (omega arith) i small apart) ne

-- a set bit is a member more
pub members_of-with_bit : (first count : ℕ) (words : List ℕ) (place : ℕ) → place < count → count ≤ 64 * length words → members_of first count (with_bit words place) ≡ sets.insert (members_of first count words) (first + place)
members_of-with_bit first count words place within covers =
    where-insert first count (has_bit words) (has_bit (with_bit words place)) place within
    (has_bit-with_bit_same words place (omega arith))
    (λ k _ ne. has_bit-with_bit_other words place k (omega arith) ne)

-- a cleared bit is a member less
pub members_of-without_bit : (first count : ℕ) (words : List ℕ) (place : ℕ) → place < count → count ≤ 64 * length words → members_of first count (without_bit words place) ≡ sets.remove (members_of first count words) (first + place)
members_of-without_bit first count words place within covers =
    where-remove first count (has_bit words) (has_bit (without_bit words place)) place within
    (has_bit-without_bit_same words place (omega arith))
    (λ k _ ne. has_bit-without_bit_other words place k (omega arith) ne)

-- the words have a bit for each number
pub covers_of : {first count len low : ℕ} {words : List ℕ} → IsBitmap first count len low words → count ≤ 64 * length words
covers_of is = omega (arith, is.sized)

-- with a bit more the fields still hold together
pub IsBitmap-with_bit : (first count len low : ℕ) (words : List ℕ) (place : ℕ) → IsBitmap first count len low words → place < count → sets.contains (members_of first count words) (first + place) ≡ false → IsBitmap first count (len + 1) low (with_bit words place)
IsBitmap-with_bit first count len low words place is within absent = record {
  fits = is.fits;
  sized = length-set {A = ℕ} _ _ _ ∙ is.sized;
  counted =
      ap (λ n. n + 1) is.counted
      ∙ ap (λ b. cond b (sets.len (members_of first count words)) (sets.len (members_of first count words) + 1)) (sym absent)
      ∙ sym (ap sets.len (members_of-with_bit first count words place within (covers_of is)) ∙ len-insert nat_cmp_total _ _);
  full = λ k h below. elim (cases_eq k place) as (λ _. has_bit (with_bit words place) k ≡ true) [
    | inl same ↦ ap (has_bit (with_bit words place)) same ∙ has_bit-with_bit_same words place (omega (arith, (covers_of is)))
    | inr other ↦ has_bit-with_bit_other words place k (omega (arith, (covers_of is))) other ∙ is.full k h below
  ];
}

-- and with a bit less, if the search begins no later than there
pub IsBitmap-without_bit : (first count len low : ℕ) (words : List ℕ) (place : ℕ) → IsBitmap first count len low words → place < count → sets.contains (members_of first count words) (first + place) ≡ true → IsBitmap first count (len - 1) (min low (place / 64)) (without_bit words place)
IsBitmap-without_bit first count len low words place is within there = record {
  fits = is.fits;
  sized = length-set {A = ℕ} _ _ _ ∙ is.sized;
  counted =
      ap (λ n. n - 1) is.counted
      ∙ ap (λ b. cond b (sets.len (members_of first count words) - 1) (sets.len (members_of first count words))) (sym there)
      ∙ sym (ap sets.len (members_of-without_bit first count words place within (covers_of is)) ∙ len-remove nat_cmp_total _ _);
  full = λ k h below.
      let ne : k ≢ place = omega arith in
      has_bit-without_bit_other words place k (omega (arith, (covers_of is))) ne ∙ is.full k h (omega arith);
}

-- the set of a bitmap
abbrev pub numbers_of : ℕ → ℕ → List ℕ → Numbers
numbers_of first count words = record { first = first; count = count; members = members_of first count words }

-- words of zeros have no bit set
has_bit-zeros : (n k : ℕ) → has_bit (replicate n 0) k ≡ false
has_bit-zeros n k =
    ap (λ w. nat_eq (bit_at w (k % 64)) 1)
    (elim (cases_lt (k / 64) n) as (λ _. ◌≡◌ {A = ℕ} (get_or {A = ℕ} (replicate n 0) (k / 64) 0) 0) [
      | inl within ↦ get_or-replicate n (k / 64) 0 0 within
      | inr past ↦ get_or_past (replicate n 0) (k / 64) 0 (omega (arith, length-replicate {A = ℕ}, past))
    ])
    ∙ ap (λ b. nat_eq b 1) (bit_at-zero (k % 64))

-- and stand for the empty set
pub members_of-zeros : (first count n : ℕ) → members_of first count (replicate n 0) ≡ sets.empty
members_of-zeros first count n = where-none first count (has_bit (replicate n 0)) (λ k _. has_bit-zeros n k)

pub IsBitmap-zeros : (first count n : ℕ) → first + count < 2 ^ 32 → n ≡ (count + 63) / 64 → IsBitmap first count 0 0 (replicate n 0)
IsBitmap-zeros first count n fits sized = record {
  fits = fits;
  sized = length-replicate {A = ℕ} _ _ ∙ sized;
  counted = sym (ap sets.len (members_of-zeros first count n) ∙ len-empty nat_cmp);
  full = λ k _ below. absurd (omega arith);
}

-- where the bits from the low word up to a place are set, all before the place are
has_bit_below : (first count len low : ℕ) (words : List ℕ) (place : ℕ) → IsBitmap first count len low words → place ≤ count → ((other : ℕ) → 64 * low ≤ other → other < place → has_bit words other ≡ true) → (k : ℕ) → k < place → has_bit words k ≡ true
has_bit_below first count len low words place is within before k below =
    elim (cases_lt k (64 * low)) as (λ _. has_bit words k ≡ true) [
      | inl passed ↦ is.full k (omega arith) passed
      | inr searched ↦ before k searched below
    ]

-- the place found is the least that is missing
pub IsLeastMissing-place : (first count len low : ℕ) (words : List ℕ) (place : ℕ) → IsBitmap first count len low words → place < count → has_bit words place ≡ false → ((other : ℕ) → 64 * low ≤ other → other < place → has_bit words other ≡ true) → IsLeastMissing (numbers_of first count words) (first + place)
IsLeastMissing-place first count len low words place is within clear before = record {
  in_range = (omega arith, omega arith);
  missing = contains-where_in first count (has_bit words) place within ∙ clear;
  least = λ m from below.
      let e : first + (m - first) ≡ m = omega arith in
      ap (sets.contains (members_of first count words)) (sym e)
      ∙ contains-where_in first count (has_bit words) (m - first) (omega arith)
      ∙ has_bit_below first count len low words place is (omega arith) before (m - first) (omega arith);
}

-- with a place whose bit is clear not all are members
pub len-gap : (first count : ℕ) (words : List ℕ) (place : ℕ) → place < count → has_bit words place ≡ false → sets.len (members_of first count words) ≢ count
len-gap first count words place within clear all =
    false≢true (sym clear ∙ all-of_len first count (has_bit words) all place within)

-- where none is clear all are members
pub len-full : (first count len low : ℕ) (words : List ℕ) (place : ℕ) → IsBitmap first count len low words → count ≤ place → ((other : ℕ) → 64 * low ≤ other → other < place → has_bit words other ≡ true) → sets.len (members_of first count words) ≡ count
len-full first count len low words place is past before =
    len-where_all first count (has_bit words) (has_bit_below first count len low words count is (omega arith) (λ other from below. before other from (omega arith)))

-- to set the bit of a number that is missing inserts it, and there was room for it
pub insert_bit : (first count len low : ℕ) (words : List ℕ) (number : ℕ) (s : Numbers) → IsBitmap first count len low words → numbers_of first count words ≡ s → IsInRange s number → sets.contains s.members number ≡ false → IsBitmap first count (len + 1) low (with_bit words (number - first)) × (numbers_of first count (with_bit words (number - first)) ≡ record s { members = sets.insert s.members number }) × (len < count)
insert_bit first count len low words number s is view =
    subst (λ (s : Numbers). IsInRange s number → sets.contains s.members number ≡ false → IsBitmap first count (len + 1) low (with_bit words (number - first)) × (numbers_of first count (with_bit words (number - first)) ≡ record s { members = sets.insert s.members number }) × (len < count)) view
    (λ range missing.
    let at : first + (number - first) ≡ number = omega (arith, range.0) in
    let within : number - first < count = omega (arith, range.0, range.1) in
    let absent : sets.contains (members_of first count words) (first + (number - first)) ≡ false = ap (sets.contains (members_of first count words)) at ∙ missing in
    let clear : has_bit words (number - first) ≡ false = sym (contains-where_in first count (has_bit words) (number - first) within) ∙ absent in
    (IsBitmap-with_bit first count len low words (number - first) is within absent, ap (λ m. record { first = first; count = count; members = m }) (members_of-with_bit first count words (number - first) within (covers_of is) ∙ ap (sets.insert (members_of first count words)) at), omega (arith, is.counted, len-where-le first count (has_bit words), len-gap first count words (number - first) within clear)))

-- to clear the bit of a member removes it, and there was one to remove
pub remove_bit : (first count len low : ℕ) (words : List ℕ) (number : ℕ) (s : Numbers) → IsBitmap first count len low words → numbers_of first count words ≡ s → IsInRange s number → sets.contains s.members number ≡ true → IsBitmap first count (len - 1) (min low ((number - first) / 64)) (without_bit words (number - first)) × (numbers_of first count (without_bit words (number - first)) ≡ record s { members = sets.remove s.members number }) × (0 < len)
remove_bit first count len low words number s is view =
    subst (λ (s : Numbers). IsInRange s number → sets.contains s.members number ≡ true → IsBitmap first count (len - 1) (min low ((number - first) / 64)) (without_bit words (number - first)) × (numbers_of first count (without_bit words (number - first)) ≡ record s { members = sets.remove s.members number }) × (0 < len)) view
    (λ range there.
    let at : first + (number - first) ≡ number = omega (arith, range.0) in
    let within : number - first < count = omega (arith, range.0, range.1) in
    let present : sets.contains (members_of first count words) (first + (number - first)) ≡ true = ap (sets.contains (members_of first count words)) at ∙ there in
    (IsBitmap-without_bit first count len low words (number - first) is within present, ap (λ m. record { first = first; count = count; members = m }) (members_of-without_bit first count words (number - first) within (covers_of is) ∙ ap (sets.remove (members_of first count words)) at), omega (arith, is.counted, len-contained (members_of first count words) number there)))

-- the search may begin at the word of the least number that is missing
pub IsBitmap-low : (first count len low : ℕ) (words : List ℕ) (number : ℕ) (s : Numbers) → IsBitmap first count len low words → numbers_of first count words ≡ s → IsLeastMissing s number → IsBitmap first count len ((number - first) / 64) words
IsBitmap-low first count len low words number s is view =
    subst (λ (s : Numbers). IsLeastMissing s number → IsBitmap first count len ((number - first) / 64) words) view
    (λ found. record {
      fits = is.fits;
      sized = is.sized;
      counted = is.counted;
      full = λ k within below.
          sym (contains-where_in first count (has_bit words) k within) ∙ found.least (first + k) (omega arith) (omega (arith, found.in_range.0));
    })

-- and each number of the range is a member then
pub IsFull-len : (first count : ℕ) (words : List ℕ) → sets.len (members_of first count words) ≡ count → IsFull (numbers_of first count words)
IsFull-len first count words all n range =
    let at : first + (n - first) ≡ n = omega (arith, range.0) in
    let within : n - first < count = omega (arith, range.0, range.1) in
    ap (sets.contains (members_of first count words)) (sym at)
    ∙ contains-where_in first count (has_bit words) (n - first) within
    ∙ all-of_len first count (has_bit words) all (n - first) within

-- What a number reads as in a block into which several numbers were written.
use Rattle.std.proofs.Common.{◌≡◌, ℕ, ◌+◌, ◌^◌, ◌<◌, ◌≤◌, Bool, true, cond, ◌&&◌, ◌||◌, eqb, leb, List, [], ◌∷◌, length, take, ◌∙◌, refl, arith, subst, inl, inr}
use Rattle.std.proofs.lemmas.Bool.{cond_both, and_parts, or_cases, eqb-true, leb-true}
use Rattle.f2_format.specs.Bytes.{number_at, number_bytes, with_bytes}
use Rattle.f2_format.proofs.BytesLemmas.{length-number_bytes, length-with_bytes, number_at-with_bytes_same, number_at-with_bytes_before, number_at-with_bytes_past, take-with_bytes_before}

-- a number to be written: where, in how many bytes, and the number
pub record Number : Type 0 where
  pub at : ℕ
  pub width : ℕ
  pub number : ℕ

-- a number, so placed
abbrev pub num : ℕ → ℕ → ℕ → Number
num at width number = record { at = at; width = width; number = number }

-- the block with these numbers
abbrev pub with_numbers : List ℕ → List Number → List ℕ
with_numbers block [] = block
with_numbers block (x ∷ xs) = with_numbers (with_bytes block x.at (number_bytes x.width x.number)) xs

-- they all stand within so many bytes
abbrev pub all_within : ℕ → List Number → Bool
all_within len [] = true
all_within len (x ∷ xs) = leb (x.at + x.width) len && all_within len xs

-- what the n bytes from j on have of these numbers: nothing, one whole number, or parts
pub data Part : Type 0 where
  none : Part
  whole : ℕ → Part
  mixed : Part

-- the part of one number, where the ones after it have no part
abbrev pub part_of : ℕ → ℕ → Number → Part
part_of n j x =
    cond (eqb x.at j && eqb x.width n) (whole x.number) (cond (leb (j + n) x.at || leb (x.at + x.width) j) none mixed)

-- the last part stays
abbrev pub last_part : Part → Part → Part
last_part first none = first
last_part first (whole number) = whole number
last_part first mixed = mixed

-- the part of all of them
abbrev pub part : ℕ → ℕ → List Number → Part
part n j [] = none
part n j (x ∷ xs) = last_part (part_of n j x) (part n j xs)

-- what such a part reads as
abbrev pub ReadsAs : ℕ → ℕ → List ℕ → List ℕ → Part → Type 0
ReadsAs n j before after none = number_at n after j ≡ number_at n before j
ReadsAs n j before after (whole number) = number < 256 ^ n → number_at n after j ≡ number
ReadsAs n j before after mixed = Unit {0}

-- a number keeps the length
length-placed : (len : ℕ) (block : List ℕ) (x : Number) → length block ≡ len → x.at + x.width ≤ len
    → length (with_bytes block x.at (number_bytes x.width x.number)) ≡ len
length-placed len block x is room =
    let width = length-number_bytes x.width x.number in
    length-with_bytes block x.at (number_bytes x.width x.number) (omega arith) ∙ is

-- numbers keep the length
pub length-with_numbers : (len : ℕ) (block : List ℕ) (xs : List Number) → length block ≡ len → all_within len xs ≡ true → length (with_numbers block xs) ≡ len
length-with_numbers len block [] is within = is
length-with_numbers len block (x ∷ xs) is within =
    let both = and_parts (leb (x.at + x.width) len) (all_within len xs) within in
    let room = leb-true (x.at + x.width) len both.0 in
    length-with_numbers len (with_bytes block x.at (number_bytes x.width x.number)) xs (length-placed len block x is room) both.1

-- one number
part_of_reads : (n j len : ℕ) (block : List ℕ) (x : Number) → length block ≡ len → x.at + x.width ≤ len
    → ReadsAs n j block (with_bytes block x.at (number_bytes x.width x.number)) (part_of n j x)
part_of_reads n j len block x is within =
    let width = length-number_bytes x.width x.number in
    let after = with_bytes block x.at (number_bytes x.width x.number) in
    let P : Part → Type 0 = λ p. ReadsAs n j block after p in
    cond_both (eqb x.at j && eqb x.width n) (whole x.number) _ P
    (λ here.
    let both = and_parts (eqb x.at j) (eqb x.width n) here in
    let at : x.at ≡ j = eqb-true x.at j both.0 in
    let n_is : x.width ≡ n = eqb-true x.width n both.1 in
    let Q : ℕ → ℕ → Type 0 = λ j n. x.number < 256 ^ n → number_at n after j ≡ x.number in
    subst (λ (i : ℕ). Q i n) at (subst (λ (m : ℕ). Q x.at m) n_is
    (number_at-with_bytes_same x.width block x.at x.number (omega arith))))
    (λ elsewhere. cond_both (leb (j + n) x.at || leb (x.at + x.width) j) none mixed P
    (λ apart. elim (or_cases (leb (j + n) x.at) (leb (x.at + x.width) j) apart) [
      | inl before ↦
          number_at-with_bytes_before n block x.at (number_bytes x.width x.number) j (omega arith) (leb-true (j + n) x.at before)
      | inr past ↦
          let beyond = leb-true (x.at + x.width) j past in
          number_at-with_bytes_past n block x.at (number_bytes x.width x.number) j (omega arith) (omega arith)
    ])
    (λ _. tt))

-- what the last of two parts reads as, once each reads as it does
last_part_reads : (n j : ℕ) (before between after : List ℕ) (first last : Part) → ReadsAs n j before between first → ReadsAs n j between after last
    → ReadsAs n j before after (last_part first last)
last_part_reads n j before between after none none a b = b ∙ a
last_part_reads n j before between after (whole number) none a b = λ small. b ∙ a small
last_part_reads n j before between after mixed none a b = tt
last_part_reads n j before between after first (whole number) a b = b
last_part_reads n j before between after first mixed a b = tt

-- all of them
pub part_reads : (n j len : ℕ) (block : List ℕ) (xs : List Number) → length block ≡ len → all_within len xs ≡ true
    → ReadsAs n j block (with_numbers block xs) (part n j xs)
part_reads n j len block [] is within = refl
part_reads n j len block (x ∷ xs) is within =
    let both = and_parts (leb (x.at + x.width) len) (all_within len xs) within in
    let room = leb-true (x.at + x.width) len both.0 in
    last_part_reads n j block _ _ (part_of n j x) (part n j xs) (part_of_reads n j len block x is room)
    (part_reads n j len (with_bytes block x.at (number_bytes x.width x.number)) xs (length-placed len block x is room) both.1)

-- they all stand from a place on
abbrev pub all_from : ℕ → List Number → Bool
all_from k [] = true
all_from k (x ∷ xs) = leb k x.at && all_from k xs

-- what stands before all of them stays
pub take-with_numbers : (k len : ℕ) (block : List ℕ) (xs : List Number) → length block ≡ len → all_within len xs ≡ true → all_from k xs ≡ true
    → take k (with_numbers block xs) ≡ take k block
take-with_numbers k len block [] is within past = refl
take-with_numbers k len block (x ∷ xs) is within past =
    let both = and_parts (leb (x.at + x.width) len) (all_within len xs) within in
    let apart = and_parts (leb k x.at) (all_from k xs) past in
    let room = leb-true (x.at + x.width) len both.0 in
    take-with_numbers k len (with_bytes block x.at (number_bytes x.width x.number)) xs (length-placed len block x is room) both.1 apart.1
    ∙ take-with_bytes_before k block x.at (number_bytes x.width x.number) (omega arith) (leb-true k x.at apart.0)

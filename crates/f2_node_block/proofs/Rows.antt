-- What a block reads as once fields of any length were written into it.
use Rattle.std.proofs.Common.{◌≡◌, ℕ, ◌+◌, ◌*◌, ◌<◌, ◌≤◌, List, [], ◌∷◌, ◌++◌, length, take, drop, get_or, slice_range, refl, sym, ap, ◌∙◌, arith, append_assoc}
use Rattle.std.proofs.lemmas.List.{take-append-le, drop-append-le}
use Rattle.f2_format.specs.Bytes.{Field, number_at, numbers_at, with_bytes, with_fields}
use Rattle.f2_format.proofs.BytesLemmas.{length-with_bytes, get_or-with_bytes_before, number_at-same, numbers_at-same, slice_range-same}

-- the fields begin at k or past it, and end within so many bytes
abbrev pub Past : ℕ → ℕ → List Field → Type 0
Past k len [] = Unit {0}
Past k len (field ∷ fields) = (k ≤ field.0) × (field.0 + length field.1 ≤ len) × Past k len fields

-- the block keeps its length
pub length-with_fields : (k len : ℕ) (block : List ℕ) (fields : List Field) → len ≤ length block → Past k len fields → length (with_fields block fields) ≡ length block
length-with_fields k len block [] room past = refl
length-with_fields k len block (field ∷ fields) room past =
    let first = past.1 in
    let long = length-with_bytes block field.0 field.1 (omega arith) in
    length-with_fields k len (with_bytes block field.0 field.1) fields (omega arith) past.2 ∙ long

-- a byte before all of them stays
pub byte-stays : (k len : ℕ) (block : List ℕ) (fields : List Field) (i : ℕ) → len ≤ length block → Past k len fields → i < k
    → get_or (with_fields block fields) i 0 ≡ get_or block i 0
byte-stays k len block [] i room past before = refl
byte-stays k len block (field ∷ fields) i room past before =
    let start = past.0 in
    let first = past.1 in
    let long = length-with_bytes block field.0 field.1 (omega arith) in
    byte-stays k len (with_bytes block field.0 field.1) fields i (omega arith) past.2 before
    ∙ get_or-with_bytes_before block field.0 field.1 i (omega arith) (omega arith)

-- a number before all of them stays
pub number-stays : (n at len : ℕ) (block : List ℕ) (fields : List Field) → len ≤ length block → Past (at + n) len fields
    → number_at n (with_fields block fields) at ≡ number_at n block at
number-stays n at len block fields room past =
    number_at-same n _ _ at at (λ i h. byte-stays (at + n) len block fields (at + i) room past (omega arith))

-- numbers before all of them stay
pub numbers-stay : (n at count len : ℕ) (block : List ℕ) (fields : List Field) → len ≤ length block → Past (at + n * count) len fields
    → numbers_at n (with_fields block fields) at count ≡ numbers_at n block at count
numbers-stay n at count len block fields room past =
    numbers_at-same n _ _ at count (λ i low high. byte-stays (at + n * count) len block fields i room past high)

-- bytes before all of them stay
pub bytes-stay : (at to len : ℕ) (block : List ℕ) (fields : List Field) → len ≤ length block → Past to len fields
    → slice_range (with_fields block fields) at to ≡ slice_range block at to
bytes-stay at to len block fields room past =
    slice_range-same _ _ at to (length-with_fields to len block fields room past)
    (λ i low high. byte-stays to len block fields i room past high)

-- bytes written into the front of two parts
with_bytes-append : (front rest : List ℕ) (at : ℕ) (bytes : List ℕ) → at + length bytes ≤ length front
    → with_bytes (front ++ rest) at bytes ≡ with_bytes front at bytes ++ rest
unfolding with_bytes
with_bytes-append front rest at bytes fits =
    ap (λ (xs : List ℕ). xs ++ (bytes ++ drop (at + length bytes) (front ++ rest))) (take-append-le at front rest (omega arith))
    ∙ ap (λ (xs : List ℕ). take at front ++ (bytes ++ xs)) (drop-append-le (at + length bytes) front rest fits)
    ∙ ap (λ (xs : List ℕ). take at front ++ xs) (sym (append_assoc bytes (drop (at + length bytes) front) rest))
    ∙ sym (append_assoc (take at front) (bytes ++ drop (at + length bytes) front) rest)

-- fields written into the front of two parts
pub with_fields-append : (len : ℕ) (front rest : List ℕ) (fields : List Field) → len ≤ length front → Past 0 len fields
    → with_fields (front ++ rest) fields ≡ with_fields front fields ++ rest
with_fields-append len front rest [] room past = refl
with_fields-append len front rest (field ∷ fields) room past =
    let first = past.1 in
    let long = length-with_bytes front field.0 field.1 (omega arith) in
    ap (λ (b : List ℕ). with_fields b fields) (with_bytes-append front rest field.0 field.1 (omega arith))
    ∙ with_fields-append len (with_bytes front field.0 field.1) rest fields (omega arith) past.2

-- one field more in front of those that were written
pub field-before : (after between before : List ℕ) (at : ℕ) (bytes : List ℕ) (fields : List Field) → after ≡ with_fields between fields → between ≡ with_bytes before at bytes
    → after ≡ with_fields before ((at, bytes) ∷ fields)
field-before after between before at bytes fields last first = last ∙ ap (λ (b : List ℕ). with_fields b fields) first

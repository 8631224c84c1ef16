-- What the write of one word does to the bits of all words.
use Rattle.std.proofs.Common.{◌≡◌, ◌≢◌, ℕ, ◌+◌, ◌-◌, ◌*◌, ◌/◌, ◌%◌, ◌<◌, ◌≤◌, true, List, length, get_or, set, nat_eq, inl, inr, sym, ap, ◌∙◌, arith, get_or-set_same, get_or-set_other}
use Rattle.std.specs.Int.{bit_at}
use Rattle.std.proofs.lemmas.Bool.{cases_eq}
use Rattle.std.proofs.lemmas.Grind.{get_or-set_at}
use Rattle.f2_bitset.specs.Words.{has_bit}

-- the bit of the place is that of the word that was written
pub has_bit-set_same : (words : List ℕ) (place value b : ℕ) → place < 64 * length words → bit_at value (place % 64) ≡ b → has_bit (set words (place / 64) value) place ≡ nat_eq b 1
has_bit-set_same words place value b within bit =
    let lt : place / 64 < length words = omega arith in
    ap (λ w. nat_eq (bit_at w (place % 64)) 1) (get_or-set_same words (place / 64) value 0 lt) ∙ ap (λ x. nat_eq x 1) bit

-- where the word keeps its other bits, all other places keep theirs
pub has_bit-set_other : (words : List ℕ) (place value other : ℕ) → place < 64 * length words → ((i : ℕ) → i < 64 → i ≢ place % 64 → bit_at value i ≡ bit_at (get_or words (place / 64) 0) i) → other ≢ place → has_bit (set words (place / 64) value) other ≡ has_bit words other
has_bit-set_other words place value other within keeps ne =
    let lt : place / 64 < length words = omega arith in
    elim (cases_eq (other / 64) (place / 64)) as (λ _. has_bit (set words (place / 64) value) other ≡ has_bit words other) [
      | inl same ↦
          let apart : other % 64 ≢ place % 64 = omega arith in
          ap (λ w. nat_eq (bit_at w (other % 64)) 1) (get_or-set_at words (place / 64) (other / 64) value 0 same lt)
          ∙ ap (λ x. nat_eq x 1) (keeps (other % 64) (omega arith) apart ∙ ap (λ j. bit_at (get_or words j 0) (other % 64)) (sym same))
      | inr elsewhere ↦ ap (λ w. nat_eq (bit_at w (other % 64)) 1) (get_or-set_other words (place / 64) (other / 64) value 0 elsewhere)
    ]

-- place `at * 64 + i` is bit i of word `at`
pub has_bit-place : (words : List ℕ) (at i : ℕ) → i < 64 → has_bit words (at * 64 + i) ≡ nat_eq (bit_at (get_or words at 0) i) 1
has_bit-place words at i within =
    let word : (at * 64 + i) / 64 ≡ at = omega arith in
    let bit : (at * 64 + i) % 64 ≡ i = omega arith in
    ap (λ j. nat_eq (bit_at (get_or words j 0) ((at * 64 + i) % 64)) 1) word ∙ ap (λ j. nat_eq (bit_at (get_or words at 0) j) 1) bit

-- where the bits of a word up to i are set, so are those of its places
pub has_bit_before : (words : List ℕ) (at i other : ℕ) → i ≤ 64 → ((j : ℕ) → j < i → bit_at (get_or words at 0) j ≡ 1) → 64 * at ≤ other → other < at * 64 + i → has_bit words other ≡ true
has_bit_before words at i other within ones from below =
    let place : at * 64 + (other - 64 * at) ≡ other = omega arith in
    ap (has_bit words) (sym place)
    ∙ has_bit-place words at (other - 64 * at) (omega arith)
    ∙ ap (λ x. nat_eq x 1) (ones (other - 64 * at) (omega arith))

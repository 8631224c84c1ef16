-- Words that are written into the slots of a node, one after another.
use Rattle.std.proofs.Common.{◌≡◌, ◌≢◌, ℕ, ◌+◌, ◌*◌, ◌^◌, ◌<◌, ◌≤◌, List, [], ◌∷◌, ◌++◌, length, drop, get_or, refl, sym, ap, ◌∙◌, arith, append-nil, append_assoc, drop-drop, inl, inr}
use Rattle.std.specs.List.{flat_map}
use Rattle.std.proofs.lemmas.Bool.{cases_eq, cases_lt}
use Rattle.std.proofs.lemmas.List.{take_at, drop_at, get_or_past}
use Rattle.std.proofs.lemmas.List.Concat.{flat_map-append}
use Rattle.std.proofs.lemmas.List.FromFn.{length-map-range_with_len, get_or-map-range_with_len, map-range_with_len_more, fill_by_all}
use Rattle.f2_format.specs.Bytes.{number_bytes, with_bytes}
use Rattle.f2_format.specs.Inode.{node_word, with_node_word}
use Rattle.f2_format.specs.Offsets.{node_slots}
use Rattle.f2_format.proofs.BytesLemmas.{length-number_bytes, length-flat_map_numbers}
use Rattle.f2_blocks.specs.Blocks.{words_of}

-- so many words
pub length-words_of : (word : ℕ → ℕ) (count : ℕ) → length (words_of word count) ≡ count
unfolding words_of
length-words_of word count = length-map-range_with_len word 0 count

-- one of them
pub get_or-words_of : (word : ℕ → ℕ) (count k : ℕ) → k < count → get_or (words_of word count) k 0 ≡ word k
unfolding words_of
get_or-words_of word count k within = get_or-map-range_with_len word 0 count k k 0 within (omega arith)

-- one more
pub words_of-more : (word : ℕ → ℕ) (count : ℕ) → words_of word (count + 1) ≡ words_of word count ++ word count ∷ []
unfolding words_of
words_of-more word count = map-range_with_len_more word 0 count count (omega arith)

-- a list of these words
pub words_of-is : (word : ℕ → ℕ) (words : List ℕ) (count : ℕ) → length words ≡ count → ((k : ℕ) → k < count → get_or words k 0 ≡ word k) → words ≡ words_of word count
unfolding words_of
words_of-is word words count long each = fill_by_all word words count 0 long each

-- words that are the same in each slot
pub words_of-same : (word other : ℕ → ℕ) (count : ℕ) → ((k : ℕ) → k < count → word k ≡ other k) → words_of word count ≡ words_of other count
words_of-same word other count same =
    words_of-is other (words_of word count) count (length-words_of word count) (λ k h. get_or-words_of word count k h ∙ same k h)

words_of-none : (word : ℕ → ℕ) → words_of word 0 ≡ []
unfolding words_of
words_of-none word = refl

-- the first words were written over a block, and read back
pub record Written (word : ℕ → ℕ) (count : ℕ) (before block : List ℕ) : Type 0 where
  pub bytes : block ≡ flat_map (number_bytes 4) (words_of word count) ++ drop (4 * count) before
  pub reads : (slot : ℕ) → slot < count → node_word block slot ≡ word slot

pub Written-none : (word : ℕ → ℕ) (before : List ℕ) → Written word 0 before before
Written-none word before = record {
  bytes = sym (ap (λ (words : List ℕ). flat_map (number_bytes 4) words ++ before) (words_of-none word));
  reads = λ slot h. absurd (omega arith);
}

-- one word more, right behind the others
with_bytes-front : (front rest : List ℕ) (at next : ℕ) (bytes : List ℕ) → length front ≡ at → next ≡ at + length bytes
    → with_bytes (front ++ drop at rest) at bytes ≡ (front ++ bytes) ++ drop next rest
unfolding with_bytes
with_bytes-front front rest at next bytes long is =
    ap (λ (xs : List ℕ). xs ++ (bytes ++ drop (at + length bytes) (front ++ drop at rest))) (take_at front (drop at rest) at long)
    ∙ ap (λ (xs : List ℕ). front ++ (bytes ++ xs))
    (sym (drop-drop (length bytes) at (front ++ drop at rest)) ∙ ap (drop (length bytes)) (drop_at front (drop at rest) at long) ∙ drop-drop (length bytes) at rest
    ∙ ap (λ (j : ℕ). drop j rest) (sym is))
    ∙ sym (append_assoc front bytes (drop next rest))

pub Written-more : (word : ℕ → ℕ) (count value : ℕ) (before old block : List ℕ) → Written word count before old → count < node_slots → value ≡ word count
    → block ≡ with_node_word old count value → node_word block count ≡ value → ((s : ℕ) → s < node_slots → s ≢ count → node_word block s ≡ node_word old s)
    → Written word (count + 1) before block
Written-more word count value before old block written within is put here others =
    let words = words_of word count in
    let front = flat_map (number_bytes 4) words in
    let long : length front ≡ 4 * count = length-flat_map_numbers 4 words ∙ ap (λ (n : ℕ). 4 * n) (length-words_of word count) in
    let width = length-number_bytes 4 value in
    let bytes : flat_map (number_bytes 4) (words_of word (count + 1)) ≡ front ++ number_bytes 4 value =
    ap (flat_map (number_bytes 4)) (words_of-more word count)
    ∙ flat_map-append (number_bytes 4) words (word count ∷ [])
    ∙ ap (λ (xs : List ℕ). front ++ xs) (append-nil (number_bytes 4 (word count)) ∙ ap (number_bytes 4) (sym is)) in
    record {
      bytes =
          put ∙ ap (λ (b : List ℕ). with_node_word b count value) written.bytes
          ∙ with_bytes-front front before (4 * count) (4 * (count + 1)) (number_bytes 4 value) long (omega arith)
          ∙ sym (ap (λ (xs : List ℕ). xs ++ drop (4 * (count + 1)) before) bytes);
      reads = λ slot h. elim (cases_eq slot count) [
        | inl same ↦ ap (node_word block) same ∙ here ∙ is ∙ sym (ap word same)
        | inr apart ↦ others slot (omega arith) apart ∙ written.reads slot (omega arith)
      ];
    }

-- the first places have these words, which fit in 32 bits
pub record AreFilled (word : ℕ → ℕ) (count : ℕ) (words : List ℕ) : Type 0 where
  pub addresses : (k : ℕ) → k < count → get_or words k 0 ≡ word k
  pub fit : (k : ℕ) → k < count → get_or words k 0 < 2 ^ 32

-- then all words fit
pub AreFilled-all : (word : ℕ → ℕ) (words : List ℕ) (count : ℕ) → AreFilled word count words → length words ≤ count → (k : ℕ) → get_or words k 0 < 2 ^ 32
AreFilled-all word words count filled all k =
    elim (cases_lt k count) [
      | inl within ↦ filled.fit k within
      | inr past ↦ let none : get_or words k 0 ≡ 0 = get_or_past words k 0 (omega arith) in omega arith
    ]

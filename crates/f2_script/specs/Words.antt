-- The words of a line, a space between each two.
use Rattle.std.specs.Prelude.{◌≡◌, ℕ, ◌≤◌, List, [], ◌∷◌, ◌++◌, ◌==◌, map, decimal}
use Rattle.std.specs.Borrow.{Bor}
use Rattle.std.specs.List.{slice_split, flat_map}
use Rattle.f2_script.specs.Text.{path_text}
use Rattle.f2_script.specs.Paths.{IsPathText}

-- what a word is: this very text, a number from a least to a greatest one, or a path
pub data Word : Type 0 where
  Said : List ℕ → Word
  Number : ℕ → ℕ → ℕ → Word
  Named : List (List ℕ) → Word

-- a text is this word
abbrev pub IsWord : Word → List ℕ → Type 0
IsWord (Said word) text = text ≡ word
IsWord (Number least most n) text = (least ≤ n) × (n ≤ most) × (text ≡ decimal n)
IsWord (Named path) text = IsPathText text path

-- texts are these words in order
abbrev pub AreWords : List Word → List (List ℕ) → Type 0
AreWords [] [] = Unit {0}
AreWords [] (text ∷ texts) = ⊥
AreWords (word ∷ words) [] = ⊥
AreWords (word ∷ words) (text ∷ texts) = IsWord word text × AreWords words texts

-- the texts between the spaces of a line
abbrev pub split_words : List ℕ → List (List ℕ)
split_words text = slice_split (λ b. b == 32) text

-- borrowed texts
abbrev pub shown : List (Bor (List ℕ)) → List (List ℕ)
shown texts = map (λ text. text.now) texts

-- how a word is written
abbrev pub word_text : Word → List ℕ
word_text (Said word) = word
word_text (Number least most n) = decimal n
word_text (Named path) = path_text path

-- words as they are written, with a space before each
abbrev pub spaced : List Word → List ℕ
spaced words = flat_map (λ word. 32 ∷ word_text word) words

-- words as they are written, with a space between each two
abbrev pub words_text : List Word → List ℕ
words_text [] = []
words_text (word ∷ words) = word_text word ++ spaced words

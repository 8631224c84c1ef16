-- What can be asked of a block.
use Rattle.std.specs.Prelude.{◌≡◌, ℕ, ◌<◌, List, [], ◌∷◌, codes}
use Rattle.std.specs.Str.Parse.{IsNumeral, digits_value, without_leading_plus}
use Rattle.f2_format.specs.Geometry.{ENTRIES_A_NAT_BLOCK}
use Rattle.f2_format.specs.Offsets.{node_slots}
use Rattle.f2_inspect.specs.declared.questions.Question.{Question}
use Rattle.f2_inspect.specs.declared.questions.Question.TheVariants.{Footer, Inode, Dentry, Word, Nat}

-- a block has what is asked for
abbrev pub IsInBlock : Question → Type 0
IsInBlock (Word slot) = slot < node_slots
IsInBlock (Nat place) = place < ENTRIES_A_NAT_BLOCK
IsInBlock _ = Unit {0}

-- a text is this number in decimal digits, which a plus and zeros may precede
abbrev pub IsNumber : List ℕ → ℕ → Type 0
IsNumber text n = IsNumeral 10 (without_leading_plus text) × (digits_value 10 (without_leading_plus text) ≡ n)

-- a word asks this by itself
abbrev pub AsksAlone : List ℕ → Question → Type 0
AsksAlone word Footer = word ≡ codes "footer"
AsksAlone word Inode = word ≡ codes "inode"
AsksAlone word Dentry = word ≡ codes "dentry"
AsksAlone word (Word slot) = ⊥
AsksAlone word (Nat place) = ⊥

-- a word and a number ask this
abbrev pub AsksAt : List ℕ → ℕ → Question → Type 0
AsksAt word n Footer = ⊥
AsksAt word n Inode = ⊥
AsksAt word n Dentry = ⊥
AsksAt word n (Word slot) = (word ≡ codes "word") × (slot ≡ n) × (n < node_slots)
AsksAt word n (Nat place) = (word ≡ codes "nat") × (place ≡ n) × (n < ENTRIES_A_NAT_BLOCK)

-- words ask this
abbrev pub Asks : List (List ℕ) → Question → Type 0
Asks [] question = ⊥
Asks (word ∷ []) question = AsksAlone word question
Asks (word ∷ text ∷ []) question = (n : ℕ) × IsNumber text n × AsksAt word n question
Asks (word ∷ text ∷ more ∷ rest) question = ⊥

-- How a line may write a path.
use Rattle.std.specs.Prelude.{◌≡◌, ℕ, ◌<◌, ◌⊎◌, true, List, [], ◌∷◌, ◌++◌, ◌==◌}
use Rattle.std.specs.List.{slice_split}
use Rattle.f2_script.specs.Text.{is_plain, escape}

-- the text begins with this byte of a name: as itself where it is plain, or as `%` and two digits
abbrev pub BeginsWith : List ℕ → ℕ → List ℕ → Type 0
BeginsWith text b rest = ((is_plain b ≡ true) × (text ≡ b ∷ rest)) ⊎ ((b < 256) × (text ≡ escape b ++ rest))

-- the text is this name, one byte after another
abbrev pub IsNameText : List ℕ → List ℕ → Type 0
IsNameText text [] = text ≡ []
IsNameText text (b ∷ name) = (rest : List ℕ) × BeginsWith text b rest × IsNameText rest name

-- the texts are these names in order
abbrev pub AreNames : List (List ℕ) → List (List ℕ) → Type 0
AreNames [] [] = Unit {0}
AreNames [] (name ∷ names) = ⊥
AreNames (text ∷ texts) [] = ⊥
AreNames (text ∷ texts) (name ∷ names) = IsNameText text name × AreNames texts names

-- the text is this path: a `/`, and then its names with a `/` between them; a `/` alone is the root
abbrev pub IsPathText : List ℕ → List (List ℕ) → Type 0
IsPathText [] path = ⊥
IsPathText (b ∷ []) path = (b ≡ 47) × (path ≡ [])
IsPathText (b ∷ c ∷ names) path = (b ≡ 47) × AreNames (slice_split (λ x. x == 47) (c ∷ names)) path

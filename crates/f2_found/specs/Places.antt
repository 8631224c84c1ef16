-- Where the pages of a tree that was found stand.
use Rattle.std.specs.Prelude.{◌≡◌, ℕ, ◌<◌, List, All, Some}
use Rattle.std.specs.FinMap as map
use Rattle.f2_found.specs.declared.found.Found.{Found}
use Rattle.f2_found.specs.declared.rows.FoundRow.{FoundRow}
use Rattle.f2_recover.specs.declared.nodes.PageAt.{PageAt}

-- pages stand within so many blocks
abbrev pub AreBelow : ℕ → List PageAt → Type 0
AreBelow blocks pages = All (λ listed. listed.at < blocks) pages

-- the pages of a tree stand within so many blocks
abbrev pub IsWithinBlocks : ℕ → Found → Type 0
IsWithinBlocks blocks tree = (ino : ℕ) (row : FoundRow) → map.get tree.rows ino ≡ Some row → AreBelow blocks row.pages

-- The rows of a tree that a running volume takes over.
use Rattle.std.specs.Prelude.{◌≡◌, ◌↔◌, ◌+◌, ◌<◌, ◌≤◌, ℕ, Bool, true, List, Option, Some, None, map as map_list}
use Rattle.std.specs.Ordering.{nat_cmp}
use Rattle.std.specs.FinMap as map
use Rattle.std.specs.FinSet as set
use Rattle.f2_model.specs.declared.rows.Kind.{Kind}
use Rattle.f2_model.specs.declared.rows.Kind.TheVariants.{Regular, Directory}
use Rattle.f2_model.specs.Tree.{MOST_DEPTH}
use Rattle.f2_overlay.specs.declared.rolls.Roll.{Roll}
use Rattle.f2_recover.specs.Walking.{BaseRows}
use Rattle.f2_recover.specs.declared.nodes.PageAt.{PageAt}
use Rattle.f2_recover.specs.declared.rows.BaseRow.{BaseRow}
use Rattle.f2_takeover.specs.Nodes.{AreNodesOf}
use Rattle.f2_takeover.specs.declared.rows.TakenRow.{TakenRow}

-- the files that were marked, by their inos
abbrev pub Rolls : Type 0
Rolls = map.FinMap nat_cmp Roll

-- the addresses of pages as a list, rising
abbrev pub listed_of : map.FinMap nat_cmp ℕ → List PageAt
listed_of pages = map_list (λ entry. record { page = entry.0; at = entry.1 }) (map.entries pages)

-- a directory gains a name: a file that was marked and that the base hasn't brings it
pub record GainsName (rolls : Rolls) (base : BaseRows) (directory : ℕ) : Type 0 where
  pub ino : ℕ
  pub roll : Roll
  pub there : map.get rolls ino ≡ Some roll
  pub new : map.get base ino ≡ None
  pub parent : roll.parent ≡ directory

-- the directory into which a file brings its name, where the file was marked and the base hasn't it
abbrev pub gaining_of : Option Roll → Option BaseRow → Option ℕ
gaining_of roll (Some row) = None
gaining_of None None = None
gaining_of (Some roll) None = Some roll.parent

-- the size of a row: a directory has none
abbrev pub size_of : Kind → ℕ → ℕ
size_of Regular size = size
size_of Directory size = 0

-- how many names a marked file stands below the root: as many as in the base, or one more than its directory, where that may be so deep
abbrev pub IsDepthOf : Option BaseRow → Option BaseRow → ℕ → Type 0
IsDepthOf (Some row) directory depth = depth ≡ row.depth
IsDepthOf None (Some directory) depth = directory.depth ≤ MOST_DEPTH → depth ≡ directory.depth + 1
IsDepthOf None None depth = Unit {0}

-- a row is a file as its last mark has it
pub record IsOfRoll (roll : Roll) (base directory : Option BaseRow) (row : TakenRow) : Type 0 where
  pub kind : row.kind ≡ Regular
  pub parent : row.parent ≡ roll.parent
  pub named : row.name ≡ roll.name
  pub depth : IsDepthOf base directory row.depth
  pub size : row.size ≡ roll.size
  pub pages : row.pages.items ≡ listed_of roll.pages
  pub nodes : AreNodesOf (Some roll) base row.pages.items row.nodes
  pub changed : row.changed ≡ true

-- a row is a file or a directory of the base, but for whether it is changed
pub record IsOfBase (base : BaseRow) (row : TakenRow) : Type 0 where
  pub kind : row.kind ≡ base.file.kind
  pub parent : row.parent ≡ base.parent
  pub named : row.name ≡ base.name
  pub depth : row.depth ≡ base.depth
  pub size : row.size ≡ size_of base.file.kind base.file.size
  pub pages : row.pages.items ≡ base.file.nodes.list.items
  pub nodes : AreNodesOf None (Some base) row.pages.items row.nodes

-- the row of an ino is that of its mark, else that of the base; where neither is there, there is none
abbrev pub IsMade : BaseRows → Option Roll → Option BaseRow → Bool → Option TakenRow → Type 0
IsMade all (Some roll) base changed (Some row) = IsOfRoll roll base (map.get all roll.parent) row
IsMade all (Some roll) base changed None = ⊥
IsMade all None (Some base) changed (Some row) = IsOfBase base row × (row.changed ≡ changed)
IsMade all None (Some base) changed None = ⊥
IsMade all None None changed (Some row) = ⊥
IsMade all None None changed None = Unit {0}

-- the rows below an ino were made, of which those of some directories are changed
pub record AreMadeTo (rolls : Rolls) (base : BaseRows) (changed : set.FinSet nat_cmp) (limit : ℕ) (rows : map.FinMap nat_cmp TakenRow) : Type 0 where
  pub below : (ino : ℕ) → ino < limit → IsMade base (map.get rolls ino) (map.get base ino) (set.contains changed ino) (map.get rows ino)
  pub above : (ino : ℕ) → limit ≤ ino → map.get rows ino ≡ None

-- the directories below a limit that gain names by new files below an ino
pub record AreChangedTo (rolls : Rolls) (base : BaseRows) (most limit : ℕ) (changed : set.FinSet nat_cmp) : Type 0 where
  pub all : (ino : ℕ) (roll : Roll) → ino < limit → map.get rolls ino ≡ Some roll → map.get base ino ≡ None → roll.parent < most → set.contains changed roll.parent ≡ true
  pub only : (directory : ℕ) → set.contains changed directory ≡ true → GainsName rolls base directory

-- the row of an ino that may be marked and may have a row in the base: a file as its last mark has it, else the base's row, which is changed where
-- a new file's name comes into it; where neither is there, there is none
abbrev pub IsTakenOver : Rolls → BaseRows → ℕ → Option Roll → Option BaseRow → Option TakenRow → Type 0
IsTakenOver rolls base ino (Some roll) old (Some row) = IsOfRoll roll old (map.get base roll.parent) row
IsTakenOver rolls base ino (Some roll) old None = ⊥
IsTakenOver rolls base ino None (Some old) (Some row) = IsOfBase old row × ((row.changed ≡ true) ↔ GainsName rolls base ino)
IsTakenOver rolls base ino None (Some old) None = ⊥
IsTakenOver rolls base ino None None (Some row) = ⊥
IsTakenOver rolls base ino None None None = Unit {0}

-- the rows of a tree of base and marks: each ino that either has has its row, and no other has one
abbrev pub AreRowsOf : Rolls → BaseRows → map.FinMap nat_cmp TakenRow → Type 0
AreRowsOf rolls base rows = (ino : ℕ) → IsTakenOver rolls base ino (map.get rolls ino) (map.get base ino) (map.get rows ino)

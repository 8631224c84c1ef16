-- Orders in which the rows of a tree may be added one by one.
use Rattle.std.specs.Prelude.{◌≡◌, ◌≢◌, ◌⊎◌, ℕ, ◌+◌, ◌<◌, ◌≤◌, List, length, slice_index_or, Some, IsSome}
use Rattle.std.specs.Ordering.{nat_cmp}
use Rattle.std.specs.FinMap as map
use Rattle.f2_model.specs.Tree.{ROOT, MOST_DEPTH}
use Rattle.f2_model.specs.declared.rows.Kind.TheVariants.{Directory}
use Rattle.f2_takeover.specs.declared.rows.TakenRow.{TakenRow}

-- rows, by their inos
abbrev pub Taken : Type 0
Taken = map.FinMap nat_cmp TakenRow

-- there is a row that is so
pub record HasRow (rows : Taken) (ino : ℕ) (IsSo : TakenRow → Type 0) : Type 0 where
  pub row : TakenRow
  pub there : map.get rows ino ≡ Some row
  pub is : IsSo row

-- the rows hang together: the root is a directory, each other row stands one name below a directory, and none too deep
pub record IsRooted (rows : Taken) : Type 0 where
  pub root : HasRow rows ROOT (λ row. (row.kind ≡ Directory) × (row.depth ≡ 0))
  pub under : (ino : ℕ) (row : TakenRow) → map.get rows ino ≡ Some row → ino ≢ ROOT → HasRow rows row.parent (λ above. (above.kind ≡ Directory) × (row.depth ≡ above.depth + 1))
  pub deep : (ino : ℕ) (row : TakenRow) → map.get rows ino ≡ Some row → row.depth ≤ MOST_DEPTH + 1

-- an ino stands among so many first ones of a list
abbrev pub IsAmongFirst : List ℕ → ℕ → ℕ → Type 0
IsAmongFirst inos count ino = (k : ℕ) × ((k < count) × (slice_index_or inos k 0 ≡ ino))

-- no ino stands twice in a list
abbrev pub AreApart : List ℕ → Type 0
AreApart inos = (j k : ℕ) → j < length inos → k < length inos → slice_index_or inos j 0 ≡ slice_index_or inos k 0 → j ≡ k

-- each row stands in a list once, and nothing else; each but the root comes after its directory
pub record IsInOrder (rows : Taken) (order : List ℕ) : Type 0 where
  pub there : (k : ℕ) → k < length order → IsSome (map.get rows (slice_index_or order k 0))
  pub all : (ino : ℕ) (row : TakenRow) → map.get rows ino ≡ Some row → IsAmongFirst order (length order) ino
  pub apart : AreApart order
  pub after : (k : ℕ) (row : TakenRow) → k < length order → map.get rows (slice_index_or order k 0) ≡ Some row → slice_index_or order k 0 ≢ ROOT → IsAmongFirst order k row.parent

-- some inos are those of the rows
pub record AreInos (rows : Taken) (inos : List ℕ) : Type 0 where
  pub all : (ino : ℕ) (row : TakenRow) → map.get rows ino ≡ Some row → IsAmongFirst inos (length inos) ino
  pub apart : AreApart inos

-- a row stands less deep, or as deep and among so many first ones of some inos
abbrev pub IsListed : List ℕ → ℕ → ℕ → ℕ → TakenRow → Type 0
IsListed inos depth count ino row = (row.depth < depth) ⊎ ((row.depth ≡ depth) × IsAmongFirst inos count ino)

-- those rows are in a list, once each, and none comes before one that is less deep
pub record AreListedTo (rows : Taken) (inos : List ℕ) (depth count : ℕ) (order : List ℕ) : Type 0 where
  pub there : (k : ℕ) → k < length order → HasRow rows (slice_index_or order k 0) (IsListed inos depth count (slice_index_or order k 0))
  pub all : (ino : ℕ) (row : TakenRow) → map.get rows ino ≡ Some row → IsListed inos depth count ino row → IsAmongFirst order (length order) ino
  pub apart : AreApart order
  pub rising : (j k : ℕ) (a b : TakenRow) → j ≤ k → k < length order → map.get rows (slice_index_or order j 0) ≡ Some a → map.get rows (slice_index_or order k 0) ≡ Some b → a.depth ≤ b.depth

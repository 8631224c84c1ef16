-- Reading a script from a source.
use Rattle.std.specs.Prelude.{◌≡◌, ℕ, ◌≤◌, List, ◌++◌, length, Option, Some}
use Rattle.std.specs.Io.KnownBytes.{Consumes, IsAtEnd}

-- the most bytes of a script
abbrev pub MOST_BYTES : ℕ
MOST_BYTES = 1048576

-- these bytes were taken from a source: all that it had, unless there are more than a script may have
pub record TakesScript (old new : Option (List ℕ)) (bytes : List ℕ) : Type 0 where
  pub taken : Consumes old new bytes
  pub whole : length bytes ≤ MOST_BYTES → IsAtEnd new

-- some bytes were taken from a source
abbrev pub TakesSome : Option (List ℕ) → Option (List ℕ) → Type 0
TakesSome old new = (bytes : List ℕ) × Consumes old new bytes

-- these bytes were taken from a source that tells what it has
pub record IsTaken (old new : Option (List ℕ)) (bytes : List ℕ) : Type 0 where
  pub rest : List ℕ
  pub before : old ≡ Some (bytes ++ rest)
  pub after : new ≡ Some rest

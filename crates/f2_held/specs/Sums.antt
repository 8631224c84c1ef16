-- How the sums are kept beside what they are sums of, and how small the numbers are.
use Rattle.std.specs.Prelude.{◌≡◌, ℕ, ◌+◌, ◌-◌, ◌<◌, ◌≤◌, ◌^◌, ◌++◌, ◌∷◌, Some, List, All, length, take, drop, refl}
use Rattle.std.specs.List.Sorted.{IsStrictlySortedBy}
use Rattle.std.specs.Ordering.{nat_cmp}
use Rattle.std.specs.Cmp.Lexicographic.{slice_cmp}
use Rattle.std.specs.Coded.{Coded, code_by, coded×, coded_ℕ, coded_list}
use Rattle.std.specs.FinSet as set
use Rattle.std.specs.FinMap as map
use Rattle.std.specs.List.{range_with_len, remove}
use Rattle.f2_format.specs.Offsets.{node_count}
use Rattle.f2_format.specs.Packing.{Reach, place_reached}
use Rattle.f2_model.specs.Fallback.{Both}
use Rattle.f2_held.specs.Taken.{Names, Taken, names_from, and_name, without_name, of_names, of_files, of_directories}

-- how the values are stored
abbrev pub both_code : Coded Both
both_code = code_by (ℕ × ℕ) (coded× coded_ℕ coded_ℕ) (λ b. (b.nodes, b.pages)) (λ p. record { nodes = p.0; pages = p.1 }) (λ _. refl)

abbrev pub names_code : Coded Names
names_code = set.code (coded_list coded_ℕ)

abbrev pub taken_code : Coded Taken
taken_code =
    code_by (map.FinMap nat_cmp Both × map.FinMap nat_cmp Names) (coded× (map.code coded_ℕ both_code) (map.code coded_ℕ names_code))
    (λ t. (t.files, t.directories))
    (λ p. record { files = p.0; directories = p.1 })
    (λ _. refl)

-- numbers of one file or directory
abbrev pub IsSmall : Both → Type 0
IsSmall size = (size.nodes < 2 ^ 31) × (size.pages < 2 ^ 31)

-- sums of them, of as many as there are inos
abbrev pub IsSmallSum : Both → Type 0
IsSmallSum sum = (sum.nodes < 2 ^ 63) × (sum.pages < 2 ^ 63)

-- a sum in which one number stands in the place of another
abbrev pub in_place : Both → Both → Both → Both
in_place sum old new = record { nodes = sum.nodes - old.nodes + new.nodes; pages = sum.pages - old.pages + new.pages }

-- what a directory of so many blocks takes
abbrev pub of_blocks : ℕ → Both
of_blocks blocks = record { nodes = node_count (range_with_len 0 blocks); pages = blocks }

-- the sum of the numbers of files
pub record IsSizes (files : map.FinMap nat_cmp Both) (sum : Both) : Type 0 where
  pub sum_is : sum ≡ of_files files
  pub small : (ino : ℕ) (size : Both) → map.get files ino ≡ Some size → (ino < 2 ^ 32) × IsSmall size

-- the sum of what directories take
pub record IsDirectories (directories : map.FinMap nat_cmp Names) (sum : Both) : Type 0 where
  pub sum_is : sum ≡ of_directories directories
  pub small : (ino : ℕ) (names : Names) → map.get directories ino ≡ Some names → (ino < 2 ^ 32) × IsSmall (of_names names)

-- names in order, none too long, and how far they fill a directory
pub record IsNameSet (names : List (List ℕ)) (reach : Reach) : Type 0 where
  pub sorted : IsStrictlySortedBy (slice_cmp nat_cmp) names
  pub short : All (λ name. length name ≤ 255) names
  pub reached : reach ≡ place_reached names
  pub few : reach.0 ≤ 2 ^ 29
  pub slots : reach.1 ≤ 214

-- a list with one element more at a place
abbrev pub with_at : List (List ℕ) → ℕ → List ℕ → List (List ℕ)
with_at names at name = take at names ++ name ∷ drop at names

-- a place where a name can come into names in order
pub record IsPlaceFor (name : List ℕ) (names : List (List ℕ)) (at : ℕ) : Type 0 where
  pub within : at ≤ length names
  pub seen : names_from (with_at names at name) ≡ and_name (names_from names) name
  pub sorted : IsStrictlySortedBy (slice_cmp nat_cmp) (with_at names at name)

-- the place of a name among names in order
pub record IsPlaceOf (name : List ℕ) (names : List (List ℕ)) (at : ℕ) : Type 0 where
  pub within : at < length names
  pub seen : names_from (remove names at) ≡ without_name (names_from names) name
  pub sorted : IsStrictlySortedBy (slice_cmp nat_cmp) (remove names at)

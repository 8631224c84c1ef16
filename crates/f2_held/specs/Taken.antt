-- What was taken in of the rows that a recovery may put together, and the most that they take.
use Rattle.std.specs.Prelude.{ℕ, Option, Some, None, List, map as map_list}
use Rattle.std.specs.List.{fold, range_with_len}
use Rattle.std.specs.Option.{unwrap_or}
use Rattle.std.specs.Ordering.{nat_cmp}
use Rattle.std.specs.Cmp.Lexicographic.{slice_cmp}
use Rattle.std.specs.FinMap as map
use Rattle.f2_format.specs.Offsets.{node_count}
use Rattle.f2_format.specs.Packing.{blocks_of_names}
use Rattle.f2_model.specs.Fallback.{Both, sum_of, greater_of, nothing}

-- names of a directory, as a set whose keys stand in the order in which they are packed
abbrev pub Names : Type 0
Names = map.FinMap (slice_cmp nat_cmp) (Unit {0})

-- the set of the names of a list, and a set with one name more
abbrev pub names_from : List (List ℕ) → Names
names_from names = map.from_entries (map_list (λ name. (name, tt)) names)

abbrev pub and_name : Names → List ℕ → Names
and_name names name = map.insert names name tt

-- the greatest numbers of each regular file, and the names in each directory
pub record Taken : Type 0 where
  pub files : map.FinMap nat_cmp Both
  pub directories : map.FinMap nat_cmp Names

-- nothing was taken in
abbrev pub none_taken : Taken
none_taken = record { files = map.empty; directories = map.empty }

-- what a directory takes with names
abbrev pub of_names : Names → Both
of_names names =
    let blocks = blocks_of_names (map.keys names) in
    record { nodes = node_count (range_with_len 0 blocks); pages = blocks }

-- the numbers of a file, and the names in a directory; nothing where it isn't in
abbrev pub size_of : map.FinMap nat_cmp Both → ℕ → Both
size_of files ino = unwrap_or (map.get files ino) nothing

abbrev pub names_of : map.FinMap nat_cmp Names → ℕ → Names
names_of directories ino = unwrap_or (map.get directories ino) map.empty

-- a file's numbers become the greater ones, each by itself
abbrev pub raised : map.FinMap nat_cmp Both → ℕ → Both → map.FinMap nat_cmp Both
raised files ino size = map.insert files ino (greater_of (size_of files ino) size)

-- a directory comes in, with the names that it has
abbrev pub opened : map.FinMap nat_cmp Names → ℕ → map.FinMap nat_cmp Names
opened directories ino = map.insert directories ino (names_of directories ino)

-- a name comes into a directory
abbrev pub bound : map.FinMap nat_cmp Names → ℕ → List ℕ → map.FinMap nat_cmp Names
bound directories parent name = map.insert directories parent (and_name (names_of directories parent) name)

abbrev pub with_name : map.FinMap nat_cmp Names → Option (ℕ × List ℕ) → map.FinMap nat_cmp Names
with_name directories None = directories
with_name directories (Some at) = bound directories at.0 at.1

-- a file's numbers become exactly these, and a file isn't in any more
abbrev pub with_size : map.FinMap nat_cmp Both → ℕ → Both → map.FinMap nat_cmp Both
with_size files ino size = map.insert files ino size

abbrev pub forgotten : map.FinMap nat_cmp Both → ℕ → map.FinMap nat_cmp Both
forgotten files ino = map.remove files ino

-- a name is taken out of a directory, and a directory isn't in any more
abbrev pub without_name : Names → List ℕ → Names
without_name names name = map.remove names name

abbrev pub left : map.FinMap nat_cmp Names → ℕ → List ℕ → map.FinMap nat_cmp Names
left directories parent name = map.insert directories parent (without_name (names_of directories parent) name)

abbrev pub closed : map.FinMap nat_cmp Names → ℕ → map.FinMap nat_cmp Names
closed directories ino = map.remove directories ino

-- the sum of numbers
abbrev pub sum_of_all : List Both → Both
sum_of_all sizes = fold sum_of nothing sizes

-- what files take, and what directories take
abbrev pub of_files : map.FinMap nat_cmp Both → Both
of_files files = sum_of_all (map.values files)

abbrev pub of_directories : map.FinMap nat_cmp Names → Both
of_directories directories = sum_of_all (map_list of_names (map.values directories))

-- the most that a tree of what was taken in takes
abbrev pub total_of : Taken → Both
total_of taken = sum_of (of_files taken.files) (of_directories taken.directories)

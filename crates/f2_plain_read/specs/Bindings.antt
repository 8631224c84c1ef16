-- Names that directories bind to files.
use Rattle.std.specs.Prelude.{◌≡◌, ℕ, List, [], ◌∷◌, None}
use Rattle.std.specs.Ordering.{nat_cmp}
use Rattle.std.specs.FinMap as map
use Rattle.f2_format.specs.Dentry.{Dentry}
use Rattle.f2_plain_read.specs.declared.names.Bound.{Bound}

-- names with their directories, by the inos of their files
abbrev pub NameMap : Type 0
NameMap = map.FinMap nat_cmp Bound

-- names, and one of a directory more
abbrev pub with_name : ℕ → NameMap → Dentry → NameMap
with_name directory names dentry = map.insert names dentry.ino (record { parent = directory; name = dentry.name })

-- names, and those of a directory more
abbrev pub with_names : ℕ → NameMap → List Dentry → NameMap
with_names directory names [] = names
with_names directory names (dentry ∷ rest) = with_names directory (with_name directory names dentry) rest

-- no file of a directory's has a name yet, and each has one there
abbrev pub AreFresh : ℕ → NameMap → List Dentry → Type 0
AreFresh directory names [] = Unit {0}
AreFresh directory names (dentry ∷ rest) = (map.get names dentry.ino ≡ None) × AreFresh directory (with_name directory names dentry) rest

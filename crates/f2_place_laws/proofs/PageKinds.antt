-- What the block of a page is, by the kind of its row.
use Rattle.std.proofs.Common.{◌≡◌, ℕ, List, sym, subst}
use Rattle.std.specs.Prelude.{Some, None}
use Rattle.std.specs.FinMap as map
use Rattle.f2_format.specs.Dentry.{dentry_fault, dentries_of}
use Rattle.f2_model.specs.declared.rows.Row.{Row}
use Rattle.f2_model.specs.declared.rows.Kind.{Kind}
use Rattle.f2_model.specs.declared.rows.Kind.TheVariants.{Regular, Directory}
use Rattle.f2_stored.specs.Places.{Places, dentries_at, IsPageBlock}

-- a file's own bytes, and a directory's dentries
abbrev pub RegularPage : Row → ℕ → List ℕ → Type 0
RegularPage row page block = map.get row.pages page ≡ Some block

abbrev pub DirectoryPage : Places → ℕ → ℕ → List ℕ → Type 0
DirectoryPage places ino page block = (dentry_fault block ≡ None) × (dentries_of block ≡ dentries_at places ino page)

-- a row with its kind by name
with_kind : (row : Row) (kind : Kind) → row.kind ≡ kind → row ≡ record row { kind = kind }
with_kind row kind is = λ i. record row { kind = is i }

pub regular_page : (places : Places) (row : Row) (page : ℕ) (block : List ℕ) → row.kind ≡ Regular → IsPageBlock places row page block → RegularPage row page block
regular_page places row page block kind own = subst (λ (r : Row). IsPageBlock places r page block) (with_kind row Regular kind) own

pub directory_page : (places : Places) (row : Row) (page : ℕ) (block : List ℕ) → row.kind ≡ Directory → IsPageBlock places row page block → DirectoryPage places row.ino page block
directory_page places row page block kind own = subst (λ (r : Row). IsPageBlock places r page block) (with_kind row Directory kind) own

-- and the other way round
pub of_regular : (places : Places) (row : Row) (page : ℕ) (block : List ℕ) → row.kind ≡ Regular → RegularPage row page block → IsPageBlock places row page block
of_regular places row page block kind own = subst (λ (r : Row). RegularPage r page block → IsPageBlock places r page block) (sym (with_kind row Regular kind)) (λ p. p) own

pub of_directory : (places : Places) (row : Row) (page : ℕ) (block : List ℕ) → row.kind ≡ Directory → DirectoryPage places row.ino page block → IsPageBlock places row page block
of_directory places row page block kind own = subst (λ (r : Row). DirectoryPage places r.ino page block → IsPageBlock places r page block) (sym (with_kind row Directory kind)) (λ p. p) own

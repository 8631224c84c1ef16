-- A dentry as a value of the program, and what a fault says of a block.
use Rattle.std.specs.Prelude.{◌≡◌, ⊤, ℕ, List, Some, false}
use Rattle.f2_format.specs.Dentry.{Dentry, REGULAR_TYPE, DIRECTORY_TYPE, dentry_fault, is_good_dentry}
use Rattle.f2_model.specs.declared.rows.Kind.{Kind}
use Rattle.f2_model.specs.declared.rows.Kind.TheVariants.{Regular, Directory}
use Rattle.f2_dentry_block.specs.declared.dents.Dent.{Dent}
use Rattle.f2_dentry_block.specs.declared.dents.UnpackFault.{UnpackFault}
use Rattle.f2_dentry_block.specs.declared.dents.UnpackFault.TheVariants.{Dent as wrong_dent, Memory}

-- the file type of a kind
abbrev pub type_of : Kind → ℕ
type_of Regular = REGULAR_TYPE
type_of Directory = DIRECTORY_TYPE

-- the dentry that a value stands for
abbrev pub dentry_of : Dent → Dentry
dentry_of dent = record { name = dent.name; ino = dent.ino; type = type_of dent.kind }

-- the name that begins in this slot is wrong where a fault other than want of memory was told, and the fault tells
-- this slot
abbrev pub IsWrongAt : List ℕ → ℕ → UnpackFault → Type 0
IsWrongAt block slot (wrong_dent told) = (told ≡ slot) × (is_good_dentry block slot ≡ false)
IsWrongAt block slot Memory = ⊤

-- the block has such a fault: the first slot in which a wrong name begins is the one that is told. Want of
-- memory says nothing of the block
abbrev pub IsFaultOf : List ℕ → UnpackFault → Type 0
IsFaultOf block (wrong_dent slot) = dentry_fault block ≡ Some slot
IsFaultOf block Memory = ⊤

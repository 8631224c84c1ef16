-- The rows and the directories of a base that was read.
use Rattle.std.proofs.Common.{◌≡◌, ◌≢◌, inl, ℕ, List, Bor, true, false, refl, sym, ap, ◌∙◌, subst}
use Rattle.std.specs.Prelude.{Option, Some, None, is_some}
use Rattle.std.specs.Option.{option_copied}
use Rattle.std.specs.FinMap as map
use Rattle.f2_format.specs.Dentry.{Dentry}
use Rattle.f2_dir.specs.Entries.{Entries}
use Rattle.f2_model.specs.declared.rows.Kind.{Kind}
use Rattle.f2_model.specs.declared.rows.Kind.TheVariants.{Directory}
use Rattle.f2_image.specs.Images.{Image}
use Rattle.f2_image.specs.Packs.{Checkpoint}
use Rattle.f2_image.specs.Bases.{IsInode, IsReached, HasDentry, inode_kind}
use Rattle.f2_image.specs.Bases as bases
use Rattle.f2_image.specs.Faults.{IsDirectoryOf}
use Rattle.f2_recover.specs.Walking.{IsBaseRead, AreNamesOf}
use Rattle.f2_recover.specs.declared.rows.BaseRow.{BaseRow}
use Rattle.f2_recover.specs.declared.walk.Walk.{Walk}

some_of : {X : Type 0} (o : Option X) → is_some o ≡ true → (x : X) × (o ≡ Some x)
some_of None h = absurd (cc)
some_of (Some x) h = (x, refl)

not_none : {X : Type 0} (o : Option X) (x : X) → is_some o ≡ false → o ≡ Some x → ⊥
not_none o x none is = no (sym none ∙ ap is_some is)
  where
    no : false ≡ true → ⊥
    no e = cc

same_value : {X : Type 0} (x y : X) → Some x ≡ Some y → x ≡ y
same_value x y e = cc

-- what is behind a reference is there as the reference is
pub is_some-copied : {X : Type 0} (o : Option (Bor X)) → is_some (option_copied o) ≡ is_some o
is_some-copied None = refl
is_some-copied (Some x) = refl

module _ (image : Image) (ckpt : Checkpoint) where
  -- an ino has one kind
  same_kind : (ino : ℕ) (a b : Kind) (one other : List ℕ) → IsInode image ckpt ino a one → IsInode image ckpt ino b other → a ≡ b
  same_kind ino a b one other x y =
      let same = same_value one other (sym x.there ∙ y.there) in
      same_value a b (sym x.is_kind ∙ ap inode_kind same ∙ y.is_kind)

module _ (image : Image) (ckpt : Checkpoint) (walk : Walk) (base : IsBaseRead image ckpt walk) where
  -- a row of the base is reached
  pub row_reached : (ino : ℕ) (row : BaseRow) → map.get walk.rows ino ≡ Some row → IsReached image ckpt ino
  row_reached ino row there = (base.walked.to.rows ino row there).file.reached

  -- the row of a directory says so
  kind_of_row : (ino : ℕ) (row : BaseRow) (inode : List ℕ) → map.get walk.rows ino ≡ Some row → IsInode image ckpt ino Directory inode → row.file.kind ≡ Directory
  kind_of_row ino row inode there is =
      let file = (base.walked.to.rows ino row there).file in
      same_kind image ckpt ino row.file.kind Directory file.inode inode file.is is

  -- each ino that is reached has a row
  pub row_of : (ino : ℕ) → IsReached image ckpt ino → (row : BaseRow) × (map.get walk.rows ino ≡ Some row)
  row_of _ bases.root = (base.walked.to.root.row, base.walked.to.root.there)
  row_of _ (bases.below directory dentry up has) =
      let above = row_of directory up in
      let kind = kind_of_row directory above.0 has.2.block.inode above.1 has.2.block.is in
      let found = base.walked.to.found directory has.0 has.1 dentry has.2 (inl (base.walked.all directory above.0 above.1 kind)) in
      (found.row, found.there)

  pub reached_in : (ino : ℕ) → map.contains_key walk.rows ino ≡ true → IsReached image ckpt ino
  reached_in ino has = let found = some_of (map.get walk.rows ino) has in row_reached ino found.0 found.1

  pub not_reached : (ino : ℕ) → map.contains_key walk.rows ino ≡ false → ¬ (IsReached image ckpt ino)
  not_reached ino none up = let found = row_of ino up in not_none (map.get walk.rows ino) found.0 none found.1

  -- the names of a directory of the base are known, and of nothing else
  pub directory_in : (ino : ℕ) → map.contains_key walk.names ino ≡ true → IsDirectoryOf image ckpt ino
  directory_in ino has =
      let one = (base.walked.to.walked ino (sym (base.walked.to.others ino) ∙ has)).row in
      let file = (base.walked.to.rows ino one.row one.there).file in
      (file.reached, (file.inode, record { there = file.is.there; is_kind = file.is.is_kind ∙ ap Some one.is }))

  pub not_directory : (ino : ℕ) → map.contains_key walk.names ino ≡ false → ¬ (IsDirectoryOf image ckpt ino)
  not_directory ino none directory =
      let found = row_of ino directory.0 in
      let kind = kind_of_row ino found.0 directory.1.0 found.1 directory.1.1 in
      no (sym none ∙ base.walked.to.others ino ∙ base.walked.all ino found.0 found.1 kind)
    where
      no : false ≡ true → ⊥
      no e = cc

  pub are_names : (ino : ℕ) (names : Entries) → map.get walk.names ino ≡ Some names → AreNamesOf image ckpt ino names
  are_names ino names known =
      let one = base.walked.to.walked ino (sym (base.walked.to.others ino) ∙ ap is_some known) in
      subst (AreNamesOf image ckpt ino) (same_value one.names names (sym one.known ∙ known)) one.are

  -- a name that a directory of the base doesn't have, and one that it has
  pub name_free : (ino : ℕ) (names : Entries) (name : List ℕ) → map.get walk.names ino ≡ Some names → is_some (map.get names name) ≡ false → (dentry : Dentry) → HasDentry image ckpt ino dentry → dentry.name ≢ name
  name_free ino names name known free dentry has same =
      let found = (are_names ino names known).all dentry has in
      not_none (map.get names name) _ free (ap (map.get names) (sym same) ∙ found.1.0)

  pub name_taken : (ino : ℕ) (names : Entries) (name : List ℕ) → map.get walk.names ino ≡ Some names → is_some (map.get names name) ≡ true → (dentry : Dentry) × (HasDentry image ckpt ino dentry × (dentry.name ≡ name))
  name_taken ino names name known taken =
      let found = some_of (map.get names name) taken in
      (_, ((are_names ino names known).only name found.0.0 found.0.1 found.1, refl))

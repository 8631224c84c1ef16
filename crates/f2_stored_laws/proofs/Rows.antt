-- The rows of a base and the inos that are reached in its image.
use Rattle.std.proofs.Common.{◌≡◌, ℕ, List, take, refl, sym, ap, ◌∙◌, subst}
use Rattle.std.specs.Prelude.{Option, Some, None}
use Rattle.std.specs.FinMap as map
use Rattle.std.proofs.lemmas.Option.{same_Some}
use Rattle.f2_format.specs.Footer.{footer_ino}
use Rattle.f2_format.specs.Inode.{inode_of}
use Rattle.f2_disk.specs.Contents.{Contents}
use Rattle.f2_model.specs.Tree.{Rows}
use Rattle.f2_model.specs.State.{State}
use Rattle.f2_model.specs.declared.rows.Row.{Row}
use Rattle.f2_model.specs.declared.rows.Kind.TheVariants.{Directory}
use Rattle.f2_image.specs.Images.{Image}
use Rattle.f2_image.specs.Packs.{Checkpoint}
use Rattle.f2_image.specs.Bases.{IsInode, IsReached, IsBase, inode_kind}
use Rattle.f2_image.specs.Bases as bases
use Rattle.f2_image.specs.Chains.{block_in, IsNamed}
use Rattle.f2_image.proofs.OneName.{told_alone}
use Rattle.f2_image.specs.Faults.{BringsName, IsDirectoryOf}
use Rattle.f2_stored.specs.Layout.{Layout, chained}
use Rattle.f2_stored_laws.proofs.LogImages.{HasPart, MarkAt, mark_at}

-- an ino that is reached has a row
pub row_there : (image : Image) (ckpt : Checkpoint) (tree : Rows) → IsBase image ckpt tree → (ino : ℕ) → IsReached image ckpt ino → (row : Row) × (map.get tree ino ≡ Some row)
row_there image ckpt tree base _ bases.root = (base.root.row, base.root.there)
row_there image ckpt tree base _ (bases.below directory dentry up has) = let at = base.names directory dentry up has in (at.row, at.there)

-- a directory of the image of a base has the row of a directory
pub directory_there : (image : Image) (ckpt : Checkpoint) (tree : Rows) → IsBase image ckpt tree → (ino : ℕ) → IsDirectoryOf image ckpt ino → (row : Row) × (map.get tree ino ≡ Some row) × (row.kind ≡ Directory)
directory_there image ckpt tree base ino directory =
    let found = row_there image ckpt tree base ino directory.0 in
    let is = (base.rows ino found.0 found.1).is in
    let inode = directory.1 in
    let same : inode.0 ≡ (base.rows ino found.0 found.1).inode = same_Some inode.0 (base.rows ino found.0 found.1).inode (sym inode.1.there ∙ is.there) in
    (found.0, found.1, same_Some found.0.kind Directory (sym is.is_kind ∙ ap inode_kind (sym same) ∙ inode.1.is_kind))

module _ (lists : Contents) (layout : Layout) (state : State) (image : Image) (part : HasPart lists layout state image) where
  base : IsBase layout.base.image layout.base.ckpt state.base
  base = part.keeps.base.means.is_base

  -- a row of the base is reached in the image
  pub reached_there : (ino : ℕ) (row : Row) → map.get state.base ino ≡ Some row → IsReached image layout.base.ckpt ino
  reached_there ino row there = part.alike.there.reached ino ((base.rows ino row there).reached)

  -- and a directory's is a directory
  pub directory_of : (ino : ℕ) (row : Row) → map.get state.base ino ≡ Some row → row.kind ≡ Directory → IsDirectoryOf image layout.base.ckpt ino
  directory_of ino row there kind =
      let at = base.rows ino row there in
      (reached_there ino row there, (at.inode, part.alike.there.inode ino Directory at.inode (subst (λ k. IsInode layout.base.image layout.base.ckpt ino k at.inode) kind at.is)))

  -- an ino that isn't reached in the image has no row
  pub no_row : (ino : ℕ) → ¬ (IsReached image layout.base.ckpt ino) → map.get state.base ino ≡ None
  no_row ino none = by_row (map.get state.base ino) refl
    where
      by_row : (o : Option Row) → map.get state.base ino ≡ o → map.get state.base ino ≡ None
      by_row None e = e
      by_row (Some row) e = absurd (none (reached_there ino row e))

  -- the mark of a block that brings a name has it
  pub record Brought (place ino parent : ℕ) (name : List ℕ) : Type 0 where
    pub block : List ℕ
    pub at : MarkAt lists layout state image part place block
    pub ino_is : at.mark.ino ≡ ino
    pub fresh : map.get state.base ino ≡ None
    pub under : at.mark.row.parent ≡ parent
    pub named : at.mark.row.name ≡ name

  pub mark_ino : (place : ℕ) (block : List ℕ) (at : MarkAt lists layout state image part place block) → at.mark.ino ≡ footer_ino block
  mark_ino place block at = at.holds.ino ∙ ap footer_ino (sym at.stands)

  pub brought : (place ino parent : ℕ) (name : List ℕ) → BringsName image layout.base.ckpt place ino parent name → Brought place ino parent name
  brought place ino parent name brings =
      let at = mark_at lists layout state image part place brings.block brings.marked in
      let own : at.mark.ino ≡ ino = mark_ino place brings.block at ∙ brings.own in
      let fresh = no_row ino brings.fresh in
      let named_so : IsNamed state.base (block_in (chained layout) place) at.mark.row None = subst (IsNamed state.base (block_in (chained layout) place) at.mark.row) (ap (map.get state.base) own ∙ fresh) at.holds.named in
      let named = told_alone at.mark.row _ _ named_so in
      let told = λ (block : List ℕ). take (inode_of block).name_length (inode_of block).name in
      record {
        block = brings.block;
        at = at;
        ino_is = own;
        fresh = fresh;
        under = named.1 ∙ ap (λ block. (inode_of block).parent) (sym at.stands) ∙ brings.under;
        named = named.2 ∙ ap told (sym at.stands) ∙ brings.named;
      }

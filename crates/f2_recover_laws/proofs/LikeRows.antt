-- The rows of a base that was read are those of the tree that the image has.
use Rattle.std.proofs.Common.{◌≡◌, ℕ, List, [], refl, sym, ap, ◌∙◌, subst}
use Rattle.std.specs.Prelude.{Option, Some, None}
use Rattle.std.specs.FinMap as map
use Rattle.std.proofs.lemmas.Option.{none-some, same_Some}
use Rattle.f2_format.specs.Inode.{inode_of}
use Rattle.f2_model.specs.Tree.{Rows, ROOT}
use Rattle.f2_model.specs.declared.rows.Row.{Row}
use Rattle.f2_model.specs.declared.rows.Kind.TheVariants.{Regular}
use Rattle.f2_image.specs.Images.{Image}
use Rattle.f2_image.specs.Packs.{Checkpoint}
use Rattle.f2_image.specs.Bases.{IsReached, root, below, HasContent, IsBase}
use Rattle.f2_image.proofs.OneName.{Carries, carries, root_carries}
use Rattle.f2_recover.specs.Walking.{HasRow, IsWalked}
use Rattle.f2_recover.specs.declared.rows.BaseRow.{BaseRow}
use Rattle.f2_recover.specs.declared.walk.Walk.{Walk}
use Rattle.f2_recover.proofs.Walked.{one_kind, row_of}
use Rattle.f2_recover_laws.specs.Sound.{IsRowLike, AreAlike}
use Rattle.f2_recover_laws.proofs.Stands.{stands_by}
use Rattle.f2_recover_laws.proofs.FilePages.{pages_known}

module _ (image : Image) (ckpt : Checkpoint) (walk : Walk) (is : IsWalked image ckpt walk) (tree : Rows) (base : IsBase image ckpt tree) where
  -- a row of the tree and one that was read stand in one directory under one name
  record StandBoth (ino : ℕ) : Type 0 where
    directory : ℕ
    name : List ℕ
    in_tree : Carries tree ino directory name
    read : HasRow walk.rows ino (λ row. (row.parent ≡ directory) × (row.name ≡ name))

  stand_both : (ino : ℕ) → IsReached image ckpt ino → StandBoth ino
  stand_both _ root = record { directory = ROOT; name = []; in_tree = root_carries tree base.root; read = record { row = is.to.root.row; there = is.to.root.there; is = (is.to.root.is.parent, is.to.root.is.named) } }
  stand_both _ (below directory dentry up has) =
      let row = stands_by image ckpt walk is directory has.0 has.1 dentry up has.2 in
      record { directory = directory; name = dentry.name; in_tree = carries tree dentry.ino directory dentry.name (base.names directory dentry up has); read = record { row = row.row; there = row.there; is = (row.is.parent, row.is.named) } }

  module _ (ino : ℕ) (row : Row) (own : BaseRow) (in_tree : map.get tree ino ≡ Some row) (there : map.get walk.rows ino ≡ Some own) where
    like : IsRowLike image row own
    like =
        let at = base.rows ino row in_tree in
        let file = (is.to.rows ino own there).file in
        let both = stand_both ino at.reached in
        let rows : both.in_tree.row ≡ row = same_Some both.in_tree.row row (sym both.in_tree.there ∙ in_tree) in
        let owns : both.read.row ≡ own = same_Some both.read.row own (sym both.read.there ∙ there) in
        let inodes : at.inode ≡ file.inode = same_Some at.inode file.inode (sym at.is.there ∙ file.is.there) in
        let content = λ (regular : row.kind ≡ Regular). subst (λ k. HasContent image ckpt at.inode k row) regular at.content in
        record {
          kind = one_kind image ckpt ino row.kind own.file.kind at.inode file.inode at.is file.is;
          parent = ap (λ (r : Row). r.parent) (sym rows) ∙ both.in_tree.parent ∙ sym both.read.is.0 ∙ ap (λ (r : BaseRow). r.parent) owns;
          named = ap (λ (r : Row). r.name) (sym rows) ∙ both.in_tree.named ∙ sym both.read.is.1 ∙ ap (λ (r : BaseRow). r.name) owns;
          size = λ regular. (content regular).0 ∙ ap (λ n. (inode_of n).size) inodes ∙ sym file.size;
          pages = λ regular. pages_known image ckpt ino row.kind at.inode at.reached at.is row.pages (content regular).1 (content regular).2 own.file.nodes file.part;
        }

  pub alike : (ino : ℕ) → AreAlike image (map.get tree ino) (map.get walk.rows ino)
  alike ino = by (map.get tree ino) (map.get walk.rows ino) refl refl
    where
      by : (x : Option Row) (y : Option BaseRow) → map.get tree ino ≡ x → map.get walk.rows ino ≡ y → AreAlike image x y
      by None None p q = tt
      by (Some row) None p q = let has = row_of image ckpt walk is ino (base.rows ino row p).reached in none-some has.row (sym q ∙ has.there)
      by None (Some own) p q = let both = stand_both ino (is.to.rows ino own q).file.reached in none-some both.in_tree.row (sym p ∙ both.in_tree.there)
      by (Some row) (Some own) p q = like ino row own p q

-- An image whose base was read has a base: its rows are made of those that were read.
use Rattle.std.proofs.Common.{◌≡◌, ℕ, ◌<◌, List, [], refl, sym, ap, ◌∙◌, subst}
use Rattle.std.specs.Prelude.{Option, Some, None}
use Rattle.std.specs.FinMap as map
use Rattle.std.proofs.lemmas.Option.{none-some, same_Some}
use Rattle.f2_format.specs.Geometry.{nid_limit}
use Rattle.f2_format.specs.Dentry.{Dentry}
use Rattle.f2_format.specs.Inode.{inode_of}
use Rattle.f2_format.specs.Offsets.{page_limit}
use Rattle.f2_model.specs.Content.{PageMap}
use Rattle.f2_model.specs.Tree.{Rows, ROOT}
use Rattle.f2_model.specs.declared.rows.Row.{Row}
use Rattle.f2_model.specs.declared.rows.Kind.{Kind}
use Rattle.f2_model.specs.declared.rows.Kind.TheVariants.{Regular, Directory}
use Rattle.f2_image.specs.Images.{Image}
use Rattle.f2_image.specs.Packs.{Checkpoint}
use Rattle.f2_image.specs.Nodes.{block_there, page_address}
use Rattle.f2_image.specs.Bases.{HasDentry, IsReached, HasContent, IsBaseRow, IsBase}
use Rattle.f2_image.proofs.Dentries.{node_in_table}
use Rattle.f2_image.proofs.Limited.{MapBelow, map_below}
use Rattle.f2_image.proofs.OneName.{Carries, StandsOnce, has_root, base_of_once}
use Rattle.f2_recover.specs.Walking.{IsWalked}
use Rattle.f2_recover.specs.declared.rows.BaseRow.{BaseRow}
use Rattle.f2_recover.specs.declared.walk.Walk.{Walk}
use Rattle.f2_recover_laws.proofs.Stands.{stands_by, not_root}

-- a size and pages with which a row of this kind has the content of an inode
content : (image : Image) (ckpt : Checkpoint) (kind : Kind) (inode : List ℕ) → (size : ℕ) × ((pages : PageMap) × ((row : Row) → row.size ≡ size → row.pages ≡ pages → HasContent image ckpt inode kind row))
content image ckpt Directory inode = (0, (map.empty, λ row size pages. (size, pages)))
content image ckpt Regular inode =
    let pages = map_below (λ page. block_there image (page_address image ckpt inode page)) page_limit in (
      (inode_of inode).size,
      (
        pages.entries,
        λ row size is. (
          size,
          (λ page within. ap (λ m. map.get m page) is ∙ pages.below page within),
          (λ page bytes has. pages.within page bytes (ap (λ m. map.get m page) (sym is) ∙ has)),
        ),
      ),
    )

module _ (image : Image) (ckpt : Checkpoint) (walk : Walk) (is : IsWalked image ckpt walk) where
  -- a row of the base stands where a row that was read does
  record IsMadeOf (ino : ℕ) (own : BaseRow) (row : Row) : Type 0 where
    of_base : IsBaseRow image ckpt ino row
    parent : row.parent ≡ own.parent
    named : row.name ≡ own.name

  made : (ino : ℕ) (own : BaseRow) → map.get walk.rows ino ≡ Some own → (row : Row) × IsMadeOf ino own row
  made ino own there =
      let file = (is.to.rows ino own there).file in
      let parts = content image ckpt own.file.kind file.inode in
      let row : Row = record { ino = ino; kind = own.file.kind; parent = own.parent; name = own.name; size = parts.0; pages = parts.1.0 } in (
        row,
        record {
          of_base = record { own = refl; reached = file.reached; inode = file.inode; is = file.is; content = parts.1.1 row refl refl };
          parent = refl;
          named = refl;
        },
      )

  -- the row of an ino, where a row of it was read
  record Choice (ino : ℕ) : Type 0 where
    row : Option Row
    of_base : (r : Row) → row ≡ Some r → IsBaseRow image ckpt ino r
    of_read : (own : BaseRow) → map.get walk.rows ino ≡ Some own → (r : Row) × ((row ≡ Some r) × IsMadeOf ino own r)

  chosen : (ino : ℕ) → Choice ino
  chosen ino = by (map.get walk.rows ino) refl
    where
      by : (found : Option BaseRow) → map.get walk.rows ino ≡ found → Choice ino
      by None e = record { row = None; of_base = λ r p. absurd (none-some r p); of_read = λ own there. absurd (none-some own (sym e ∙ there)) }
      by (Some own) e =
          let at = made ino own e in
          record {
            row = Some at.0;
            of_base = λ r p. subst (IsBaseRow image ckpt ino) (same_Some at.0 r p) at.1.of_base;
            of_read = λ other there. (at.0, (refl, subst (λ o. IsMadeOf ino o at.0) (same_Some own other (sym e ∙ there)) at.1));
          }

  rows : MapBelow (nid_limit ckpt.geom) (λ ino. (chosen ino).row)
  rows = map_below (λ ino. (chosen ino).row) (nid_limit ckpt.geom)

  -- the base has a row of each ino of which one was read
  stands : (ino : ℕ) (own : BaseRow) (directory : ℕ) (name : List ℕ) → map.get walk.rows ino ≡ Some own → own.parent ≡ directory → own.name ≡ name → Carries rows.entries ino directory name
  stands ino own directory name there parent named =
      let file = (is.to.rows ino own there).file in
      let within : ino < nid_limit ckpt.geom = node_in_table image ckpt ino file.inode file.is.there in
      let at = (chosen ino).of_read own there in
      record { row = at.0; there = rows.below ino within ∙ at.1.0; parent = at.1.1.parent ∙ parent; named = at.1.1.named ∙ named }

  are_rows : (ino : ℕ) (row : Row) → map.get rows.entries ino ≡ Some row → IsBaseRow image ckpt ino row
  are_rows ino row there = (chosen ino).of_base row (sym (rows.below ino (rows.within ino row there)) ∙ there)

  are_named : (directory : ℕ) (dentry : Dentry) → IsReached image ckpt directory → HasDentry image ckpt directory dentry → StandsOnce rows.entries dentry.ino directory dentry.name
  are_named directory dentry reached has =
      let read = stands_by image ckpt walk is directory has.0 has.1 dentry reached has.2 in
      let at = stands dentry.ino read.row directory dentry.name read.there read.is.parent read.is.named in
      record {
        row = at.row;
        there = at.there;
        not_root = λ root. not_root image ckpt walk is directory has.0 has.1 dentry reached has.2 (sym (are_rows dentry.ino at.row at.there).own ∙ root);
        parent = at.parent;
        named = at.named;
      }

  pub read_base : (base : Rows) × IsBase image ckpt base
  read_base =
      let root = is.to.root in
      let top = stands ROOT root.row ROOT [] root.there root.is.parent root.is.named in
      (rows.entries, base_of_once image ckpt rows.entries are_rows are_named (has_root rows.entries top.row top.there (are_rows ROOT top.row top.there).own top.parent top.named))

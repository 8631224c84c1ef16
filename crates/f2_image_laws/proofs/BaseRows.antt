-- The rows of the base of a sound image, each by itself.
use Rattle.std.proofs.Common.{◌≡◌, ◌≢◌, inl, inr, ℕ, ◌<◌, ◌≤◌, List, All, refl, sym, ap, ◌∙◌, subst, arith}
use Rattle.std.specs.Prelude.{Some, None}
use Rattle.std.specs.FinMap as map
use Rattle.std.proofs.lemmas.Option.{none-some, same_Some}
use Rattle.std.specs.Ordering.{nat_cmp}
use native.Mathlib.Decide.{dec_lt}
use Rattle.f2_format.specs.Offsets.{page_limit}
use Rattle.f2_format.specs.Geometry.{nid_limit}
use Rattle.f2_format.specs.Inode.{inode_of, SIZE_LIMIT}
use Rattle.f2_format.specs.Dentry.{Dentry}
use Rattle.f2_disk.specs.Contents.{IsBlock}
use Rattle.f2_model.specs.Tree.{Rows, ROOT, HasGoodPages}
use Rattle.f2_model.specs.declared.rows.Row.{Row}
use Rattle.f2_model.specs.declared.rows.Kind.{Kind}
use Rattle.f2_model.specs.declared.rows.Kind.TheVariants.{Regular, Directory}
use Rattle.f2_image.specs.Images.{Image, IsSized}
use Rattle.f2_image.specs.Packs.{Checkpoint}
use Rattle.f2_image.specs.Nodes.{page_address}
use Rattle.f2_image.specs.Bases.{IsInode, IsReached, HasDentry, HasContent, IsBaseRow, IsBase, inode_kind}
use Rattle.f2_image.specs.Bases as bases
use Rattle.f2_image.specs.Reached.{IsBasePage}
use Rattle.f2_image.specs.Faults.{IsSound, IsDirectoryOf, IsPastSize}
use Rattle.f2_image.specs.Faults as faults
use Rattle.f2_image.proofs.Dentries.{node_in_table, same_inode}
use Rattle.f2_image_laws.proofs.Agreeing.{sound_table}
use Rattle.f2_image_laws.proofs.Sound.{no_bad_inode, no_bad_tree, page_is_block}
use Rattle.f2_image_laws.proofs.Pages.{good_pages}
use Rattle.f2_image_laws.proofs.Numbers.{not_less}

module _ (image : Image) (ckpt : Checkpoint) (sound : IsSound image ckpt) (base : Rows) (is_base : IsBase image ckpt base) where
  -- the base has a row for each ino that is reached, and no other
  pub row_of : (ino : ℕ) → IsReached image ckpt ino → (row : Row) × (map.get base ino ≡ Some row)
  row_of _ bases.root = (is_base.root.row, is_base.root.there)
  row_of _ (bases.below directory dentry up has) = let at = is_base.names directory dentry up has in (at.row, at.there)

  pub not_reached : (ino : ℕ) → map.get base ino ≡ None → ¬ (IsReached image ckpt ino)
  not_reached ino none reach = let found = row_of ino reach in none-some found.0 (sym none ∙ found.1)

  -- an ino of the base is the root's or above it, and in the table
  pub dentry_above : (directory : ℕ) (dentry : Dentry) → IsReached image ckpt directory → HasDentry image ckpt directory dentry → 4 ≤ dentry.ino
  dentry_above directory dentry up has = by_order (dec_lt dentry.ino 4)
    where
      by_order : Dec (dentry.ino < 4) → 4 ≤ dentry.ino
      by_order (yes small) = absurd (no_bad_tree image ckpt sound dentry.ino (faults.too_low directory dentry up has refl small))
      by_order (no large) = omega (arith, large)

  above_root : (ino : ℕ) → IsReached image ckpt ino → ROOT ≤ ino
  above_root _ bases.root = omega arith
  above_root _ (bases.below directory dentry up has) = let above = dentry_above directory dentry up has in omega (arith, above)

  pub base_number : (ino : ℕ) (row : Row) → map.get base ino ≡ Some row → (ROOT ≤ ino) × (ino < nid_limit ckpt.geom)
  base_number ino row there =
      let at = is_base.rows ino row there in
      (above_root ino at.reached, node_in_table image ckpt ino at.inode at.is.there)

  -- the kind of a row is that of its inode
  pub kind_of : (ino : ℕ) (row : Row) (kind : Kind) (inode : List ℕ) → map.get base ino ≡ Some row → IsInode image ckpt ino kind inode → row.kind ≡ kind
  kind_of ino row kind inode there is =
      let at = is_base.rows ino row there in
      let same : at.inode ≡ inode = same_inode image ckpt ino row.kind kind at.inode inode at.is is in
      same_Some row.kind kind (sym at.is.is_kind ∙ ap inode_kind same ∙ is.is_kind)

  -- a directory of the base
  pub directory_row : (ino : ℕ) → IsDirectoryOf image ckpt ino → (up : Row) × (map.get base ino ≡ Some up) × (up.kind ≡ Directory)
  directory_row ino is = let found = row_of ino is.0 in (found.0, found.1, kind_of ino found.0 Directory is.1.0 found.1 is.1.1)

  pub is_directory : (ino : ℕ) (row : Row) → map.get base ino ≡ Some row → row.kind ≡ Directory → IsDirectoryOf image ckpt ino
  is_directory ino row there directory = let at = is_base.rows ino row there in (at.reached, (at.inode, subst (λ kind. IsInode image ckpt ino kind at.inode) directory at.is))

  -- the pages of a row are good
  module _ (blocks : All IsBlock image) (sized : IsSized image ckpt.geom) where
    file_pages : (ino : ℕ) (row : Row) → IsBaseRow image ckpt ino row → row.kind ≡ Regular → HasGoodPages SIZE_LIMIT row
    file_pages ino row at regular = good_pages image row (page_address image ckpt at.inode) (record {
      regular = regular;
      size = size;
      within = content.2;
      blocks = content.1;
      whole = λ page small there. page_is_block image ckpt sound blocks sized ino page (page_address image ckpt at.inode page) (inl (is_page page small there));
      before = λ page small there past. no_bad_tree image ckpt sound ino (faults.past_size page (page_address image ckpt at.inode page) at.inode at.reached is (is_page page small there)
          (subst (λ n. IsPastSize image n page (page_address image ckpt at.inode page)) content.0 past));
    })
      where
        is : IsInode image ckpt ino Regular at.inode
        is = subst (λ kind. IsInode image ckpt ino kind at.inode) regular at.is

        content : HasContent image ckpt at.inode Regular row
        content = subst (λ kind. HasContent image ckpt at.inode kind row) regular at.content

        is_page : (page : ℕ) → page < page_limit → page_address image ckpt at.inode page ≢ 0 → IsBasePage image ckpt ino page (page_address image ckpt at.inode page)
        is_page page small there = record {
          reached = at.reached;
          kind = Regular;
          inode = at.inode;
          is = is;
          within = small;
          address = refl;
          there = there;
        }

        size : row.size ≤ SIZE_LIMIT
        size = by_order (dec_lt SIZE_LIMIT (inode_of at.inode).size)
          where
            by_order : Dec (SIZE_LIMIT < (inode_of at.inode).size) → row.size ≤ SIZE_LIMIT
            by_order (yes large) = absurd (no_bad_inode image ckpt sound _ (faults.in_base (sound_table image ckpt sound) ino at.inode at.reached is.there refl (inr (inr large))))
            by_order (no small) = subst (λ n. n ≤ SIZE_LIMIT) (sym content.0) (not_less SIZE_LIMIT (inode_of at.inode).size small)

    pub base_pages : (ino : ℕ) (row : Row) → map.get base ino ≡ Some row → HasGoodPages SIZE_LIMIT row
    base_pages ino row there = by_kind row.kind refl
      where
        by_kind : (kind : Kind) → row.kind ≡ kind → HasGoodPages SIZE_LIMIT row
        by_kind Regular is = file_pages ino row (is_base.rows ino row there) is
        by_kind Directory is =
            let at = is_base.rows ino row there in
            let content : HasContent image ckpt at.inode Directory row = subst (λ kind. HasContent image ckpt at.inode kind row) is at.content in
            record {
              directory = λ _. content;
              size = subst (λ n. n ≤ SIZE_LIMIT) (sym content.0) (zero_least SIZE_LIMIT);
              whole = λ page bytes has. absurd (no_page page bytes content.1 has);
              before = λ page bytes has. absurd (no_page page bytes content.1 has);
              zeros = λ page at bytes has past. absurd (no_page page bytes content.1 has);
            }
          where
            zero_least : (n : ℕ) → 0 ≤ n
            zero_least n = omega arith

            no_page : (page : ℕ) (bytes : List ℕ) → row.pages ≡ map.empty → ¬ (map.get row.pages page ≡ Some bytes)
            no_page page bytes none has = none-some bytes (sym (ap (λ m. map.get m page) none ∙ map.get-empty nat_cmp page) ∙ has)

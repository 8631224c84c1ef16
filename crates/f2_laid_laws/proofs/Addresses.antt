-- The inodes, the dentry blocks and the addresses of an image that is laid out plainly are right.
use Rattle.std.proofs.Common.{◌≡◌, ◌≢◌, ◌⊎◌, inl, inr, ℕ, ◌<◌, ◌≤◌, List, sym, ap, ◌∙◌, subst, arith, true≢false}
use Rattle.std.specs.Prelude.{Some, None}
use Rattle.std.proofs.lemmas.Option.{none-some}
use Rattle.f2_format.specs.Geometry.{is_in_data}
use Rattle.f2_format.specs.Inode.{inode_of, SIZE_LIMIT}
use Rattle.f2_format.specs.Dentry.{dentry_fault}
use Rattle.f2_model.specs.Tree.{Rows}
use Rattle.f2_model.specs.declared.rows.Row.{Row}
use Rattle.f2_model.specs.declared.rows.Kind.TheVariants.{Directory}
use Rattle.f2_dentry_block.specs.Packed.{packed_blocks}
use Rattle.f2_image.specs.Reached.{IsNode, IsPage}
use Rattle.f2_image.specs.Faults as faults
use Rattle.f2_image.specs.Faults.{IsForeign, IsBadInode, HasDentryFault, IsOutOfZone, IsShared}
use Rattle.f2_image.specs.Images.{Image, block_at}
use Rattle.f2_image.specs.Packs.{Checkpoint}
use Rattle.f2_image.specs.Nodes.{node, node_address}
use Rattle.f2_image.specs.Bases.{IsReached, inode_kind}
use Rattle.f2_image.proofs.OneBase.{same_some}
use Rattle.f2_laid.specs.declared.stored.Stored.{Stored}
use Rattle.f2_laid_laws.proofs.Members.{in_list}
use Rattle.f2_laid_laws.proofs.Refuted.{neither}
use Rattle.f2_laid_laws.proofs.Homes.{IsHome, inode_block, inode_is, node_is}
use Rattle.f2_laid_laws.proofs.Listings.{each_of, no_fault, block_held}
use Rattle.f2_laid_laws.proofs.Base.{IsStored, geometry, home_of, listing, in_tree}
use Rattle.f2_laid_laws.proofs.NoLog.{none_within, none_marked, of_base}
use Rattle.f2_laid_laws.proofs.Nodes.{own_node, own_page}

module _ (image : Image) (ckpt : Checkpoint) (tree : Rows) (stored : Stored) (is : IsStored image ckpt tree stored) where
  -- the inodes
  not_odd : (ino : ℕ) (block : List ℕ) → IsReached image ckpt ino → node image ckpt ino ≡ Some block → IsForeign block → ⊥
  not_odd ino block reach there bad =
      let row = in_tree image ckpt tree stored is ino reach in
      let at = home_of image ckpt tree stored is ino row.0 row.1 in
      let same : inode_block image ckpt tree stored ino row.0 at ≡ block = same_some _ block (sym (node_is image ckpt tree stored ino row.0 at) ∙ there) in
      by_part row.0 at same bad
    where
      by_part : (row : Row) (at : IsHome image ckpt tree stored ino row) → inode_block image ckpt tree stored ino row at ≡ block → IsForeign block → ⊥
      by_part row at same (inl none) = none-some row.kind (sym none ∙ ap inode_kind (sym same) ∙ at.inode.kind)
      by_part row at same (inr (inl long)) =
          let few = at.inode.name_length in
          let length_is = ap (λ bytes. (inode_of bytes).name_length) same in
          omega (arith, few, length_is, long)
      by_part row at same (inr (inr large)) =
          let small = at.inode.size in
          let size_is = ap (λ bytes. (inode_of bytes).size) same in
          smaller (inode_of block).size SIZE_LIMIT (subst (λ n. n ≤ SIZE_LIMIT) size_is small) large
        where
          smaller : (size limit : ℕ) → size ≤ limit → limit < size → ⊥
          smaller size limit low high = omega arith

  pub right_inode : (at : ℕ) → IsBadInode image ckpt at → ⊥
  right_inode at (faults.in_base read ino block reach there address odd) = not_odd ino block reach there odd
  right_inode at (faults.in_log place block marked address odd) = none_marked image ckpt tree stored is place block marked

  -- the blocks of directories
  pub right_dentries : (at : ℕ) → HasDentryFault image ckpt at → ⊥
  right_dentries at bad =
      let row = in_tree image ckpt tree stored is bad.directory bad.reached in
      let here = home_of image ckpt tree stored is bad.directory row.0 row.1 in
      let kind = sym (inode_is image ckpt tree stored bad.directory row.0 here Directory bad.block.inode bad.block.is).1 in
      let held = listing image ckpt tree stored is bad.directory row.0 row.1 kind in
      let right = geometry image ckpt tree stored is in
      let stands = block_held image ckpt tree stored is.can right bad.directory row.0 row.1 here held bad.page at bad.block in
      let none = each_of (λ block. dentry_fault block ≡ None) (packed_blocks held.dentries) (no_fault ckpt.geom right tree is.can row.0.ino held.dentries held.are) (block_at image at) (in_list (packed_blocks held.dentries) bad.page (block_at image at) stands) in
      none-some bad.slot (sym none ∙ bad.fault)

  -- addresses
  pub right_zones : (at : ℕ) → IsOutOfZone image ckpt at → ⊥
  right_zones at (faults.page read ino page is_page outside) =
      let base_page = of_base image ckpt tree stored is ino page at is_page in
      let own = own_page image ckpt tree stored is ino page at base_page in
      let inside = is.laid.placed.pages ino page own.at.place own.at.there (λ none. base_page.there (sym own.stands ∙ none)) in
      true≢false (sym inside ∙ ap (is_in_data ckpt.geom) own.stands ∙ outside)
  right_zones at (faults.next place within next some outside) = none_within image ckpt tree stored is place within

  -- no two have one address
  pages_apart : (at ino page other more : ℕ) → IsPage image ckpt ino page at → IsPage image ckpt other more at → (ino ≢ other) ⊎ (page ≢ more) → ⊥
  pages_apart at ino page other more is_page is_more bad =
      let one = of_base image ckpt tree stored is ino page at is_page in
      let two = of_base image ckpt tree stored is other more at is_more in
      let a = own_page image ckpt tree stored is ino page at one in
      let b = own_page image ckpt tree stored is other more at two in
      let same = is.laid.placed.pages_apart ino page other more a.at.place b.at.place a.at.there b.at.there (λ none. one.there (sym a.stands ∙ none)) (a.stands ∙ sym b.stands) in
      neither same.0 same.1 bad

  nodes_apart : (at ino offset nid other more own : ℕ) → IsNode image ckpt ino offset nid → IsNode image ckpt other more own → (ino ≢ other) ⊎ (offset ≢ more) → node_address image ckpt nid ≡ at → node_address image ckpt own ≡ at → ⊥
  nodes_apart at ino offset nid other more own is_node is_more bad here there =
      let a = own_node image ckpt tree stored is ino offset nid is_node in
      let b = own_node image ckpt tree stored is other more own is_more in
      let at_a = sym a.at.address ∙ ap (node_address image ckpt) (sym a.own) ∙ here in
      let at_b = sym b.at.address ∙ ap (node_address image ckpt) (sym b.own) ∙ there in
      neither (is.laid.placed.nodes_apart ino other a.at.place b.at.place a.at.there b.at.there (at_a ∙ sym at_b)) (a.first ∙ sym b.first) bad

  pub not_shared : (at : ℕ) → IsShared image ckpt at → ⊥
  not_shared at (faults.pages ino page other more is_page is_more bad) = pages_apart at ino page other more is_page is_more bad
  not_shared at (faults.nodes ino offset nid other more own is_node is_more bad some here there) = nodes_apart at ino offset nid other more own is_node is_more bad here there
  not_shared at (faults.logged ino offset nid place is_node here within there) = none_within image ckpt tree stored is place within

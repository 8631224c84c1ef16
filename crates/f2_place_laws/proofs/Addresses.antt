-- The inodes, the dentry blocks and the addresses of a tree at its places are right.
use Rattle.std.proofs.Common.{◌≡◌, ◌≢◌, ◌⊎◌, ℕ, List, sym, ap, ◌∙◌, subst, true≢false}
use Rattle.std.specs.Prelude.{Some}
use Rattle.std.proofs.lemmas.Option.{none-some}
use Rattle.f2_format.specs.Dentry.{dentry_fault}
use Rattle.f2_model.specs.Tree.{Rows}
use Rattle.f2_image.specs.Reached.{IsNode, IsPage}
use Rattle.f2_image.specs.Faults as faults
use Rattle.f2_image.specs.Faults.{IsForeign, IsBadInode, HasDentryFault, IsOutOfZone, IsShared}
use Rattle.f2_image.specs.Images.{Image, block_at}
use Rattle.f2_image.specs.Packs.{Checkpoint}
use Rattle.f2_image.specs.Nodes.{node, node_address}
use Rattle.f2_image.specs.Bases.{IsReached}
use Rattle.f2_image.proofs.OneBase.{same_some}
use Rattle.f2_stored.specs.Places.{Places}
use Rattle.f2_place_laws.proofs.Refuted.{neither}
use Rattle.f2_place_laws.proofs.Stood.{IsStood, node_is_there, in_data_some, address_some}
use Rattle.f2_place_laws.proofs.Homes.{inode_block, node_is, dentries_there, block_found}
use Rattle.f2_place_laws.proofs.Base.{home_of, in_tree}
use Rattle.f2_place_laws.proofs.NoLog.{none_within, none_marked, of_base}
use Rattle.f2_place_laws.proofs.Nodes.{placed, page_placed}
use Rattle.f2_place_laws.proofs.Table.{at_place}

module _ (image : Image) (ckpt : Checkpoint) (tree : Rows) (places : Places) (is : IsStood image ckpt tree places) where
  -- the inodes
  not_odd : (ino : ℕ) (block : List ℕ) → IsReached image ckpt ino → node image ckpt ino ≡ Some block → IsForeign block → ⊥
  not_odd ino block reach there bad =
      let row = in_tree image ckpt tree places is ino reach in
      let at = home_of image ckpt tree places is ino row.0 row.1 in
      let same : block ≡ inode_block image ckpt tree places is ino row.0 at = same_some block _ (sym there ∙ node_is image ckpt tree places is ino row.0 at) in
      at.inode.own (subst IsForeign same bad)

  pub right_inode : (at : ℕ) → IsBadInode image ckpt at → ⊥
  right_inode at (faults.in_base read ino block reach there address odd) = not_odd ino block reach there odd
  right_inode at (faults.in_log place block marked address odd) = none_marked image ckpt is.none place block marked

  -- the blocks of directories
  pub right_dentries : (at : ℕ) → HasDentryFault image ckpt at → ⊥
  right_dentries at bad =
      let row = in_tree image ckpt tree places is bad.directory bad.reached in
      let here = home_of image ckpt tree places is bad.directory row.0 row.1 in
      let found = block_found image ckpt tree places is bad.directory row.0 here bad.page at bad.block in
      let right = (dentries_there image ckpt tree places is bad.directory row.0 here found.1 bad.page (λ none. bad.block.there (sym found.0 ∙ none))).0 in
      none-some bad.slot (sym right ∙ ap (λ n. dentry_fault (block_at image n)) found.0 ∙ bad.fault)

  -- addresses
  pub right_zones : (at : ℕ) → IsOutOfZone image ckpt at → ⊥
  right_zones at (faults.page read ino page is_page outside) =
      let told = page_placed image ckpt tree places is ino page at (of_base image ckpt is.none ino page at is_page) in
      true≢false (sym (is.stands.pages ino page at told).in_zone ∙ outside)
  right_zones at (faults.next place within next some outside) = none_within image ckpt is.none place within

  -- no two have one address
  pages_apart : (at ino page other more : ℕ) → IsPage image ckpt ino page at → IsPage image ckpt other more at → (ino ≢ other) ⊎ (page ≢ more) → ⊥
  pages_apart at ino page other more is_page is_more bad =
      let one = page_placed image ckpt tree places is ino page at (of_base image ckpt is.none ino page at is_page) in
      let two = page_placed image ckpt tree places is other more at (of_base image ckpt is.none other more at is_more) in
      let same = is.stands.laid.pages_apart (ino, page) (other, more) at one two (in_data_some ckpt.geom at (is.stands.pages ino page at one).in_zone) in
      neither (ap (λ (pair : ℕ × ℕ). pair.0) same) (ap (λ (pair : ℕ × ℕ). pair.1) same) bad

  nodes_apart : (at ino offset nid other more own : ℕ) → IsNode image ckpt ino offset nid → IsNode image ckpt other more own → (ino ≢ other) ⊎ (offset ≢ more) → node_address image ckpt nid ≡ at → node_address image ckpt own ≡ at → ⊥
  nodes_apart at ino offset nid other more own is_node is_more bad here there =
      let a = placed image ckpt tree places is ino offset nid is_node in
      let b = placed image ckpt tree places is other more own is_more in
      let is_at : a.0.at ≡ b.0.at = sym (at_place image ckpt tree places is ino offset nid a) ∙ here ∙ sym there ∙ at_place image ckpt tree places is other more own b in
      let some = address_some image ckpt tree places ino offset a.0 (node_is_there image ckpt tree places is ino offset a.0 a.1) in
      let same = is.stands.laid.nodes_apart (ino, offset) (other, more) a.0 b.0 a.1 b.1 some is_at in
      neither (ap (λ (pair : ℕ × ℕ). pair.0) same) (ap (λ (pair : ℕ × ℕ). pair.1) same) bad

  pub not_shared : (at : ℕ) → IsShared image ckpt at → ⊥
  not_shared at (faults.pages ino page other more is_page is_more bad) = pages_apart at ino page other more is_page is_more bad
  not_shared at (faults.nodes ino offset nid other more own is_node is_more bad some here there) = nodes_apart at ino offset nid other more own is_node is_more bad here there
  not_shared at (faults.logged ino offset nid place is_node here within there) = none_within image ckpt is.none place within

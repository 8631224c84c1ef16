-- The nodes and the pages of a tree that is laid out.
use Rattle.std.proofs.Common.{◌≡◌, ℕ, ◌<◌, List, slice_index_or, refl, sym, ap, ◌∙◌, subst}
use Rattle.std.specs.Prelude.{Some}
use Rattle.std.specs.FinMap as map
use Rattle.f2_format.specs.Inode.{inode_of, NIDS_AN_INODE}
use Rattle.f2_model.specs.Tree.{Rows}
use Rattle.f2_model.specs.declared.rows.Row.{Row}
use Rattle.f2_model.specs.declared.rows.Kind.{Kind}
use Rattle.f2_image.specs.Images.{Image}
use Rattle.f2_image.specs.Packs.{Checkpoint}
use Rattle.f2_image.specs.Nodes.{node}
use Rattle.f2_image.specs.Bases.{IsReached}
use Rattle.f2_image.specs.Reached.{nids_of_node, nid_in, IsNode, inode, named, IsBasePage}
use Rattle.f2_image.proofs.OneBase.{same_some}
use Rattle.f2_laid.specs.Laid.{page_at}
use Rattle.f2_laid.specs.declared.stored.Stored.{Stored}
use Rattle.f2_laid_laws.proofs.Homes.{IsHome, inode_block, node_is, inode_is, page_found}
use Rattle.f2_laid_laws.proofs.Base.{IsStored, in_tree, home_of}

-- a node that is an inode of a row
pub record IsOwn (image : Image) (ckpt : Checkpoint) (tree : Rows) (stored : Stored) (ino offset nid : ℕ) : Type 0 where
  pub first : offset ≡ 0
  pub own : nid ≡ ino
  pub row : Row
  pub there : map.get tree ino ≡ Some row
  pub at : IsHome image ckpt tree stored ino row

-- a page of a row, and the row
pub record IsOwnPage (image : Image) (ckpt : Checkpoint) (tree : Rows) (stored : Stored) (ino page address : ℕ) (kind : Kind) : Type 0 where
  pub row : Row
  pub there : map.get tree ino ≡ Some row
  pub at : IsHome image ckpt tree stored ino row
  pub is_kind : kind ≡ row.kind
  pub stands : page_at at.place page ≡ address

module _ (image : Image) (ckpt : Checkpoint) (tree : Rows) (stored : Stored) (is : IsStored image ckpt tree stored) where
  own_inode : (ino : ℕ) → IsReached image ckpt ino → IsOwn image ckpt tree stored ino 0 ino
  own_inode ino reach =
      let row = in_tree image ckpt tree stored is ino reach in
      record { first = refl; own = refl; row = row.0; there = row.1; at = home_of image ckpt tree stored is ino row.0 row.1 }

  -- an inode names no node
  names_none : (ino offset nid slot : ℕ) (block : List ℕ) → IsOwn image ckpt tree stored ino offset nid → node image ckpt nid ≡ Some block → slot < nids_of_node offset → nid_in block offset slot ≡ 0
  names_none ino offset nid slot block own there small =
      let at = own.at in
      let same : block ≡ inode_block image ckpt tree stored ino own.row at = same_some block _ (sym there ∙ ap (node image ckpt) own.own ∙ node_is image ckpt tree stored ino own.row at) in
      let within : slot < NIDS_AN_INODE = subst (λ o. slot < nids_of_node o) own.first small in
      ap (λ o. nid_in block o slot) own.first ∙ ap (λ bytes. slice_index_or (inode_of bytes).nids slot 0) same ∙ at.inode.no_nids slot within

  -- so each node is the inode of a row
  pub own_node : (ino offset nid : ℕ) → IsNode image ckpt ino offset nid → IsOwn image ckpt tree stored ino offset nid
  own_node _ _ _ (inode ino reach) = own_inode ino reach
  own_node _ _ _ (named ino offset nid slot lower block is_node there small under some) =
      absurd (some (names_none ino offset nid slot block (own_node ino offset nid is_node) there small))

  pub own_page : (ino page address : ℕ) (page_is : IsBasePage image ckpt ino page address) → IsOwnPage image ckpt tree stored ino page address page_is.kind
  own_page ino page address page_is =
      let row = in_tree image ckpt tree stored is ino page_is.reached in
      let at = home_of image ckpt tree stored is ino row.0 row.1 in
      record {
        row = row.0;
        there = row.1;
        at = at;
        is_kind = (inode_is image ckpt tree stored ino row.0 at page_is.kind page_is.inode page_is.is).1;
        stands = sym (page_found image ckpt tree stored ino row.0 at page_is.kind page_is.inode page page_is.is page_is.within) ∙ page_is.address;
      }

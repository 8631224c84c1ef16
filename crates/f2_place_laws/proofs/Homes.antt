-- The rows of a tree that stands at its places: their inodes, their pages and their dentries.
use Rattle.std.proofs.Common.{◌≡◌, ◌≢◌, ℕ, ◌<◌, true, List, is_some, IsSome, refl, sym, ap, ◌∙◌, subst}
use Rattle.std.specs.Prelude.{Option, Some, None}
use Rattle.std.specs.Option.{unwrap_or}
use Rattle.std.specs.FinMap as map
use Rattle.std.specs.List.{slice_get}
use Rattle.f2_format.specs.Offsets.{page_limit}
use Rattle.f2_format.specs.Dentry.{Dentry, dentry_at, begins_name}
use Rattle.f2_model.specs.Tree.{Rows}
use Rattle.f2_model.specs.declared.rows.Row.{Row}
use Rattle.f2_model.specs.declared.rows.Kind.{Kind}
use Rattle.f2_model.specs.declared.rows.Kind.TheVariants.{Regular, Directory}
use Rattle.f2_image.specs.Images.{Image, block_at}
use Rattle.f2_image.specs.Packs.{Checkpoint}
use Rattle.f2_image.specs.Nodes.{node, page_address}
use Rattle.f2_image.specs.Bases.{IsInode, IsDirectoryBlock, HasDentryAt, inode_kind}
use Rattle.f2_image.proofs.OneBase.{same_some}
use Rattle.f2_stored.specs.Places.{NodeAt, Places, page_at, dentries_at, IsInodeOf, IsPageBlock, HasNames, IsDentryAt}
use Rattle.f2_place_laws.proofs.PageKinds.{DirectoryPage, regular_page, directory_page}
use Rattle.f2_place_laws.proofs.Options.{the_one}
use Rattle.f2_place_laws.proofs.Stood.{IsStood, IsNodeThere, node_is_there, in_data_some, block_is}
use Rattle.f2_place_laws.proofs.PageWays.{way_ends}
use Rattle.f2_place_laws.proofs.Slots.{begun, slot_of, place_of, dentry_of}

-- a row of a tree, and where its inode stands
pub record IsHome (image : Image) (ckpt : Checkpoint) (tree : Rows) (places : Places) (ino : ℕ) (row : Row) : Type 0 where
  pub own : row.ino ≡ ino
  pub at : NodeAt
  pub there : map.get places.nodes (ino, 0) ≡ Some at
  pub stands : IsNodeThere image ckpt tree places ino 0 at
  pub inode : IsInodeOf places row (block_at image at.at)
  pub of_tree : map.get tree ino ≡ Some row

-- an address of a page other than 0 is told
pub page_told : (places : Places) (ino page at : ℕ) → page_at places ino page ≡ at → at ≢ 0 → map.get places.pages (ino, page) ≡ Some at
page_told places ino page at is some = by_page (map.get places.pages (ino, page)) refl
  where
    by_page : (o : Option ℕ) → map.get places.pages (ino, page) ≡ o → map.get places.pages (ino, page) ≡ Some at
    by_page None e = absurd (some (sym is ∙ ap (λ o. unwrap_or o 0) e))
    by_page (Some other) e = e ∙ ap Some (sym (ap (λ o. unwrap_or o 0) e) ∙ is)

module _ (image : Image) (ckpt : Checkpoint) (tree : Rows) (places : Places) (is : IsStood image ckpt tree places) where
  pub home : (ino : ℕ) (row : Row) → map.get tree ino ≡ Some row → IsHome image ckpt tree places ino row
  home ino row there =
      let found = the_one (map.get places.nodes (ino, 0)) (is.stands.laid.inodes ino row there) in
      let stands = node_is_there image ckpt tree places is ino 0 found.0 found.1 in
      record { own = is.proper.good.keyed ino row there; at = found.0; there = found.1; stands = stands; inode = stands.here.inode refl row there; of_tree = there }

  -- a page that is told has an address
  pub page_some : (ino page : ℕ) → IsSome (map.get places.pages (ino, page)) → page_at places ino page ≢ 0
  page_some ino page told zero =
      let found = the_one (map.get places.pages (ino, page)) told in
      in_data_some ckpt.geom found.0 (is.stands.pages ino page found.0 found.1).in_zone (sym (ap (λ o. unwrap_or o 0) found.1) ∙ zero)

  module _ (ino : ℕ) (row : Row) (at : IsHome image ckpt tree places ino row) where
    -- its inode
    abbrev pub inode_block : List ℕ
    inode_block = block_at image at.at.at

    pub node_is : node image ckpt ino ≡ Some inode_block
    node_is = ap (node image ckpt) (sym (at.stands.placed.inode refl)) ∙ block_is image ckpt tree places ino 0 at.at at.stands

    pub is_inode : IsInode image ckpt ino row.kind inode_block
    is_inode = record { there = node_is; is_kind = at.inode.kind }

    pub inode_is : (kind : Kind) (inode : List ℕ) → IsInode image ckpt ino kind inode → (inode ≡ inode_block) × (kind ≡ row.kind)
    inode_is kind inode is_node =
        let same : inode ≡ inode_block = same_some inode inode_block (sym is_node.there ∙ node_is) in
        (same, same_some kind row.kind (sym is_node.is_kind ∙ ap inode_kind same ∙ at.inode.kind))

    -- the addresses of its pages
    pub page_is : (page : ℕ) → page < page_limit → page_address image ckpt inode_block page ≡ page_at places ino page
    page_is page within =
        way_ends image ckpt tree places is ino at.at at.there (λ low small. at.inode.addresses low small ∙ ap (λ n. page_at places n low) at.own) page within

    pub page_found : (kind : Kind) (inode : List ℕ) (page : ℕ) → IsInode image ckpt ino kind inode → page < page_limit → page_address image ckpt inode page ≡ page_at places ino page
    page_found kind inode page is_node within = ap (λ block. page_address image ckpt block page) (inode_is kind inode is_node).0 ∙ page_is page within

    -- the names of a directory
    pub names_of : row.kind ≡ Directory → HasNames tree places ino
    names_of kind = is.stands.laid.names ino row at.of_tree kind

    -- the block at a page is the row's own
    own_page : (page : ℕ) → page_at places ino page ≢ 0 → IsPageBlock places row page (block_at image (page_at places ino page))
    own_page page some = (is.stands.pages ino page (page_at places ino page) (page_told places ino page (page_at places ino page) refl some)).own row at.of_tree

    pub bytes_of : row.kind ≡ Regular → (page : ℕ) → page_at places ino page ≢ 0 → map.get row.pages page ≡ Some (block_at image (page_at places ino page))
    bytes_of kind page some = regular_page places row page (block_at image (page_at places ino page)) kind (own_page page some)

    pub dentries_there : row.kind ≡ Directory → (page : ℕ) → page_at places ino page ≢ 0 → DirectoryPage places ino page (block_at image (page_at places ino page))
    dentries_there kind page some =
        subst (λ n. DirectoryPage places n page (block_at image (page_at places ino page))) at.own (directory_page places row page (block_at image (page_at places ino page)) kind (own_page page some))

    -- a block of a directory
    pub block_found : (page address : ℕ) → IsDirectoryBlock image ckpt ino page address → (page_at places ino page ≡ address) × (row.kind ≡ Directory)
    block_found page address block =
        (sym (page_found Directory block.inode page block.is block.within) ∙ block.at_page, sym (inode_is Directory block.inode block.is).1)

    pub is_block : row.kind ≡ Directory → (page : ℕ) → page_at places ino page ≢ 0 → IsDirectoryBlock image ckpt ino page (page_at places ino page)
    is_block kind page some =
        let told = page_told places ino page (page_at places ino page) refl some in
        let within = (is.stands.laid.pages ino page (page_at places ino page) told).within in
        record {
          inode = inode_block;
          is = subst (λ k. IsInode image ckpt ino k inode_block) kind is_inode;
          within = within;
          at_page = page_is page within;
          there = some;
        }

    -- a dentry of the image stands at a place, and one at a place is one of the image
    pub record IsSeen (page slot : ℕ) (dentry : Dentry) : Type 0 where
      pub place : ℕ
      pub at_place : slice_get (begun (block_at image (page_at places ino page))) place ≡ Some slot
      pub is_at : IsDentryAt places ino page place dentry

    pub seen : (page slot : ℕ) (dentry : Dentry) → HasDentryAt image ckpt ino page slot dentry → IsSeen page slot dentry
    seen page slot dentry has =
        let found = block_found page has.at has.block in
        let block = block_at image (page_at places ino page) in
        let same : block ≡ block_at image has.at = ap (block_at image) found.0 in
        let some : page_at places ino page ≢ 0 = λ z. has.block.there (sym found.0 ∙ z) in
        let begins : begins_name block slot ≡ true = ap (λ b. begins_name b slot) same ∙ has.begins in
        let place = place_of block slot has.within begins in
        let told = dentry_of block slot place.0 place.1 in
        let listed : slice_get (dentries_at places ino page) place.0 ≡ Some dentry =
        ap (λ xs. slice_get xs place.0) (sym (dentries_there found.1 page some).1) ∙ told ∙ ap (λ b. Some (dentry_at b slot)) same ∙ ap Some has.is
        in
        record { place = place.0; at_place = place.1; is_at = record { page_there = ap is_some (page_told places ino page (page_at places ino page) refl some); is = listed } }

    pub shown : row.kind ≡ Directory → (page place : ℕ) (dentry : Dentry) → IsDentryAt places ino page place dentry → (slot : ℕ) × HasDentryAt image ckpt ino page slot dentry
    shown kind page place dentry stands =
        let block = block_at image (page_at places ino page) in
        let some = page_some ino page stands.page_there in
        let found = slot_of block place dentry (ap (λ xs. slice_get xs place) (dentries_there kind page some).1 ∙ stands.is) in
        (found.slot, record { at = page_at places ino page; block = is_block kind page some; within = found.within; begins = found.begins; is = found.is })

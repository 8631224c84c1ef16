-- Where the rows of a tree that is laid out stand: their inodes and their pages.
use Rattle.std.proofs.Common.{◌≡◌, ◌≢◌, ◌⊎◌, inl, inr, ℕ, ◌<◌, ◌≤◌, ◌==◌, nat_lt, nat_le, not, ◌||◌, Bool, true, false, cond, List, [], ◌∷◌, length, slice_index_or, refl, sym, ap, ◌∙◌, arith}
use Rattle.std.specs.Prelude.{Some, None}
use Rattle.std.specs.FinMap as map
use Rattle.std.proofs.lemmas.Bool.{and_parts, not-true, ltb-false, lt-leb, ne_eqb, cases_eq, cases_lt}
use Rattle.std.proofs.lemmas.List.{get_or_past}
use Rattle.f2_format.specs.Offsets.{inode_pages, page_limit, direct_slot, slots_of_page}
use Rattle.f2_format.specs.Geometry.{ImageGeometry, nid_limit, node_start, is_in_node}
use Rattle.f2_format.specs.Inode.{inode_of, NIDS_AN_INODE}
use Rattle.f2_model.specs.Tree.{Rows}
use Rattle.f2_model.specs.declared.rows.Row.{Row}
use Rattle.f2_model.specs.declared.rows.Kind.{Kind}
use Rattle.f2_image.specs.Images.{Image, block_at}
use Rattle.f2_image.specs.Packs.{Checkpoint}
use Rattle.f2_image.specs.Nodes.{node_address, block_there, node, node_along, node_below, direct_node, word_of, page_address}
use Rattle.f2_image.specs.Bases.{IsInode, inode_kind}
use Rattle.f2_image.proofs.OneBase.{same_some}
use Rattle.f2_image.proofs.Routes.{IsRoute, before_last, page_route}
use Rattle.f2_laid.specs.Laid.{at_of, page_at, page_in, IsStorable, IsLaidAt, IsInodeOf, HoldsContent}
use Rattle.f2_laid.specs.declared.places.Place.{Place}
use Rattle.f2_laid.specs.declared.stored.Stored.{Stored}

-- an address in the node zone is one
pub in_node_some : (geom : ImageGeometry) (at : ℕ) → is_in_node geom at ≡ true → at ≢ 0
in_node_some geom at inside none =
    let past : node_start geom ≤ at = ltb-false at (node_start geom) (not-true (nat_lt at (node_start geom)) (and_parts (not (nat_lt at (node_start geom))) _ inside).0) in
    omega (arith, past, none)

-- the block at an address
pub block_is_there : (image : Image) (at : ℕ) → at ≢ 0 → block_there image at ≡ Some (block_at image at)
block_is_there image at some = ap (λ b. cond b None (Some (block_at image at))) (ne_eqb at 0 some)

-- an address at which there is a block
pub there_some : (image : Image) (at : ℕ) (block : List ℕ) → block_there image at ≡ Some block → (at ≢ 0) × (block_at image at ≡ block)
there_some image at block is = by_zero (cases_eq at 0)
  where
    by_zero : (at ≡ 0) ⊎ (at ≡ 0 → ⊥) → (at ≢ 0) × (block_at image at ≡ block)
    by_zero (inl none) = let nothing : None ≡ Some block = sym (ap (block_there image) none) ∙ is in absurd (cc)
    by_zero (inr some) = (some, same_some (block_at image at) block (sym (block_is_there image at some) ∙ is))

-- a nid of the table has the address that the table says
address_of : (nid limit at : ℕ) → nid ≢ 0 → nid < limit → cond ((nid == 0) || nat_le limit nid) 0 at ≡ at
address_of nid limit at some within =
    ap (λ b. cond (b || nat_le limit nid) 0 at) (ne_eqb nid 0 some) ∙ ap (λ b. cond b 0 at) (lt-leb limit nid within)

module _ (image : Image) (ckpt : Checkpoint) where
  -- the nid 0 is no node's
  no_node : (nid : ℕ) → nid ≡ 0 → node image ckpt nid ≡ None
  no_node nid zero = ap (node image ckpt) zero

  along_none : (slots : List ℕ) → node_along image ckpt None slots ≡ None
  along_none [] = refl
  along_none (slot ∷ slots) = refl

  below_none : (inode : List ℕ) → ((slot : ℕ) → slot < NIDS_AN_INODE → slice_index_or (inode_of inode).nids slot 0 ≡ 0) → (slots : List ℕ) → IsRoute 0 slots → node_below image ckpt inode slots ≡ None
  below_none inode none [] route = refl
  below_none inode none (slot ∷ slots) route =
      ap (λ from. node_along image ckpt from slots) (no_node (slice_index_or (inode_of inode).nids slot 0) (none slot route.0)) ∙ along_none slots

  -- an inode with no nids has no node below it
  direct_none : (inode : List ℕ) → ((slot : ℕ) → slot < NIDS_AN_INODE → slice_index_or (inode_of inode).nids slot 0 ≡ 0) → (page : ℕ) → page < page_limit → direct_node image ckpt inode page ≡ None
  unfolding direct_node
  direct_none inode none page within = below_none inode none (before_last (slots_of_page page)) (page_route page within)

-- a row of a tree, and where it stands
pub record IsHome (image : Image) (ckpt : Checkpoint) (tree : Rows) (stored : Stored) (ino : ℕ) (row : Row) : Type 0 where
  pub place : Place
  pub own : row.ino ≡ ino
  pub there : map.get stored.places ino ≡ Some place
  pub inside : is_in_node ckpt.geom place.at ≡ true
  pub address : node_address image ckpt ino ≡ place.at
  pub long : length place.addresses ≡ inode_pages
  pub inode : IsInodeOf row place (block_at image place.at)
  pub content : HoldsContent tree row (page_in image place)

module _ (image : Image) (ckpt : Checkpoint) (tree : Rows) (stored : Stored) (can : IsStorable ckpt.geom tree) (laid : IsLaidAt image ckpt tree stored) where
  ino_some : (ino : ℕ) (row : Row) → map.get tree ino ≡ Some row → ino ≢ 0
  ino_some ino row there zero =
      let high = can.low ino row there (λ root. omega arith) in
      omega (arith, high, zero)

  pub home : (ino : ℕ) (row : Row) → map.get tree ino ≡ Some row → IsHome image ckpt tree stored ino row
  home ino row there =
      let stands = laid.rows ino row there in
      let own = can.good.keyed ino row there in
      let at : map.get stored.places ino ≡ Some stands.place = ap (map.get stored.places) (sym own) ∙ stands.there in
      let within = can.numbered ino row there in
      record {
        place = stands.place;
        own = own;
        there = at;
        inside = laid.placed.nodes ino stands.place at;
        address = address_of ino (nid_limit ckpt.geom) _ (ino_some ino row there) within ∙ laid.table ino within ∙ ap at_of at;
        long = laid.placed.whole ino stands.place at;
        inode = stands.inode;
        content = stands.content;
      }

module _ (image : Image) (ckpt : Checkpoint) (tree : Rows) (stored : Stored) (ino : ℕ) (row : Row) (at : IsHome image ckpt tree stored ino row) where
  -- its inode
  abbrev pub inode_block : List ℕ
  inode_block = block_at image at.place.at

  pub node_is : node image ckpt ino ≡ Some inode_block
  node_is = ap (block_there image) at.address ∙ block_is_there image at.place.at (in_node_some ckpt.geom at.place.at at.inside)

  pub is_inode : IsInode image ckpt ino row.kind inode_block
  is_inode = record { there = node_is; is_kind = at.inode.kind }

  pub inode_is : (kind : Kind) (inode : List ℕ) → IsInode image ckpt ino kind inode → (inode ≡ inode_block) × (kind ≡ row.kind)
  inode_is kind inode is =
      let same : inode ≡ inode_block = same_some inode inode_block (sym is.there ∙ node_is) in
      (same, same_some kind row.kind (sym is.is_kind ∙ ap inode_kind same ∙ at.inode.kind))

  -- the addresses of its pages
  page_is : (page : ℕ) → page < page_limit → page_address image ckpt inode_block page ≡ page_at at.place page
  page_is page within = by_test (nat_lt page inode_pages) refl
    where
      by_test : (b : Bool) → nat_lt page inode_pages ≡ b → cond b (slice_index_or (inode_of inode_block).addresses page 0) (word_of (direct_node image ckpt inode_block page) (direct_slot page)) ≡ page_at at.place page
      by_test true e = ap (λ addresses. slice_index_or addresses page 0) at.inode.addresses
      by_test false e =
          let long = at.long in
          let past : length at.place.addresses ≤ page = omega (arith, ltb-false page inode_pages e) in
          ap (λ block. word_of block (direct_slot page)) (direct_none image ckpt inode_block at.inode.no_nids page within) ∙ sym (get_or_past at.place.addresses page 0 past)

  pub page_found : (kind : Kind) (inode : List ℕ) (page : ℕ) → IsInode image ckpt ino kind inode → page < page_limit → page_address image ckpt inode page ≡ page_at at.place page
  page_found kind inode page is within = ap (λ block. page_address image ckpt block page) (inode_is kind inode is).0 ∙ page_is page within

  -- a page that the inode has no address for isn't there
  pub page_past : (page : ℕ) → inode_pages ≤ page → page_at at.place page ≡ 0
  page_past page past = let long = at.long in get_or_past at.place.addresses page 0 (omega arith)

  -- and one that is there is among those of the inode
  pub page_short : (page : ℕ) → page_at at.place page ≢ 0 → page < inode_pages
  page_short page some = by_place (cases_lt page inode_pages)
    where
      by_place : (page < inode_pages) ⊎ (inode_pages ≤ page) → page < inode_pages
      by_place (inl below) = below
      by_place (inr past) = absurd (some (page_past page past))

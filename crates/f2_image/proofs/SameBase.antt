-- A base depends on the blocks alone that it is read from.
use Rattle.std.proofs.Common.{◌≡◌, ◌≢◌, ℕ, ◌<◌, ◌==◌, ◌||◌, nat_le, Bool, true, false, cond, IsTrue, List, [], ◌∷◌, slice_index_or, refl, sym, ap, ◌∙◌, subst, arith}
use Rattle.std.specs.Prelude.{Option, Some, None}
use Rattle.std.specs.Option.{unwrap_or}
use Rattle.std.proofs.lemmas.Option.{none-some}
use Rattle.f2_format.specs.Offsets.{page_limit, slots_of_page}
use Rattle.f2_format.specs.Geometry.{nat_address, nid_limit}
use Rattle.f2_format.specs.Nat.{nat_entry, nat_block_of, nat_place_of, is_second_copy}
use Rattle.f2_format.specs.Journal.{journal_find}
use Rattle.f2_format.specs.Inode.{inode_of, node_word}
use Rattle.f2_format.specs.Dentry.{Dentry, dentry_at, begins_name}
use Rattle.f2_model.specs.Tree.{Rows}
use Rattle.f2_model.specs.declared.rows.Row.{Row}
use Rattle.f2_model.specs.declared.rows.Kind.{Kind}
use Rattle.f2_model.specs.declared.rows.Kind.TheVariants.{Regular, Directory}
use Rattle.f2_image.specs.Images.{Image, block_at}
use Rattle.f2_image.specs.Packs.{Checkpoint, journal}
use Rattle.f2_image.specs.Nodes.{place_of_nid, node_address, block_there, node, node_along, node_below, direct_node, address_in, page_address}
use Rattle.f2_image.specs.Bases.{IsInode, IsDirectoryBlock, HasDentry, IsReached, root, below, HasContent, IsBase}
use Rattle.f2_image.specs.Reached as reached
use Rattle.f2_image.specs.Reached.{offset_below, nids_of_node, nid_in, IsNode, IsBasePage}
use Rattle.f2_image.specs.Laws as laws
use Rattle.f2_image.specs.Laws.{IsReadFrom}
use Rattle.f2_image.proofs.Routes.{IsRoute, before_last, page_route}

-- a word at an address that is 0 or isn't
block_there-zero : (a b : Image) (at : ℕ) → at ≡ 0 → block_there a at ≡ block_there b at
block_there-zero a b at e = ap (block_there a) e ∙ ap (block_there b) (sym e)

block_there-same : (a b : Image) (at : ℕ) → block_at b at ≡ block_at a at → block_there b at ≡ block_there a at
block_there-same a b at e = ap (λ block. cond (at == 0) None (Some block)) e

module _ (image other : Image) (ckpt : Checkpoint) (agree : (at : ℕ) → IsReadFrom image ckpt at → block_at other at ≡ block_at image at) where
  -- what the table says of a node of the base
  same_place : (ino offset nid : ℕ) → IsNode image ckpt ino offset nid → place_of_nid other ckpt nid ≡ place_of_nid image ckpt nid
  unfolding place_of_nid
  same_place ino offset nid is =
      ap (λ block. unwrap_or (journal_find (journal ckpt) nid) (nat_entry block (nat_place_of nid))) (agree (nat_address ckpt.geom (nat_block_of nid) (is_second_copy ckpt.head.bitmap (nat_block_of nid))) (laws.table ino offset nid is refl))

  same_address : (ino offset nid : ℕ) → IsNode image ckpt ino offset nid → node_address other ckpt nid ≡ node_address image ckpt nid
  same_address ino offset nid is = ap (λ place. cond ((nid == 0) || nat_le (nid_limit ckpt.geom) nid) 0 place.1) (same_place ino offset nid is)

  same_node : (ino offset nid : ℕ) → IsNode image ckpt ino offset nid → node other ckpt nid ≡ node image ckpt nid
  same_node ino offset nid is =
      ap (block_there other) (same_address ino offset nid is) ∙ block_there-same image other (node_address image ckpt nid) (agree (node_address image ckpt nid) (laws.node ino offset nid is refl))

  -- a nid that is 0 is no node's, of any image
  no_node : (nid : ℕ) → nid ≡ 0 → node other ckpt nid ≡ node image ckpt nid
  no_node nid zero = ap (node other ckpt) zero ∙ sym (ap (node image ckpt) zero)

  -- what a slot of a node names
  same_named : (ino offset nid slot lower : ℕ) (block : List ℕ) → IsNode image ckpt ino offset nid → node image ckpt nid ≡ Some block → slot < nids_of_node offset → offset_below offset slot ≡ Some lower
      → node other ckpt (nid_in block offset slot) ≡ node image ckpt (nid_in block offset slot)
  same_named ino offset nid slot lower block is there small under = by_zero (nid_in block offset slot == 0) refl
    where
      by_zero : (b : Bool) → (nid_in block offset slot == 0) ≡ b → node other ckpt (nid_in block offset slot) ≡ node image ckpt (nid_in block offset slot)
      by_zero true e = no_node (nid_in block offset slot) (zero_of (nid_in block offset slot) e)
        where
          zero_of : (n : ℕ) → (n == 0) ≡ true → n ≡ 0
          zero_of n e = grind (arith, e)
      by_zero false e = same_node ino lower (nid_in block offset slot) (reached.named ino offset nid slot lower block is there small under (other_of (nid_in block offset slot) e))
        where
          other_of : (n : ℕ) → (n == 0) ≡ false → n ≢ 0
          other_of n e z = grind (arith, e, z)

  -- nodes along slots, from a node of the base
  same_along : (slots : List ℕ) (ino offset nid : ℕ) (from : Option (List ℕ)) → node image ckpt nid ≡ from → ((block : List ℕ) → from ≡ Some block → IsNode image ckpt ino offset nid) → (offset == 0) ≡ false → IsRoute offset slots
      → node_along other ckpt from slots ≡ node_along image ckpt from slots
  same_along [] ino offset nid from there is low route = refl
  same_along (slot ∷ slots) ino offset nid None there is low route = refl
  same_along (slot ∷ slots) ino offset nid (Some block) there is low route =
      let word : nid_in block offset slot ≡ node_word block slot = ap (λ b. cond b (slice_index_or (inode_of block).nids slot 0) (node_word block slot)) low in
      let same : node other ckpt (node_word block slot) ≡ node image ckpt (node_word block slot) =
      subst (λ n. node other ckpt n ≡ node image ckpt n) word (same_named ino offset nid slot route.1.0 block (is block refl) there route.0 route.1.1) in
      ap (λ x. node_along other ckpt x slots) same
      ∙ same_along slots ino route.1.0 (node_word block slot) (node image ckpt (node_word block slot)) refl
      (λ lower found. subst (IsNode image ckpt ino route.1.0) word
      (reached.named ino offset nid slot route.1.0 block (is block refl) there route.0 route.1.1 (λ zero. none_found (node_word block slot) lower (sym word ∙ zero) found))) route.1.2 route.1.3
    where
      none_found : (n : ℕ) (lower : List ℕ) → n ≡ 0 → node image ckpt n ≡ Some lower → ⊥
      none_found n lower zero found = none-some lower (sym (ap (node image ckpt) zero) ∙ found)

  -- the direct node of a page
  same_below : (slots : List ℕ) (ino : ℕ) (inode : List ℕ) → IsReached image ckpt ino → node image ckpt ino ≡ Some inode → IsRoute 0 slots → node_below other ckpt inode slots ≡ node_below image ckpt inode slots
  same_below [] ino inode reach there route = refl
  same_below (slot ∷ slots) ino inode reach there route =
      let nid = nid_in inode 0 slot in
      let top = reached.inode ino reach in
      ap (λ x. node_along other ckpt x slots) (same_named ino 0 ino slot route.1.0 inode top there route.0 route.1.1)
      ∙ same_along slots ino route.1.0 nid (node image ckpt nid) refl
      (λ lower found. reached.named ino 0 ino slot route.1.0 inode top there route.0 route.1.1 (λ zero. none-some lower (sym (ap (node image ckpt) zero) ∙ found))) route.1.2 route.1.3

  same_direct : (ino : ℕ) (inode : List ℕ) (page : ℕ) → IsReached image ckpt ino → node image ckpt ino ≡ Some inode → page < page_limit → direct_node other ckpt inode page ≡ direct_node image ckpt inode page
  unfolding direct_node
  same_direct ino inode page reach there within = same_below (before_last (slots_of_page page)) ino inode reach there (page_route page within)

  same_page : (ino : ℕ) (inode : List ℕ) (page : ℕ) → IsReached image ckpt ino → node image ckpt ino ≡ Some inode → page < page_limit → page_address other ckpt inode page ≡ page_address image ckpt inode page
  same_page ino inode page reach there within = ap (λ direct. address_in inode direct page) (same_direct ino inode page reach there within)

  same_inode : (ino : ℕ) → IsReached image ckpt ino → node other ckpt ino ≡ node image ckpt ino
  same_inode ino reach = same_node ino 0 ino (reached.inode ino reach)

  -- the blocks of a directory
  same_block : (directory page at : ℕ) → IsReached image ckpt directory → IsDirectoryBlock image ckpt directory page at → block_at other at ≡ block_at image at
  same_block directory page at reach is = agree at (laws.page directory page (record {
    reached = reach;
    kind = Directory;
    inode = is.inode;
    is = is.is;
    within = is.within;
    address = is.at_page;
    there = is.there;
  }))

  block_there_too : (directory page at : ℕ) → IsReached image ckpt directory → IsDirectoryBlock image ckpt directory page at → IsDirectoryBlock other ckpt directory page at
  block_there_too directory page at reach is = record {
    inode = is.inode;
    is = record { there = same_inode directory reach ∙ is.is.there; is_kind = is.is.is_kind };
    within = is.within;
    at_page = same_page directory is.inode page reach is.is.there is.within ∙ is.at_page;
    there = is.there;
  }

  block_there_before : (directory page at : ℕ) → IsReached image ckpt directory → IsDirectoryBlock other ckpt directory page at → IsDirectoryBlock image ckpt directory page at
  block_there_before directory page at reach is =
      let there = sym (same_inode directory reach) ∙ is.is.there in
      record {
        inode = is.inode;
        is = record { there = there; is_kind = is.is.is_kind };
        within = is.within;
        at_page = sym (same_page directory is.inode page reach there is.within) ∙ is.at_page;
        there = is.there;
      }

  dentry_too : (directory : ℕ) (dentry : Dentry) → IsReached image ckpt directory → HasDentry image ckpt directory dentry → HasDentry other ckpt directory dentry
  dentry_too directory dentry reach (page, slot, has) =
      let same = same_block directory page has.at reach has.block in (
        page,
        slot,
        record {
          at = has.at;
          block = block_there_too directory page has.at reach has.block;
          within = has.within;
          begins = subst (λ b. IsTrue (begins_name b slot)) (sym same) has.begins;
          is = ap (λ b. dentry_at b slot) same ∙ has.is;
        },
      )

  dentry_before : (directory : ℕ) (dentry : Dentry) → IsReached image ckpt directory → HasDentry other ckpt directory dentry → HasDentry image ckpt directory dentry
  dentry_before directory dentry reach (page, slot, has) =
      let block = block_there_before directory page has.at reach has.block in
      let same = same_block directory page has.at reach block in (
        page,
        slot,
        record {
          at = has.at;
          block = block;
          within = has.within;
          begins = subst (λ b. IsTrue (begins_name b slot)) same has.begins;
          is = ap (λ b. dentry_at b slot) (sym same) ∙ has.is;
        },
      )

  reached_too : (ino : ℕ) → IsReached image ckpt ino → IsReached other ckpt ino
  reached_too _ root = root
  reached_too _ (below directory dentry up has) = below directory dentry (reached_too directory up) (dentry_too directory dentry up has)

  reached_before : (ino : ℕ) → IsReached other ckpt ino → IsReached image ckpt ino
  reached_before _ root = root
  reached_before _ (below directory dentry up has) =
      let before = reached_before directory up in
      below directory dentry before (dentry_before directory dentry before has)

  -- the pages of a file
  same_there : (ino : ℕ) (inode : List ℕ) (page : ℕ) → IsReached image ckpt ino → IsInode image ckpt ino Regular inode → page < page_limit
      → block_there image (page_address image ckpt inode page) ≡ block_there other (page_address other ckpt inode page)
  same_there ino inode page reach is within = by_zero (page_address image ckpt inode page == 0) refl ∙ ap (block_there other) (sym (same_page ino inode page reach is.there within))
    where
      by_zero : (b : Bool) → (page_address image ckpt inode page == 0) ≡ b → block_there image (page_address image ckpt inode page) ≡ block_there other (page_address image ckpt inode page)
      by_zero true e = block_there-zero image other (page_address image ckpt inode page) (zero_of (page_address image ckpt inode page) e)
        where
          zero_of : (n : ℕ) → (n == 0) ≡ true → n ≡ 0
          zero_of n e = grind (arith, e)
      by_zero false e = sym (block_there-same image other (page_address image ckpt inode page) (agree (page_address image ckpt inode page) (laws.page ino page (record {
        reached = reach;
        kind = Regular;
        inode = inode;
        is = is;
        within = within;
        address = refl;
        there = other_of (page_address image ckpt inode page) e;
      }))))
        where
          other_of : (n : ℕ) → (n == 0) ≡ false → n ≢ 0
          other_of n e z = grind (arith, e, z)

  content_too : (ino : ℕ) (inode : List ℕ) (kind : Kind) (row : Row) → IsReached image ckpt ino → IsInode image ckpt ino kind inode → HasContent image ckpt inode kind row → HasContent other ckpt inode kind row
  content_too ino inode Regular row reach is content = (content.0, (λ page within. content.1 page within ∙ same_there ino inode page reach is within), content.2)
  content_too ino inode Directory row reach is content = content

  pub base_too : (base : Rows) → IsBase image ckpt base → IsBase other ckpt base
  base_too base is = record {
    rows = λ ino row there. let at = is.rows ino row there in record {
      own = at.own;
      reached = reached_too ino at.reached;
      inode = at.inode;
      is = record { there = same_inode ino at.reached ∙ at.is.there; is_kind = at.is.is_kind };
      content = content_too ino at.inode row.kind row at.reached at.is at.content;
    };
    root = is.root;
    names = λ directory dentry reach has. let before = reached_before directory reach in is.names directory dentry before (dentry_before directory dentry before has);
    named = λ ino row there directory name among. let at = is.named ino row there directory name among in record {
      reached = reached_too directory at.reached;
      dentry = at.dentry;
      has = dentry_too directory at.dentry at.reached at.has;
      own = at.own;
      named = at.named;
    };
  }

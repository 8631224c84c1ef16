-- The places of the base of an image: its nodes and its pages are those of the image.
use Rattle.std.proofs.Common.{◌≡◌, ◌≢◌, inl, inr, ℕ, zero, suc, ◌<◌, ◌≤◌, List, slice_index_or, is_some, refl, sym, ap, ◌∙◌, subst, arith, true≢false}
use Rattle.std.specs.Prelude.{Option, Some, None}
use Rattle.std.specs.Option.{unwrap_or}
use Rattle.std.specs.FinMap as map
use Rattle.std.proofs.lemmas.Bool.{cases_lt}
use Rattle.std.proofs.lemmas.Bool.Decides.{nat_tests}
use native.Mathlib.Decide.{ℕ_discrete}
use Rattle.f2_format.specs.Offsets.{inode_pages, page_limit, direct_of, direct_slot}
use Rattle.f2_format.specs.Inode.{inode_of}
use Rattle.f2_model.specs.Tree.{Rows}
use Rattle.f2_model.specs.declared.rows.Row.{Row}
use Rattle.f2_image.specs.Images.{Image, block_at}
use Rattle.f2_image.specs.Packs.{Checkpoint}
use Rattle.f2_image.specs.Nodes.{node, node_address, direct_node, word_of, page_address}
use Rattle.f2_image.specs.Bases.{IsInode, IsBase}
use Rattle.f2_image.specs.Reached.{nid_in, IsNode, inode, named, IsBasePage}
use Rattle.f2_image.proofs.OneBase.{same_some}
use Rattle.f2_stored.specs.Places.{NodeAt, Places, nid_of, page_at, IsPagePlaced, IsNamedAbove, IsInodeOf}
use Rattle.f2_stored.specs.Trees.{IsTreeAt}
use Rattle.f2_place_laws.proofs.Offsets.{names, names_behind}
use Rattle.f2_place_laws.proofs.Options.{the_one}
use Rattle.f2_place_laws.proofs.PageWays.{in_inode, in_direct}
use Rattle.f2_place_laws.proofs.Routes.{HasNodesThere, StandsFor, nothing, block, direct_found}
use Rattle.f2_place_laws.proofs.Stood.{IsNodeThere, nid_some, address_is, block_is, in_data_some}

-- a page that a direct node has isn't one of the inode's, and within the limit
pub direct_page : (page offset : ℕ) → direct_of page ≡ Some offset → (inode_pages ≤ page) × (page < page_limit)
unfolding direct_of
direct_page page offset is = grind (arith, nat_tests, is)

module _ (image : Image) (ckpt : Checkpoint) (base : Rows) (is_base : IsBase image ckpt base) (old : Places) (stands : IsTreeAt image ckpt base old) where
  pub node_there : (ino offset : ℕ) (n : NodeAt) → map.get old.nodes (ino, offset) ≡ Some n → IsNodeThere image ckpt base old ino offset n
  node_there ino offset n there = record { entry = stands.table.told ino offset n there; placed = stands.laid.nodes ino offset n there; here = stands.nodes ino offset n there }

  -- a node of the places is one of the base, where those before it are
  abbrev AreNodesBelow : ℕ → ℕ → Type 0
  AreNodesBelow most ino = (offset : ℕ) → offset < most → (n : NodeAt) → map.get old.nodes (ino, offset) ≡ Some n → IsNode image ckpt ino offset n.nid

  node_after : (most ino : ℕ) → AreNodesBelow most ino → (offset : ℕ) → offset < suc most → (n : NodeAt) → map.get old.nodes (ino, offset) ≡ Some n → IsNode image ckpt ino offset n.nid
  node_after most ino below offset small n there = by_offset (ℕ_discrete offset 0)
    where
      at_there : IsNodeThere image ckpt base old ino offset n
      at_there = node_there ino offset n there

      by_upper : offset ≢ 0 → (above : IsNamedAbove old ino offset) → (u : NodeAt) × (map.get old.nodes (ino, above.upper) ≡ Some u) → IsNode image ckpt ino offset n.nid
      by_upper other above (u, u_there) =
          let upper_there = node_there ino above.upper u u_there in
          let behind = names_behind above.upper above.slot offset (names above.upper above.slot offset above.small above.names) in
          let is_upper = below above.upper (omega (arith, small, behind)) u u_there in
          let word : nid_in (block_at image u.at) above.upper above.slot ≡ n.nid = upper_there.here.own.lower above.slot offset above.small above.names ∙ ap nid_of there in
          let some : nid_in (block_at image u.at) above.upper above.slot ≢ 0 = λ none. nid_some image ckpt base old ino offset n at_there (sym word ∙ none) in
          subst (IsNode image ckpt ino offset) word
          (named ino above.upper u.nid above.slot offset (block_at image u.at) is_upper (block_is image ckpt base old ino above.upper u upper_there) above.small above.names some)

      by_offset : Dec (offset ≡ 0) → IsNode image ckpt ino offset n.nid
      by_offset (yes first) =
          let row = the_one (map.get base ino) at_there.placed.row in
          let own : IsNode image ckpt ino 0 ino = inode ino (is_base.rows ino row.0 row.1).reached in
          subst (λ o. IsNode image ckpt ino o n.nid) (sym first) (subst (IsNode image ckpt ino 0) (sym (at_there.placed.inode first)) own)
      by_offset (no other) = let above = at_there.placed.above other in by_upper other above (the_one (map.get old.nodes (ino, above.upper)) above.there)

  node_below : (most ino : ℕ) → AreNodesBelow most ino
  node_below zero ino offset small n there = absurd (omega (arith, small))
  node_below (suc most) ino offset small n there = node_after most ino (node_below most ino) offset small n there

  pub is_node : (ino offset : ℕ) (n : NodeAt) → map.get old.nodes (ino, offset) ≡ Some n → IsNode image ckpt ino offset n.nid
  is_node ino offset n there = node_below (suc offset) ino offset (omega arith) n there

  pub node_at : (ino offset : ℕ) (n : NodeAt) → map.get old.nodes (ino, offset) ≡ Some n → node_address image ckpt n.nid ≡ n.at
  node_at ino offset n there = address_is image ckpt base old ino offset n (node_there ino offset n there)

  -- the nodes of one file
  module _ (ino : ℕ) where
    pub nodes_there : HasNodesThere image ckpt old ino
    nodes_there = record {
      block = λ offset n there. block_is image ckpt base old ino offset n (node_there ino offset n there);
      lower = λ offset n there. (node_there ino offset n there).here.own.lower;
      above = λ offset n there. (node_there ino offset n there).placed.above;
    }

    -- a page whose direct node isn't there has no address
    no_page : (page d : ℕ) → direct_of page ≡ Some d → map.get old.nodes (ino, d) ≡ None → page_at old ino page ≡ 0
    no_page page d direct absent = by_page (map.get old.pages (ino, page)) refl
      where
        by_page : (o : Option ℕ) → map.get old.pages (ino, page) ≡ o → page_at old ino page ≡ 0
        by_page None e = ap (λ o. unwrap_or o 0) e
        by_page (Some at) e = absurd (true≢false (sym ((stands.laid.pages ino page at e).direct d direct) ∙ ap is_some absent))

    word : (page d : ℕ) (there : Option (List ℕ)) → direct_of page ≡ Some d → StandsFor image ckpt old ino nodes_there d there → word_of there (direct_slot page) ≡ page_at old ino page
    word page d there direct (nothing absent none) = ap (λ (o : Option (List ℕ)). word_of o (direct_slot page)) none ∙ sym (no_page page d direct absent)
    word page d there direct (block at found bytes) =
        ap (λ (o : Option (List ℕ)). word_of o (direct_slot page)) bytes ∙ (node_there ino d at found).here.own.pages page direct

    module _ (root : NodeAt) (there : map.get old.nodes (ino, 0) ≡ Some root) where
      abbrev pub inode_block : List ℕ
      inode_block = block_at image root.at

      -- the word of a direct node tells the page's address
      pub direct_word : (page : ℕ) → inode_pages ≤ page → page < page_limit → word_of (direct_node image ckpt inode_block page) (direct_slot page) ≡ page_at old ino page
      direct_word page high within =
          let found = direct_found image ckpt old ino nodes_there root there page high within in
          word page found.offset (direct_node image ckpt inode_block page) found.is found.stands

      pub page_is : ((page : ℕ) → page < inode_pages → slice_index_or (inode_of inode_block).addresses page 0 ≡ page_at old ino page) → (page : ℕ) → page < page_limit → page_address image ckpt inode_block page ≡ page_at old ino page
      page_is addresses page within = elim (cases_lt page inode_pages) as (λ _. page_address image ckpt inode_block page ≡ page_at old ino page) [
        | inl low ↦ in_inode image ckpt inode_block page low ∙ addresses page low
        | inr high ↦ in_direct image ckpt inode_block page high ∙ direct_word page high within
      ]

  -- the inode of a row of the base
  pub record HasRoot (ino : ℕ) : Type 0 where
    pub root : NodeAt
    pub there : map.get old.nodes (ino, 0) ≡ Some root
    pub block : node image ckpt ino ≡ Some (block_at image root.at)

  pub root_of : (ino : ℕ) (row : Row) → map.get base ino ≡ Some row → HasRoot ino
  root_of ino row of_base =
      let found = the_one (map.get old.nodes (ino, 0)) (stands.laid.inodes ino row of_base) in
      let there = node_there ino 0 found.0 found.1 in
      record { root = found.0; there = found.1; block = ap (node image ckpt) (sym (there.placed.inode refl)) ∙ block_is image ckpt base old ino 0 found.0 there }

  -- a page of the places is one of the base
  pub base_page : (ino page at : ℕ) → map.get old.pages (ino, page) ≡ Some at → IsBasePage image ckpt ino page at
  base_page ino page at there = by_row (the_one (map.get base ino) placed.row)
    where
      placed : IsPagePlaced base old ino page
      placed = stands.laid.pages ino page at there

      by_row : (row : Row) × (map.get base ino ≡ Some row) → IsBasePage image ckpt ino page at
      by_row (row, of_base) =
          let its = is_base.rows ino row of_base in
          let root = root_of ino row of_base in
          let is_inode : IsInode image ckpt ino row.kind (block_at image root.root.at) = subst (IsInode image ckpt ino row.kind) (same_some its.inode (block_at image root.root.at) (sym its.is.there ∙ root.block)) its.is in
          let own : IsInodeOf old row (block_at image root.root.at) = (node_there ino 0 root.root root.there).here.inode refl row of_base in
          let address : page_address image ckpt (block_at image root.root.at) page ≡ page_at old ino page = page_is ino root.root root.there (λ p small. own.addresses p small ∙ ap (λ n. page_at old n p) its.own) page placed.within in
          record {
            reached = its.reached;
            kind = row.kind;
            inode = block_at image root.root.at;
            is = is_inode;
            within = placed.within;
            address = address ∙ ap (λ o. unwrap_or o 0) there;
            there = in_data_some ckpt.geom at (stands.pages ino page at there).in_zone;
          }

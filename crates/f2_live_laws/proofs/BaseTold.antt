-- With no node log the base's image tells the addresses of a tree that stands at its places in it.
use Rattle.std.proofs.Common.{◌≡◌, ℕ, ◌<◌, ◌≤◌, List, is_some, refl, sym, ap, ◌∙◌, arith, true≢false}
use Rattle.std.specs.Prelude.{Option, Some, None}
use Rattle.std.specs.Option.{unwrap_or}
use Rattle.std.specs.FinMap as map
use Rattle.std.proofs.lemmas.Bool.Decides.{nat_tests}
use Rattle.f2_format.specs.Offsets.{inode_pages, page_limit, direct_of, direct_slot}
use Rattle.f2_model.specs.Tree.{Rows}
use Rattle.f2_model.specs.declared.rows.Row.{Row}
use Rattle.f2_image.specs.Images.{Image, block_at}
use Rattle.f2_image.specs.Packs.{Checkpoint}
use Rattle.f2_image.specs.Nodes.{node, direct_node, word_of}
use Rattle.f2_image.specs.Chains.{base_direct}
use Rattle.f2_stored.specs.Layout.{Position}
use Rattle.f2_stored.specs.Places.{NodeAt, Places, page_at}
use Rattle.f2_stored.specs.Trees.{IsTreeAt}
use Rattle.f2_stored.specs.Ties.{told_address}
use Rattle.f2_place_laws.proofs.Options.{the_one}
use Rattle.f2_place_laws.proofs.Routes.{HasNodesThere, StandsFor, nothing, block, direct_found}
use Rattle.f2_place_laws.proofs.Stood.{IsNodeThere, block_is}
use Rattle.f2_live_laws.specs.Telling.{CheckpointsTellAll}

-- a page with a direct node is past the inode's pages and within the limit
past_inode : (page offset : ℕ) → direct_of page ≡ Some offset → inode_pages ≤ page
unfolding direct_of
past_inode page offset direct = grind (arith, nat_tests)

within_limit : (page offset : ℕ) → direct_of page ≡ Some offset → page < page_limit
unfolding direct_of
within_limit page offset direct = grind (arith, nat_tests)

module _ (image : Image) (ckpt : Checkpoint) (tree : Rows) (places : Places) (stands : IsTreeAt image ckpt tree places) (ino : ℕ) where
  -- the nodes of a file in the image
  node_there : (offset : ℕ) (n : NodeAt) → map.get places.nodes (ino, offset) ≡ Some n → IsNodeThere image ckpt tree places ino offset n
  node_there offset n there = record { entry = stands.table.told ino offset n there; placed = stands.laid.nodes ino offset n there; here = stands.nodes ino offset n there }

  nodes_there : HasNodesThere image ckpt places ino
  nodes_there = record {
    block = λ offset n there. block_is image ckpt tree places ino offset n (node_there offset n there);
    lower = λ offset n there. (node_there offset n there).here.own.lower;
    above = λ offset n there. (node_there offset n there).placed.above;
  }

  -- a page whose direct node isn't there has no address
  no_page : (page d : ℕ) → direct_of page ≡ Some d → map.get places.nodes (ino, d) ≡ None → page_at places ino page ≡ 0
  no_page page d direct absent = by_page (map.get places.pages (ino, page)) refl
    where
      by_page : (o : Option ℕ) → map.get places.pages (ino, page) ≡ o → page_at places ino page ≡ 0
      by_page None e = ap (λ o. unwrap_or o 0) e
      by_page (Some at) e = absurd (true≢false (sym ((stands.laid.pages ino page at e).direct d direct) ∙ ap is_some absent))

  -- the word in what stands for the direct node
  word_there : (page d : ℕ) (there : Option (List ℕ)) → direct_of page ≡ Some d → StandsFor image ckpt places ino nodes_there d there → word_of there (direct_slot page) ≡ page_at places ino page
  word_there page d there direct (nothing absent none) = ap (λ (o : Option (List ℕ)). word_of o (direct_slot page)) none ∙ sym (no_page page d direct absent)
  word_there page d there direct (block at found bytes) = ap (λ (o : Option (List ℕ)). word_of o (direct_slot page)) bytes ∙ (node_there d at found).here.own.pages page direct

  -- the base's direct node of a page tells its address
  pub base_tells : (row : Row) (page offset : ℕ) → map.get tree ino ≡ Some row → direct_of page ≡ Some offset → word_of (base_direct image ckpt (node image ckpt ino) page) (direct_slot page) ≡ page_at places ino page
  base_tells row page offset there direct =
      let root = the_one (map.get places.nodes (ino, 0)) (stands.laid.inodes ino row there) in
      let at = node_there 0 root.0 root.1 in
      let inode : node image ckpt ino ≡ Some (block_at image root.0.at) = ap (node image ckpt) (sym (at.placed.inode refl)) ∙ block_is image ckpt tree places ino 0 root.0 at in
      let found = direct_found image ckpt places ino nodes_there root.0 root.1 page (past_inode page offset direct) (within_limit page offset direct) in
      ap (λ (o : Option (List ℕ)). word_of (base_direct image ckpt o page) (direct_slot page)) inode
      ∙ word_there page found.offset (direct_node image ckpt (block_at image root.0.at) page) found.is found.stands

pub checkpoints_tell_all : CheckpointsTellAll
checkpoints_tell_all layout state places empty stands = record {
  told = λ ino page offset row there regular whole direct clean. no_log ino offset page ∙ base_tells layout.base.image layout.base.ckpt state.live places stands ino row page offset there direct;
}
  where
    no_log : (ino offset page : ℕ) → told_address layout ino offset page ≡ word_of (base_direct layout.base.image layout.base.ckpt (node layout.base.image layout.base.ckpt ino) page) (direct_slot page)
    no_log ino offset page = ap (λ (log : List Position). told_address (record layout { log = log }) ino offset page) empty

-- The way of a page through an image in which a tree stands at its places ends at the page's address.
use Rattle.std.proofs.Common.{◌≡◌, ℕ, ◌<◌, ◌≤◌, nat_lt, Bool, true, false, cond, List, slice_index_or, is_some, refl, sym, ap, ◌∙◌, inl, inr, arith, true≢false}
use Rattle.std.specs.Prelude.{Option, Some, None}
use Rattle.std.specs.Option.{unwrap_or}
use Rattle.std.specs.FinMap as map
use Rattle.std.proofs.lemmas.Bool.{cases_lt}
use Rattle.std.proofs.lemmas.Bool.Decides.{nat_tests}
use Rattle.f2_format.specs.Offsets.{inode_pages, page_limit, direct_of, direct_slot}
use Rattle.f2_format.specs.Inode.{inode_of}
use Rattle.f2_model.specs.Tree.{Rows}
use Rattle.f2_image.specs.Images.{Image, block_at}
use Rattle.f2_image.specs.Packs.{Checkpoint}
use Rattle.f2_image.specs.Nodes.{direct_node, word_of, page_address}
use Rattle.f2_stored.specs.Places.{NodeAt, Places, page_at}
use Rattle.f2_place_laws.proofs.Routes.{HasNodesThere, StandsFor, nothing, block, direct_found}
use Rattle.f2_place_laws.proofs.Stood.{IsStood, node_is_there, block_is}

-- the address of a page: the inode has it, or the word of the direct node
choice : (image : Image) (ckpt : Checkpoint) (inode : List ℕ) (page : ℕ) (b : Bool) → nat_lt page inode_pages ≡ b
    → page_address image ckpt inode page ≡ cond b (slice_index_or (inode_of inode).addresses page 0) (word_of (direct_node image ckpt inode page) (direct_slot page))
choice image ckpt inode page b e = ap (λ c. cond c (slice_index_or (inode_of inode).addresses page 0) (word_of (direct_node image ckpt inode page) (direct_slot page))) e

pub in_inode : (image : Image) (ckpt : Checkpoint) (inode : List ℕ) (page : ℕ) → page < inode_pages → page_address image ckpt inode page ≡ slice_index_or (inode_of inode).addresses page 0
in_inode image ckpt inode page low = choice image ckpt inode page true (grind (arith, nat_tests))

pub in_direct : (image : Image) (ckpt : Checkpoint) (inode : List ℕ) (page : ℕ) → inode_pages ≤ page → page_address image ckpt inode page ≡ word_of (direct_node image ckpt inode page) (direct_slot page)
in_direct image ckpt inode page high = choice image ckpt inode page false (grind (arith, nat_tests))

module _ (image : Image) (ckpt : Checkpoint) (tree : Rows) (places : Places) (is : IsStood image ckpt tree places) (ino : ℕ) where
  nodes_there : HasNodesThere image ckpt places ino
  nodes_there = record {
    block = λ offset n there. block_is image ckpt tree places ino offset n (node_is_there image ckpt tree places is ino offset n there);
    lower = λ offset n there. (node_is_there image ckpt tree places is ino offset n there).here.own.lower;
    above = λ offset n there. (node_is_there image ckpt tree places is ino offset n there).placed.above;
  }

  -- a page whose direct node isn't there has no address
  no_page : (page d : ℕ) → direct_of page ≡ Some d → map.get places.nodes (ino, d) ≡ None → page_at places ino page ≡ 0
  no_page page d direct absent = by_page (map.get places.pages (ino, page)) refl
    where
      by_page : (o : Option ℕ) → map.get places.pages (ino, page) ≡ o → page_at places ino page ≡ 0
      by_page None e = ap (λ o. unwrap_or o 0) e
      by_page (Some at) e = absurd (true≢false (sym ((is.stands.laid.pages ino page at e).direct d direct) ∙ ap is_some absent))

  -- the last step
  address : (page d : ℕ) (there : Option (List ℕ)) → direct_of page ≡ Some d → StandsFor image ckpt places ino nodes_there d there → word_of there (direct_slot page) ≡ page_at places ino page
  address page d there direct (nothing absent none) = ap (λ (o : Option (List ℕ)). word_of o (direct_slot page)) none ∙ sym (no_page page d direct absent)
  address page d there direct (block at found bytes) =
      ap (λ (o : Option (List ℕ)). word_of o (direct_slot page)) bytes ∙ (node_is_there image ckpt tree places is ino d at found).here.own.pages page direct

  module _ (root : NodeAt) (there : map.get places.nodes (ino, 0) ≡ Some root) where
    -- the way of each page from the inode ends at the page's address
    pub way_ends : ((page : ℕ) → page < inode_pages → slice_index_or (inode_of (block_at image root.at)).addresses page 0 ≡ page_at places ino page) → (page : ℕ) → page < page_limit
        → page_address image ckpt (block_at image root.at) page ≡ page_at places ino page
    way_ends addresses page within = elim (cases_lt page inode_pages) [
      | inl low ↦ in_inode image ckpt (block_at image root.at) page low ∙ addresses page low
      | inr high ↦
          let found = direct_found image ckpt places ino nodes_there root there page high within in
          in_direct image ckpt (block_at image root.at) page high ∙ address page found.offset (direct_node image ckpt (block_at image root.at) page) found.is found.stands
    ]

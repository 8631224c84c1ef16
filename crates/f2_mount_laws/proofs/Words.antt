-- The word of a direct node of a marked file is the address of its page.
use Rattle.std.proofs.Common.{◌≡◌, ◌≢◌, ℕ, ◌+◌, ◌≤◌, nat_lt, Bool, false, cond, List, slice_index_or, IsSome, refl, sym, ap, ◌∙◌, arith}
use Rattle.std.specs.Prelude.{Option, Some, None}
use Rattle.std.specs.Option.{unwrap_or}
use Rattle.std.specs.FinMap as map
use Rattle.std.proofs.lemmas.Bool.Decides.{nat_tests}
use Rattle.f2_format.specs.Offsets.{inode_pages, direct_of, direct_slot}
use Rattle.f2_format.specs.Inode.{inode_of, node_word}
use Rattle.f2_format.specs.Footer.{footer_ino}
use Rattle.f2_model.specs.Tree.{Rows}
use Rattle.f2_model.specs.declared.rows.Row.{Row}
use Rattle.f2_image.specs.Images.{Image, block_at}
use Rattle.f2_image.specs.Packs.{Checkpoint}
use Rattle.f2_image.specs.Nodes.{node, direct_node, word_of, address_in}
use Rattle.f2_image.specs.Bases.{IsBase}
use Rattle.f2_image.specs.Chains.{Logged, block_in, last_before, or_below, base_direct, logged_direct, marked_direct, marked_address}
use Rattle.f2_stored.specs.Places.{NodeAt, Places, page_at}
use Rattle.f2_stored.specs.Trees.{IsTreeAt}
use Rattle.f2_mount_laws.proofs.Old.{HasRoot, direct_page, root_of, direct_word, node_there}

choice : (inode : List ℕ) (direct : Option (List ℕ)) (page : ℕ) (b : Bool) → nat_lt page inode_pages ≡ b
    → address_in inode direct page ≡ cond b (slice_index_or (inode_of inode).addresses page 0) (word_of direct (direct_slot page))
choice inode direct page b e = ap (λ c. cond c (slice_index_or (inode_of inode).addresses page 0) (word_of direct (direct_slot page))) e

by_direct : (inode : List ℕ) (direct : Option (List ℕ)) (page : ℕ) → inode_pages ≤ page → address_in inode direct page ≡ word_of direct (direct_slot page)
by_direct inode direct page high = choice inode direct page false (grind (arith, nat_tests))

module _ (image : Image) (ckpt : Checkpoint) (log : List Logged) (place ino page offset : ℕ) (own : footer_ino (block_in log place) ≡ ino) (direct : direct_of page ≡ Some offset) where
  abbrev its_direct : Option (List ℕ) → Option (List ℕ)
  its_direct before = or_below before (base_direct image ckpt (node image ckpt ino) page)

  -- the direct node that has the page's address
  direct_is : marked_direct image ckpt log place page ≡ its_direct (last_before log (place + 1) ino offset)
  direct_is =
      ap (λ file. or_below (logged_direct log place file (direct_of page)) (base_direct image ckpt (node image ckpt file) page)) own
      ∙ ap (λ (o : Option ℕ). its_direct (logged_direct log place ino o)) direct

  address_is : marked_address image ckpt log place page ≡ word_of (its_direct (last_before log (place + 1) ino offset)) (direct_slot page)
  address_is =
      by_direct (block_in log place) (marked_direct image ckpt log place page) page (direct_page page offset direct).0 ∙ ap (λ (d : Option (List ℕ)). word_of d (direct_slot page)) direct_is

  -- in the log
  pub word_logged : (block : List ℕ) → last_before log (place + 1) ino offset ≡ Some block → node_word block (direct_slot page) ≡ marked_address image ckpt log place page
  word_logged block there = sym (address_is ∙ ap (λ o. word_of (its_direct o) (direct_slot page)) there)

  -- in neither, where the file has no node
  pub word_nowhere : node image ckpt ino ≡ None → last_before log (place + 1) ino offset ≡ None → marked_address image ckpt log place page ≡ 0
  word_nowhere absent none =
      address_is ∙ ap (λ o. word_of (its_direct o) (direct_slot page)) none ∙ ap (λ (o : Option (List ℕ)). word_of (base_direct image ckpt o page) (direct_slot page)) absent

  -- or in the base
  module _ (base : Rows) (is_base : IsBase image ckpt base) (old : Places) (stands : IsTreeAt image ckpt base old) (row : Row) (of_base : map.get base ino ≡ Some row) where
    root : HasRoot image ckpt base is_base old stands ino
    root = root_of image ckpt base is_base old stands ino row of_base

    below_root : base_direct image ckpt (node image ckpt ino) page ≡ direct_node image ckpt (block_at image root.root.at) page
    below_root = ap (λ (o : Option (List ℕ)). base_direct image ckpt o page) root.block

    word_there : word_of (base_direct image ckpt (node image ckpt ino) page) (direct_slot page) ≡ page_at old ino page
    word_there =
        ap (λ (o : Option (List ℕ)). word_of o (direct_slot page)) below_root
        ∙ direct_word image ckpt base is_base old stands ino root.root root.there page (direct_page page offset direct).0 (direct_page page offset direct).1

    pub word_based : (n : NodeAt) → last_before log (place + 1) ino offset ≡ None → map.get old.nodes (ino, offset) ≡ Some n → node_word (block_at image n.at) (direct_slot page) ≡ marked_address image ckpt log place page
    word_based n none there =
        (node_there image ckpt base is_base old stands ino offset n there).here.own.pages page direct ∙ sym word_there
        ∙ sym (address_is ∙ ap (λ o. word_of (its_direct o) (direct_slot page)) none)

    -- a page with an address has its direct node in the base, where the log hasn't it
    pub direct_based : last_before log (place + 1) ino offset ≡ None → marked_address image ckpt log place page ≢ 0 → IsSome (map.get old.nodes (ino, offset))
    direct_based none some = by_page (map.get old.pages (ino, page)) refl
      where
        address : marked_address image ckpt log place page ≡ page_at old ino page
        address = address_is ∙ ap (λ o. word_of (its_direct o) (direct_slot page)) none ∙ word_there

        by_page : (o : Option ℕ) → map.get old.pages (ino, page) ≡ o → IsSome (map.get old.nodes (ino, offset))
        by_page None e = absurd (some (address ∙ ap (λ o. unwrap_or o 0) e))
        by_page (Some at) e = (stands.laid.pages ino page at e).direct offset direct

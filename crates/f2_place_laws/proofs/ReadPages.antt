-- The pages that are read off a sound image are those of its base.
use Rattle.std.proofs.Common.{◌≡◌, ◌≢◌, ◌⊎◌, inl, inr, ℕ, ◌<◌, ◌≤◌, Bool, true, false, slice_index_or, IsSome, is_some, refl, sym, ap, ◌∙◌, subst, arith}
use Rattle.std.specs.Prelude.{Option, Some, None}
use Rattle.std.specs.Option.{unwrap_or}
use Rattle.std.proofs.lemmas.Option.{none-some}
use Rattle.std.proofs.lemmas.Bool.Decides.{nat_tests}
use Rattle.std.specs.FinMap as map
use native.Mathlib.Decide.{ℕ_discrete}
use Rattle.f2_format.specs.Offsets.{inode_pages, page_limit, direct_of, direct_slot}
use Rattle.f2_format.specs.Geometry.{is_in_data}
use Rattle.f2_format.specs.Inode.{inode_of, node_word}
use Rattle.f2_model.specs.Tree.{Rows}
use Rattle.f2_model.specs.declared.rows.Row.{Row}
use Rattle.f2_image.specs.Images.{Image, block_at}
use Rattle.f2_image.specs.Packs.{Checkpoint}
use Rattle.f2_image.specs.Nodes.{direct_node, word_of, page_address}
use Rattle.f2_image.specs.Bases.{IsInode, IsBase}
use Rattle.f2_image.specs.Reached.{inode, IsBasePage}
use Rattle.f2_image.specs.Faults as faults
use Rattle.f2_image.specs.Faults.{IsSound, OutOfZone, Shared, VersionEnd}
use Rattle.f2_image.proofs.OneBase.{same_some}
use Rattle.f2_stored.specs.Places.{NodeAt, Places, page_at}
use Rattle.f2_place_laws.proofs.ChosenPlaces.{nodes_read, pages_read, dentries_read, address_of, IsPageRead, page_read, page_given}
use Rattle.f2_place_laws.proofs.Options.{the_one}
use Rattle.f2_place_laws.proofs.PageWays.{in_inode, in_direct}
use Rattle.f2_place_laws.proofs.ReadNodes.{at_nid, node_of, block_is, lower_told, above, row_there}
use Rattle.f2_place_laws.proofs.Routes.{HasNodesThere, StandsFor, nothing, block, direct_found}
use Rattle.f2_place_laws.proofs.SoundNodes.{table, block_of, right}
use Rattle.f2_place_laws.proofs.Uppers.{upper_of}

-- a page whose address a direct node has
direct_page : (page offset : ℕ) → direct_of page ≡ Some offset → (inode_pages ≤ page) × (page < page_limit)
unfolding direct_of
direct_page page offset is = grind (arith, nat_tests, is)

module _ (image : Image) (ckpt : Checkpoint) (sound : IsSound image ckpt) (base : Rows) (is : IsBase image ckpt base) where
  abbrev pub places : Places
  places = record { nodes = nodes_read image ckpt; pages = pages_read image ckpt base page_limit; dentries = dentries_read image ckpt base page_limit }

  -- a row's inode
  pub root_of : (ino : ℕ) (row : Row) → map.get base ino ≡ Some row → map.get places.nodes (ino, 0) ≡ Some (at_nid image ckpt sound ino)
  root_of ino row there = node_of image ckpt sound ino 0 ino (inode ino (is.rows ino row there).reached)

  pub inode_is : (ino : ℕ) (row : Row) → map.get base ino ≡ Some row → IsInode image ckpt ino row.kind (block_of image ckpt ino)
  inode_is ino row there =
      let its = is.rows ino row there in
      let facts = right image ckpt sound ino 0 ino (inode ino its.reached) in
      subst (IsInode image ckpt ino row.kind) (same_some its.inode (block_of image ckpt ino) (sym its.is.there ∙ facts.there)) its.is

  -- the address of a page
  pub page_is : (ino page : ℕ) → IsSome (map.get base ino) → page < page_limit → page_at places ino page ≡ address_of image ckpt ino page
  page_is ino page row within = by_address (ℕ_discrete (address_of image ckpt ino page) 0)
    where
      none_read : (o : Option ℕ) → map.get places.pages (ino, page) ≡ o → address_of image ckpt ino page ≡ 0 → page_at places ino page ≡ 0
      none_read None e zero = ap (λ o. unwrap_or o 0) e
      none_read (Some at) e zero = let found = page_read image ckpt base page_limit (ino, page) at e in absurd (found.some (sym found.is ∙ zero))

      by_address : Dec (address_of image ckpt ino page ≡ 0) → page_at places ino page ≡ address_of image ckpt ino page
      by_address (yes zero) = none_read (map.get places.pages (ino, page)) refl zero ∙ sym zero
      by_address (no some) = ap (λ o. unwrap_or o 0) (page_given image ckpt base page_limit ino page row within some)

  -- a page that is read is one of the base
  pub base_page : (ino page at : ℕ) → map.get places.pages (ino, page) ≡ Some at → IsBasePage image ckpt ino page at
  base_page ino page at there =
      let found = page_read image ckpt base page_limit (ino, page) at there in
      let row = the_one (map.get base ino) found.row in
      record {
        reached = (is.rows ino row.0 row.1).reached;
        kind = row.0.kind;
        inode = block_of image ckpt ino;
        is = inode_is ino row.0 row.1;
        within = found.within;
        address = found.is;
        there = found.some;
      }

  pub page_in_zone : (ino page at : ℕ) → map.get places.pages (ino, page) ≡ Some at → is_in_data ckpt.geom at ≡ true
  page_in_zone ino page at there = by_test (is_in_data ckpt.geom at) refl
    where
      not_end : OutOfZone ≢ VersionEnd
      not_end same = cc

      by_test : (b : Bool) → is_in_data ckpt.geom at ≡ b → b ≡ true
      by_test true e = refl
      by_test false e = absurd (sound OutOfZone at not_end (faults.page (table image ckpt sound) ino page (inl (base_page ino page at there)) e))

  -- no two have one address
  pub pages_apart : (one other : ℕ × ℕ) (at : ℕ) → map.get places.pages one ≡ Some at → map.get places.pages other ≡ Some at → one ≡ other
  pages_apart one other at there too = by_numbers (ℕ_discrete one.0 other.0) (ℕ_discrete one.1 other.1)
    where
      not_end : Shared ≢ VersionEnd
      not_end same = cc

      shared : (one.0 ≢ other.0) ⊎ (one.1 ≢ other.1) → ⊥
      shared differ = sound Shared at not_end (table image ckpt sound, faults.pages one.0 one.1 other.0 other.1 (inl (base_page one.0 one.1 at there)) (inl (base_page other.0 other.1 at too)) differ)

      by_numbers : Dec (one.0 ≡ other.0) → Dec (one.1 ≡ other.1) → one ≡ other
      by_numbers (yes e) (yes f) = λ i. (e i, f i)
      by_numbers (no differ) second = absurd (shared (inl differ))
      by_numbers (yes e) (no differ) = absurd (shared (inr differ))

  -- the nodes of a file, and the way from its inode to a page
  module _ (ino : ℕ) where
    nodes_there : HasNodesThere image ckpt places ino
    nodes_there = record {
      block = λ offset n there. block_is image ckpt sound ino offset n there;
      lower = λ offset n there slot low small under. lower_told image ckpt sound ino offset n there slot low small under;
      above = λ offset n there other. let up = above image ckpt sound ino offset n there other in record { upper = upper_of offset; slot = up.slot; small = up.small; names = up.names; there = up.there_above };
    }

    -- the direct node of a page
    record IsDirectThere (page offset : ℕ) : Type 0 where
      stands : StandsFor image ckpt places ino nodes_there offset (direct_node image ckpt (block_of image ckpt ino) page)
      address : page_address image ckpt (block_of image ckpt ino) page ≡ word_of (direct_node image ckpt (block_of image ckpt ino) page) (direct_slot page)
      within : page < page_limit

    direct_there : (row : Row) → map.get base ino ≡ Some row → (page offset : ℕ) → direct_of page ≡ Some offset → IsDirectThere page offset
    direct_there row of_base page offset direct =
        let limits = direct_page page offset direct in
        let found = direct_found image ckpt places ino nodes_there (at_nid image ckpt sound ino) (root_of ino row of_base) page limits.0 limits.1 in
        record {
          stands = subst (λ d. StandsFor image ckpt places ino nodes_there d (direct_node image ckpt (block_of image ckpt ino) page)) (same_some found.offset offset (sym found.is ∙ direct)) found.stands;
          address = in_direct image ckpt (block_of image ckpt ino) page limits.0;
          within = limits.1;
        }

    -- is read where the page has an address
    pub direct_read : (page at : ℕ) → map.get places.pages (ino, page) ≡ Some at → (offset : ℕ) → direct_of page ≡ Some offset → IsSome (map.get places.nodes (ino, offset))
    direct_read page at there offset direct =
        let found = page_read image ckpt base page_limit (ino, page) at there in
        let row = the_one (map.get base ino) found.row in
        let way = direct_there row.0 row.1 page offset direct in
        by_stand found way way.stands
      where
        by_stand : IsPageRead image ckpt base page_limit (ino, page) at → IsDirectThere page offset → StandsFor image ckpt places ino nodes_there offset (direct_node image ckpt (block_of image ckpt ino) page)
            → IsSome (map.get places.nodes (ino, offset))
        by_stand found way (nothing absent none) = absurd (found.some (sym found.is ∙ way.address ∙ ap (λ o. word_of o (direct_slot page)) none))
        by_stand found way (block n there bytes) = ap is_some there

    -- and tells the page's address
    pub word_told : (offset : ℕ) (n : NodeAt) → map.get places.nodes (ino, offset) ≡ Some n → (page : ℕ) → direct_of page ≡ Some offset → node_word (block_at image n.at) (direct_slot page) ≡ page_at places ino page
    word_told offset n there page direct =
        let some = row_there image ckpt sound ino offset n there base is in
        let row = the_one (map.get base ino) some in
        let way = direct_there row.0 row.1 page offset direct in
        by_stand some way way.stands
      where
        by_stand : IsSome (map.get base ino) → IsDirectThere page offset → StandsFor image ckpt places ino nodes_there offset (direct_node image ckpt (block_of image ckpt ino) page)
            → node_word (block_at image n.at) (direct_slot page) ≡ page_at places ino page
        by_stand some way (nothing absent none) = absurd (none-some n (sym absent ∙ there))
        by_stand some way (block m found bytes) =
            let same : n ≡ m = same_some n m (sym there ∙ found) in
            ap (λ (k : NodeAt). node_word (block_at image k.at) (direct_slot page)) same ∙ ap (λ o. word_of o (direct_slot page)) (sym bytes) ∙ sym way.address ∙ sym (page_is ino page some way.within)

    -- the inode tells those of the first pages
    pub first_told : (row : Row) → map.get base ino ≡ Some row → (page : ℕ) → page < inode_pages → slice_index_or (inode_of (block_of image ckpt ino)).addresses page 0 ≡ page_at places ino page
    first_told row of_base page small =
        sym (in_inode image ckpt (block_of image ckpt ino) page small) ∙ sym (page_is ino page (ap is_some of_base) (omega (arith, small)))

-- The places that are read off an image: its nodes by the footers of their blocks, and the addresses of the pages of its base.
use Rattle.std.proofs.Common.{◌≡◌, ◌≢◌, ℕ, ◌<◌, ◌==◌, true, not, List, map as map_list, filter, IsSome, is_some, refl, sym, ap, ◌∙◌, subst, true≢false}
use Rattle.std.specs.Prelude.{Some}
use Rattle.std.specs.List.{flat_map}
use Rattle.std.specs.FinMap as map
use Rattle.std.specs.FinMap.{get-from_entries}
use Rattle.std.proofs.lemmas.Bool.{ne_eqb}
use Rattle.f2_format.specs.Geometry.{nid_limit}
use Rattle.f2_format.specs.Dentry.{Dentry, dentries_of}
use Rattle.f2_model.specs.Tree.{Rows}
use Rattle.f2_model.specs.State.{pair_cmp}
use Rattle.f2_image.specs.Images.{Image, block_at}
use Rattle.f2_image.specs.Packs.{Checkpoint}
use Rattle.f2_image.specs.Nodes.{page_address}
use Rattle.f2_stored.specs.Places.{NodeAt}
use Rattle.f2_place_laws.proofs.FlatLists.{from_map, in_flat, from_flat, numbers_below, in_numbers, from_numbers}
use Rattle.f2_place_laws.proofs.FoundEntries.{found_in, some_found, find_map, map_option}
use Rattle.f2_place_laws.proofs.Lists.{IsIn, in_map, in_filter, from_filter}
use Rattle.f2_place_laws.proofs.Options.{the_one}
use Rattle.f2_place_laws.proofs.Pairs.{pair_cmp_total}
use Rattle.f2_place_laws.proofs.RowKeys.{key_there, there_key}
use Rattle.f2_place_laws.proofs.SoundNodes.{place, block_of, key, IsGiven}

-- a number that isn't 0, as a test
some_number : (n : ℕ) → n ≢ 0 → not (n == 0) ≡ true
some_number n some = ap not (ne_eqb n 0 some)

no_zero : (n : ℕ) → not (n == 0) ≡ true → n ≢ 0
no_zero n test zero = true≢false (sym test ∙ ap (λ m. not (m == 0)) zero)

module _ (image : Image) (ckpt : Checkpoint) where
  -- an entry for each nid that has an address
  node_entry : ℕ → (ℕ × ℕ) × NodeAt
  node_entry nid = (key image ckpt nid, record { nid = nid; at = place image ckpt nid })

  given_nids : List ℕ
  given_nids = filter (λ nid. not (place image ckpt nid == 0)) (numbers_below (nid_limit ckpt.geom))

  pub nodes_read : map.FinMap pair_cmp NodeAt
  nodes_read = map.from_entries (map_list node_entry given_nids)

  -- a node that is read is that of a nid that has an address
  pub record IsRead (at : ℕ × ℕ) (n : NodeAt) : Type 0 where
    pub given : IsGiven image ckpt n.nid
    pub key_is : key image ckpt n.nid ≡ at
    pub place_is : place image ckpt n.nid ≡ n.at

  -- an entry of a node is right
  node_right : (at : ℕ × ℕ) (n : NodeAt) (e : (ℕ × ℕ) × NodeAt) (nid : ℕ) → at ≡ e.0 → n ≡ e.1 → e ≡ node_entry nid → IsIn nid given_nids → IsRead at n
  unfolding node_entry given_nids
  node_right at n e nid at_is n_is e_is listed =
      let passes = from_filter (λ k. not (place image ckpt k == 0)) nid (numbers_below (nid_limit ckpt.geom)) listed in
      let right : IsRead at (node_entry nid).1 = record {
        given = record { within = from_numbers (nid_limit ckpt.geom) nid passes.1; some = no_zero (place image ckpt nid) passes.0 };
        key_is = sym (at_is ∙ ap (λ (f : (ℕ × ℕ) × NodeAt). f.0) e_is);
        place_is = refl;
      } in
      subst (IsRead at) (sym (n_is ∙ ap (λ (f : (ℕ × ℕ) × NodeAt). f.1) e_is)) right

  pub node_read : (at : ℕ × ℕ) (n : NodeAt) → map.get nodes_read at ≡ Some n → IsRead at n
  unfolding nodes_read
  node_read at n there =
      let found = found_in at n (map_list node_entry given_nids) (sym (get-from_entries pair_cmp_total (map_list node_entry given_nids) at) ∙ there) in
      let from = from_map node_entry found.0 given_nids found.1 in
      node_right at n found.0 from.0 found.2 found.3 from.2 from.1

  -- and for each such nid one is read
  pub given_read : (nid : ℕ) → IsGiven image ckpt nid → (n : NodeAt) × (map.get nodes_read (key image ckpt nid) ≡ Some n)
  unfolding nodes_read node_entry given_nids
  given_read nid given =
      let listed = in_filter (λ n. not (place image ckpt n == 0)) nid (numbers_below (nid_limit ckpt.geom)) (some_number (place image ckpt nid) given.some) (in_numbers (nid_limit ckpt.geom) nid given.within) in
      let there = some_found (node_entry nid) (map_list node_entry given_nids) (in_map node_entry nid given_nids listed) in
      the_one (map.get nodes_read (key image ckpt nid)) (ap is_some (get-from_entries pair_cmp_total (map_list node_entry given_nids) (key image ckpt nid)) ∙ there)

  -- the address of a page of a file, by the block of its inode
  abbrev pub address_of : ℕ → ℕ → ℕ
  address_of ino page = page_address image ckpt (block_of image ckpt ino) page

  module _ (base : Rows) (most : ℕ) where
    -- an entry for each page of a row that has an address
    page_entry : ℕ → ℕ → (ℕ × ℕ) × ℕ
    page_entry ino page = ((ino, page), address_of ino page)

    own_pages : ℕ → List ((ℕ × ℕ) × ℕ)
    own_pages ino = map_list (page_entry ino) (filter (λ page. not (address_of ino page == 0)) (numbers_below most))

    page_entries : List ((ℕ × ℕ) × ℕ)
    page_entries = flat_map own_pages (map.keys base)

    pub pages_read : map.FinMap pair_cmp ℕ
    pages_read = map.from_entries page_entries

    pub dentries_read : map.FinMap pair_cmp (List Dentry)
    dentries_read = map.from_entries (map_list (λ (e : (ℕ × ℕ) × ℕ). (e.0, dentries_of (block_at image e.1))) page_entries)

    pub record IsPageRead (at : ℕ × ℕ) (address : ℕ) : Type 0 where
      pub row : IsSome (map.get base at.0)
      pub within : at.1 < most
      pub some : address ≢ 0
      pub is : address_of at.0 at.1 ≡ address

    -- an entry of a page is right
    page_right : (at : ℕ × ℕ) (address : ℕ) (e : (ℕ × ℕ) × ℕ) (ino page : ℕ) → at ≡ e.0 → address ≡ e.1 → e ≡ page_entry ino page → IsIn ino (map.keys base) → IsIn page (filter (λ p. not (address_of ino p == 0)) (numbers_below most)) → IsPageRead at address
    unfolding page_entry
    page_right at address e ino page at_is address_is e_is of_base listed =
        let passes = from_filter (λ p. not (address_of ino p == 0)) page (numbers_below most) listed in
        let pair : at ≡ (page_entry ino page).0 = at_is ∙ ap (λ (f : (ℕ × ℕ) × ℕ). f.0) e_is in
        let is_address : address ≡ address_of ino page = address_is ∙ ap (λ (f : (ℕ × ℕ) × ℕ). f.1) e_is in
        let right : IsPageRead (page_entry ino page).0 (address_of ino page) = record {
          row = key_there base ino of_base;
          within = from_numbers most page passes.1;
          some = no_zero (address_of ino page) passes.0;
          is = refl;
        } in
        subst (λ (of : ℕ × ℕ). IsPageRead of address) (sym pair) (subst (λ a. IsPageRead (page_entry ino page).0 a) (sym is_address) right)

    pub page_read : (at : ℕ × ℕ) (address : ℕ) → map.get pages_read at ≡ Some address → IsPageRead at address
    unfolding pages_read page_entries own_pages
    page_read at address there =
        let found = found_in at address page_entries (sym (get-from_entries pair_cmp_total page_entries at) ∙ there) in
        let of_row = from_flat own_pages found.0 (map.keys base) found.1 in
        let of_page = from_map (page_entry of_row.0) found.0 (filter (λ page. not (address_of of_row.0 page == 0)) (numbers_below most)) of_row.2 in
        page_right at address found.0 of_row.0 of_page.0 found.2 found.3 of_page.2 of_row.1 of_page.1

    pub page_given : (ino page : ℕ) → IsSome (map.get base ino) → page < most → address_of ino page ≢ 0 → map.get pages_read (ino, page) ≡ Some (address_of ino page)
    unfolding pages_read page_entries own_pages page_entry
    page_given ino page row within some =
        let listed = in_filter (λ p. not (address_of ino p == 0)) page (numbers_below most) (some_number (address_of ino page) some) (in_numbers most page within) in
        let own = in_map (page_entry ino) page (filter (λ p. not (address_of ino p == 0)) (numbers_below most)) listed in
        let there = some_found (page_entry ino page) page_entries (in_flat own_pages ino (page_entry ino page) (map.keys base) (there_key base ino row) own) in
        let found = the_one (map.get pages_read (ino, page)) (ap is_some (get-from_entries pair_cmp_total page_entries (ino, page)) ∙ there) in
        found.1 ∙ ap Some (sym (page_read (ino, page) found.0 found.1).is)

    pub dentries_given : (at : ℕ × ℕ) → map.get dentries_read at ≡ map_option (λ a. dentries_of (block_at image a)) (map.get pages_read at)
    unfolding dentries_read pages_read
    dentries_given at =
        get-from_entries pair_cmp_total (map_list (λ (e : (ℕ × ℕ) × ℕ). (e.0, dentries_of (block_at image e.1))) page_entries) at
        ∙ find_map (λ a. dentries_of (block_at image a)) at page_entries ∙ ap (map_option (λ a. dentries_of (block_at image a))) (sym (get-from_entries pair_cmp_total page_entries at))
